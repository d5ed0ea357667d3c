use Rattle.std.proofs.Common.{subst, arith}
use Rattle.boss_disk_pair.proofs.Findings.{plain_long}
use Rattle.boss_feeding.proofs.Stood.{feed_plain_log, plain_log}
use Rattle.boss_outside.specs.Streams.{Writes}
use Rattle.boss_feeding.proofs.feeding.feed_plain.Goals as goal

pub feed_log-requires-clause-inside : goal.feed_log-requires-clause-inside
feed_log-requires-clause-inside g c tells = let long = plain_long (g.D.Disk.reads c.args.disk) (c.requires tells) in omega (arith, long)

pub returns-clause-told : goal.returns-clause-told
returns-clause-told g c tells takes plant digest base before events len has =
    let log = plain_log plant digest base before events (g.D.Disk.reads c.args.disk) has len (c.requires tells) in
    subst (λ text. Writes (g.K.Sink.taken c.args.sink.now) (g.K.Sink.taken c.feed_log.new.sink) text c.feed_log.result.1)
    (feed_plain_log c.args.from base before events log.1) (c.feed_log.ensures.told tells takes events log.0)
