use Rattle.std.proofs.Common.{ap, subst}
use Rattle.boss_outside.specs.Streams.{Writes}
use Rattle.boss_sessions.proofs.PutLemmas.{puts-told}
use Rattle.boss_sessions.proofs.replies.make_room.Goals as goal

pub returns-clause-bytes : goal.returns-clause-bytes
returns-clause-bytes g c tells =
    puts-told (g.K.Sink.taken c.args.sink.now) c.args.text.now.bytes (g.K.Sink.taken c.write-told.new.self) c.clear.new.self.bytes c.write-told.result (ap (λ text. text.bytes) c.clear.ensures)
    (subst (λ bytes. Writes (g.K.Sink.taken c.args.sink.now) (g.K.Sink.taken c.write-told.new.self) bytes c.write-told.result) c.bytes-2.ensures (c.write-told.ensures.bytes tells))
