use Rattle.std.proofs.Common.{ap, ◌∙◌, Some, arith}
use Rattle.def_bytes.specs.Fields.{◌>>=◌}
use Rattle.boss_snapshot.proofs.OfNotices.{too_many, more_than_sent, sent_are}
use Rattle.boss_snapshot.proofs.processes.read_sent.Goals as goal

pub returns-then-from-gt-NOTICES_KEPT : goal.returns-then-from-gt-NOTICES_KEPT
returns-then-from-gt-NOTICES_KEPT c =
    too_many c.args.bytes.now c.in_ok-count.rest.now c.in_ok-many.rest.now c.in_ok-count.count c.in_ok-many.many c.in_ok-count.ensures c.in_ok-many.ensures (omega arith)

pub returns-then-from-count : goal.returns-then-from-count
returns-then-from-count c =
    more_than_sent c.args.bytes.now c.in_ok-count.rest.now c.in_ok-many.rest.now c.in_ok-count.count c.in_ok-many.many c.in_ok-count.ensures c.in_ok-many.ensures (omega arith) (omega arith)

pub returns-in-Ok : goal.returns-in-Ok
returns-in-Ok c =
    sent_are c.args.bytes.now c.in_ok-count.rest.now c.in_ok-many.rest.now c.in_ok-count.count c.in_ok-many.many c.in_ok-count.ensures c.in_ok-many.ensures (omega arith) _ c.before_last-before.ensures
    ∙ ap (λ found. found >>= λ y. Some ((c.in_ok-count.count, y.0), y.1)) c.in-Ok.ensures
