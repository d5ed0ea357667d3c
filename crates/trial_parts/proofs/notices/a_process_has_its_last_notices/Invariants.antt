use Rattle.std.proofs.Common.{◌<◌, length}
use Rattle.trial_parts.proofs.notices.a_process_has_its_last_notices.Given as goal

abbrev pub invariant-loop-txn : goal.invariant-loop-txn
invariant-loop-txn g l = l.busy < length l.rings
