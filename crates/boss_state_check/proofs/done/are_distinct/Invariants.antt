use Rattle.std.proofs.Common.{◌≡◌, length}
use Rattle.boss_state_check.specs.Tests.{are_distinct}
use Rattle.boss_state_check.proofs.done.are_distinct.Given as goal

-- nothing is against the numbers so far
abbrev pub invariant-loop-txn : goal.invariant-loop-txn
invariant-loop-txn l = are_distinct l.done ≡ are_distinct l.rest

abbrev pub decreases-loop-txn : goal.decreases-loop-txn
decreases-loop-txn l = length l.rest
