use Rattle.std.proofs.Common.{◌≡◌, length}
use Rattle.boss_state_check.specs.Tests.{have_own_names}
use Rattle.boss_state_check.proofs.processes.have_own_names.Given as goal

-- nothing is against the names so far
abbrev pub invariant-loop-process : goal.invariant-loop-process
invariant-loop-process l = have_own_names l.processes ≡ have_own_names l.rest

abbrev pub decreases-loop-process : goal.decreases-loop-process
decreases-loop-process l = length l.rest
