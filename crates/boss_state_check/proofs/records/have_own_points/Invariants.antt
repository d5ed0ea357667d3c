use Rattle.std.proofs.Common.{◌≡◌, length}
use Rattle.boss_state_check.specs.Tests.{have_own_points}
use Rattle.boss_state_check.proofs.records.have_own_points.Given as goal

-- nothing is against the points so far
abbrev pub invariant-loop-part : goal.invariant-loop-part
invariant-loop-part l = have_own_points l.parts ≡ have_own_points l.rest

abbrev pub decreases-loop-part : goal.decreases-loop-part
decreases-loop-part l = length l.rest
