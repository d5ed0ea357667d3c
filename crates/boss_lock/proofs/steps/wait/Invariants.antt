use Rattle.std.proofs.Common.{◌≡◌}
use Rattle.boss_lock.specs.Steps.{IsSameToken}
use Rattle.boss_lock.proofs.steps.wait.Given as goal

abbrev pub invariant-loop : goal.invariant-loop
invariant-loop g l = IsSameToken l.initial.token l.token × (l.token.me ≡ l.initial.token.me)
