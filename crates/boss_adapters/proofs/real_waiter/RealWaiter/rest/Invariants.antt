use Rattle.std.proofs.Common.{◌≡◌}
use Rattle.boss_adapters.proofs.real_waiter.RealWaiter.rest.Given as goal

abbrev pub invariant-loop-left : goal.invariant-loop-left
invariant-loop-left g l = l.self.closes ≡ l.initial.self.closes

abbrev pub decreases-loop-left : goal.decreases-loop-left
decreases-loop-left g l = l.left
