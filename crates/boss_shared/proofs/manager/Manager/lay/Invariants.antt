use Rattle.std.proofs.Common.{◌≡◌}
use Rattle.boss_shared.proofs.manager.Manager.lay.Given as goal

abbrev pub invariant-loop-counter : goal.invariant-loop-counter
invariant-loop-counter g l = l.request ≡ l.fn.request
