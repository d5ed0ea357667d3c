use Rattle.std.proofs.Common.{◌≡◌, length}
use Rattle.trial_engine.proofs.timers.set_thousand.Given as goal

abbrev pub invariant-loop-slot : goal.invariant-loop-slot
invariant-loop-slot l = length l.timers ≡ 1000
