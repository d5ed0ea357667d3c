use Rattle.std.proofs.Common.{◌<◌, length}
use Rattle.trial_ringing.proofs.rings.tell_all.Given as goal

abbrev pub invariant-loop : goal.invariant-loop
invariant-loop g l = 2 < length l.ringing.keeper.engine.plant
