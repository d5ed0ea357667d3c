use Rattle.std.proofs.Common.{arith}
use Rattle.trial_shared.proofs.together.ask_together.Goals as goal

pub apply_together-requires-clause-few : goal.apply_together-requires-clause-few
apply_together-requires-clause-few g c = omega (arith, c.caller.ensures.count, c.caller-2.ensures.count)

pub apply_together-requires-clause-may : goal.apply_together-requires-clause-may
apply_together-requires-clause-may g c = (c.caller.ensures.may _ c.requires, (c.caller-2.ensures.may _ c.requires, tt))
