use Rattle.std.proofs.Common.{◌<◌, List, length, sym, subst, arith}
use Rattle.boss_model.specs.declared.state.Actuator.{Actuator}
use Rattle.trial_reopening.proofs.together.ask_together.Goals as goal

pub apply_together-requires-clause-few : goal.apply_together-requires-clause-few
apply_together-requires-clause-few g c = omega (arith, c.caller.ensures.count, c.caller-2.ensures.count)

pub apply_together-requires-clause-may : goal.apply_together-requires-clause-may
apply_together-requires-clause-may g c =
    let some = subst (λ (p : List Actuator). 0 < length p) (sym c.requires.plant) c.requires.points in
    (c.caller.ensures.may _ some, (c.caller-2.ensures.may _ some, tt))
