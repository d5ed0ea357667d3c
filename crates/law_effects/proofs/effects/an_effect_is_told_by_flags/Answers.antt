use Rattle.law_effects.proofs.Flags.{step-flags}
use Rattle.law_effects.proofs.effects.an_effect_is_told_by_flags.Goals as goal

pub returns : goal.returns
returns c plant s session command m sound allowed small = step-flags plant s session command m sound allowed small
