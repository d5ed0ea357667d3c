use Rattle.law_adoption.proofs.MovedTargets.{adoption-keeps}
use Rattle.law_adoption.proofs.adoption.an_adoption_keeps_targets.Goals as goal

pub returns : goal.returns
returns c old new d name p q m apart sound unused fit in_old in_new small = adoption-keeps old new d name p q m apart sound unused fit in_old in_new small
