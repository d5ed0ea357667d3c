use Rattle.law_adoption.proofs.MovedSound.{adoption-sound}
use Rattle.law_adoption.proofs.adoption.an_adopted_state_is_sound.Goals as goal

pub returns : goal.returns
returns c old new d apart sound unused fit = adoption-sound old new d apart sound unused fit
