use Rattle.def_history.proofs.Sound.{legal-sound}
use Rattle.def_history.proofs.laws.a_legal_history_keeps_a_sound_state_sound.Goals as goal

pub returns : goal.returns
returns c plant all s sound legal = legal-sound plant all s sound legal
