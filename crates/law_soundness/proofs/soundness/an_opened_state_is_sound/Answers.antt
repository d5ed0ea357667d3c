use Rattle.law_soundness.proofs.Opened.{first-sound, opened-sound}
use Rattle.law_soundness.proofs.soundness.an_opened_state_is_sound.Goals as goal

pub returns-clause-first : goal.returns-clause-first
returns-clause-first c plant = first-sound plant

pub returns-clause-opened : goal.returns-clause-opened
returns-clause-opened c plant d sound = opened-sound plant d sound
