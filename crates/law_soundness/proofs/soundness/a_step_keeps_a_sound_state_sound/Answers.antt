use Rattle.law_soundness.proofs.StepSound.{step-sound}
use Rattle.law_soundness.proofs.soundness.a_step_keeps_a_sound_state_sound.Goals as goal

pub returns : goal.returns
returns c plant session command m s allowed small sound = step-sound plant session command m s allowed small sound
