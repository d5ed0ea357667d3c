-- A legal history keeps a sound state sound.
use Rattle.std.proofs.Common.{List, [], ◌∷◌}
use Rattle.boss_model.specs.declared.state.Actuator.{Actuator}
use Rattle.boss_model.specs.Sound.{IsSound}
use Rattle.boss_model.specs.State.{State}
use Rattle.law_soundness.proofs.StepSound.{step-sound}
use Rattle.def_history.specs.declared.entry.Entry.{Entry}
use Rattle.def_history.specs.declared.entry.Entry.TheVariants.{Did, Broke}
use Rattle.def_history.specs.History.{after_entry, run, IsLegal}

pub legal-sound : (plant : List Actuator) (xs : List Entry) (s : State) → IsSound plant s → IsLegal plant xs s → IsSound plant (run plant xs s)
legal-sound plant [] s sound legal = sound
legal-sound plant (Did session command moment answer ∷ xs) s sound legal =
    legal-sound plant xs (after_entry plant (Did session command moment answer) s) (step-sound plant session command moment s legal.0.0.0 legal.0.0.1 sound) legal.2
legal-sound plant (Broke session commands others ∷ xs) s sound legal = legal-sound plant xs s sound legal.2
