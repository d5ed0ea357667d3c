-- The events of a history, done again, lead to what it came to.
use Rattle.std.proofs.Common.{◌≡◌, ℕ, List, [], ◌∷◌, Option, Some, None, refl, ap, sym, ◌∙◌}
use Rattle.std.specs.List.{fold}
use Rattle.boss_model.specs.declared.command.Command.{Command}
use Rattle.boss_model.specs.declared.event.Effect.{Effect}
use Rattle.boss_model.specs.declared.event.Effect.TheVariants as effect
use Rattle.boss_model.specs.declared.event.Event.{Event}
use Rattle.boss_model.specs.declared.state.Actuator.{Actuator}
use Rattle.boss_model.specs.Acts.{replay_next}
use Rattle.boss_model.specs.Effects.{event_of, step_effect}
use Rattle.boss_model.specs.Machine.{step}
use Rattle.boss_model.specs.Run.{replay_all}
use Rattle.boss_model.specs.Sound.{IsSound}
use Rattle.boss_model.specs.State.{State}
use Rattle.law_soundness.proofs.StepSound.{step-sound}
use Rattle.law_machine.proofs.Replay.{step-again, step-unchanged}
use Rattle.def_history.specs.declared.entry.Entry.{Entry}
use Rattle.def_history.specs.declared.entry.Entry.TheVariants.{Did, Broke}
use Rattle.def_history.specs.History.{after_entry, events, if_event, IsLegal, MayCall, run}

no-event : (c : Command) (e : Effect) → event_of c e ≡ None → e ≡ effect.Unchanged
no-event c effect.Unchanged none = refl
no-event c (effect.Tick moment) none = cc
no-event c (effect.Whole moment owner) none = cc

one-again : (plant : List Actuator) (s : State) (session : ℕ) (c : Command) (m : ℕ) (rest : List Event) → IsSound plant s → MayCall plant (c, m) →
    (found : Option Event) → event_of c (step_effect plant session c m s) ≡ found →
    replay_all plant s.persistent (if_event found rest) ≡ replay_all plant (step plant session c m s).state.persistent rest
one-again plant s session c m rest sound may (Some event) is =
    ap (λ d. fold (replay_next plant) d rest) (step-again plant s session c m event sound may.0 may.1 is)
one-again plant s session c m rest sound may None is =
    ap (λ d. fold (replay_next plant) (Some d) rest) (sym (step-unchanged plant s session c m (no-event c (step_effect plant session c m s) is)))

pub history-again : (plant : List Actuator) (xs : List Entry) (s : State) → IsSound plant s → IsLegal plant xs s →
    replay_all plant s.persistent (events plant xs s) ≡ Some (run plant xs s).persistent
history-again plant [] s sound legal = refl
history-again plant (Did session c m answer ∷ xs) s sound legal =
    one-again plant s session c m (events plant xs (after_entry plant (Did session c m answer) s)) sound legal.0.0 (event_of c (step_effect plant session c m s)) refl
    ∙ history-again plant xs (after_entry plant (Did session c m answer) s) (step-sound plant session c m s legal.0.0.0 legal.0.0.1 sound) legal.2
history-again plant (Broke session commands others ∷ xs) s sound legal = history-again plant xs s sound legal.2
