-- One step of a script that is made, or that is not, and its event.
use Rattle.std.proofs.Common.{◌≡◌, ℕ, Bool, true, List, [], ◌++◌, Option, Some, None, refl, ap, sym, ◌∙◌}
use Rattle.std.specs.Option.{option_to_list}
use Rattle.boss_model.specs.declared.answer.Answer.{Answer}
use Rattle.boss_model.specs.declared.command.Command.{Command}
use Rattle.boss_model.specs.declared.event.Event.{Event}
use Rattle.boss_model.specs.DeviceCall.{DeviceCall}
use Rattle.boss_model.specs.Catalogue.{Catalogue, actuators}
use Rattle.boss_model.specs.Effects.{event_of, step_effect}
use Rattle.boss_model.specs.Machine.{step}
use Rattle.def_wire.specs.Script.{Run, stepping}
use Rattle.def_history.specs.History.{if_event}
use Rattle.boss_scripts.specs.Runs.{at, one_step_more, Under}

module _ (catalogue : Catalogue) (session : ℕ) (command : Command) (moment : ℕ) (go : Answer → Run → Run) (halt : Run → Run)
    (u : Under) (text : List ℕ) (calls : List DeviceCall) (events : List Event) (results : List Bool) where
  abbrev done_at : Option ℕ → Run
  done_at left =
      at (record { state = (step (actuators catalogue) session command moment u.state).state; stopped = u.stopped }) text calls
      (events ++ option_to_list (event_of command (step_effect (actuators catalogue) session command moment u.state))) results left

  pub step-made : (left : Option ℕ) → stepping catalogue session command moment go halt (at u text calls events results (one_step_more left))
      ≡ go (step (actuators catalogue) session command moment u.state).answer (done_at left)
  step-made None = refl
  step-made (Some left) = refl

  pub step-halts : (left : Option ℕ) → left ≡ Some 0 →
      stepping catalogue session command moment go halt (at u text calls events results left) ≡ halt (at (record { state = u.state; stopped = true }) text calls events results left)
  step-halts left none =
      ap (λ n. stepping catalogue session command moment go halt (at u text calls events results n)) none
      ∙ ap (λ n. halt (at (record { state = u.state; stopped = true }) text calls events results n)) (sym none)

pub one-event : (before : List Event) (made : Option Event) → before ++ option_to_list made ≡ before ++ if_event made []
one-event before None = refl
one-event before (Some event) = refl
