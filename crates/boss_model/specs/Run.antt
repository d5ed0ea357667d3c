-- Source: own.
use Rattle.std.specs.Prelude.{ℕ, List, [], ◌∷◌, fold, Option, Some}
use Rattle.std.specs.List.{cons_option}
use Rattle.boss_model.specs.declared.answer.Answer.{Answer}
use Rattle.boss_model.specs.declared.command.Command.{Command}
use Rattle.boss_model.specs.declared.event.Event.{Event}
use Rattle.boss_model.specs.Acts.{replay_next}
use Rattle.boss_model.specs.Catalogue.{Actuator}
use Rattle.boss_model.specs.Effects.{step_effect, event_of}
use Rattle.boss_model.specs.Machine.{step}
use Rattle.boss_model.specs.State.{Persistent, State}

-- a command of a session at a moment
pub record Call : Type 0 where
  pub session : ℕ
  pub command : Command
  pub moment : ℕ

abbrev pub stepped : List Actuator → State → Call → State
stepped plant s call = (step plant call.session call.command call.moment s).state

-- the state after some calls, one after another
abbrev pub run : List Actuator → State → List Call → State
run plant s calls = fold (stepped plant) s calls

-- their answers
abbrev pub answers : List Actuator → State → List Call → List Answer
answers plant s [] = []
answers plant s (call ∷ calls) = (step plant call.session call.command call.moment s).answer ∷ answers plant (stepped plant s call) calls

-- and their events
abbrev pub events : List Actuator → State → List Call → List Event
events plant s [] = []
events plant s (call ∷ calls) =
    cons_option (event_of call.command (step_effect plant call.session call.command call.moment s)) (events plant (stepped plant s call) calls)

-- the persistent part that events lead to, from another one; none where one of them is not effective
abbrev pub replay_all : List Actuator → Persistent → List Event → Option Persistent
replay_all plant d events = fold (replay_next plant) (Some d) events
