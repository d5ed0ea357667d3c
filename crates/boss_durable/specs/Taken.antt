-- Source: own.
-- What was done so far in a call.
use Rattle.std.specs.Prelude.{◌≡◌, ◌≤◌, true, false, List, length, Some}
use Rattle.std.specs.List.{AllByRecursion}
use Rattle.def_bytes.specs.Batches.{batch_text}
use Rattle.def_bytes.specs.Events.{event}
use Rattle.def_history.specs.declared.entry.Entry.{Entry}
use Rattle.def_history.specs.History.{events, is_broken, IsLegal, run}
use Rattle.boss_model.specs.declared.state.Actuator.{Actuator}
use Rattle.boss_model.specs.Run.{replay_all}
use Rattle.boss_model.specs.State.{State}
use Rattle.boss_durable.specs.declared.batch.Batch.{Batch}

-- From the start on these entries came, which led to where the machine is now; the batch has their events, which lead there again.
pub record Taken (plant : List Actuator) (made : List Entry) (start now : State) (batch : Batch) : Type 0 where
  pub whole : is_broken made ≡ false
  pub legal : IsLegal plant made start
  pub state_is : now ≡ run plant made start
  pub text : batch.bytes.bytes ≡ batch_text (events plant made start)
  pub many : batch.events ≡ length (events plant made start)
  pub few : length (events plant made start) ≤ length made
  pub fitting : AllByRecursion (λ e. event.fits e ≡ true) (events plant made start)
  pub leads : replay_all plant start.persistent (events plant made start) ≡ Some now.persistent
