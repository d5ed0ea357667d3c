-- Source: own.
-- A script as a whole.
use Rattle.std.specs.Prelude.{◌≡◌, ℕ, Bool, false, if◌then◌else◌, List, [], ◌++◌, length, Option, Some, None}
use Rattle.boss_model.specs.DeviceCall.{DeviceCall}
use Rattle.boss_model.specs.Catalogue.{Catalogue, actuators}
use Rattle.boss_model.specs.State.{State}
use Rattle.def_wire.specs.Script.{Run, script}
use Rattle.def_history.specs.declared.entry.Entry.{Entry}
use Rattle.def_history.specs.History.{deeds, events, is_broken, run}
use Rattle.boss_scripts.specs.InTime.{AreInTime}
use Rattle.boss_scripts.specs.Outside.{Answered, Outside}
use Rattle.boss_scripts.specs.Runs.{dealt, IsFrontOf}

-- how many steps a script makes that leaves these entries: all of them, or where the disk failed those that were done
abbrev pub steps_of : List Entry → Option ℕ
steps_of entries = if is_broken entries then Some (length (deeds entries)) else None

-- the script over these lines, from a state, where the devices answer this and these entries are left
abbrev pub script_with : Catalogue → State → List (List ℕ) → List Entry → List Bool → Run
script_with catalogue s all entries results = script catalogue s all results (steps_of entries)

-- A script ran to its end, which is that of its lines or, where it is over, a line that is too long: for some answers of the
-- devices, all of which were used, its text is what the sink took and its events are those of these entries, and it has stopped
-- exactly where the last of them is the mark. Where no device's count of faults rose these answers are all that the call was
-- taken. Where the devices tell their calls and none is missing, the script's calls are those that they gained, each behind the
-- driver of its point. The state that it comes to is that of these entries. Whenever the source was read, what is told over the lines
-- that had come whole by then was told.
pub record RanScript (catalogue : Catalogue) (s : State) (all : List (List ℕ)) (is_over : Bool) (entries : List Entry) (old new : Outside) : Type 0 where
  pub results : List Bool
  pub finished : (script_with catalogue s all entries results).short ≡ false
  pub over : (script_with catalogue s all entries results).over ≡ is_over
  pub used : (script_with catalogue s all entries results).results ≡ []
  pub stopped : (script_with catalogue s all entries results).stopped ≡ is_broken entries
  pub text : new.trace.taken ≡ old.trace.taken ++ (script_with catalogue s all entries results).text
  pub events : (script_with catalogue s all entries results).events ≡ events (actuators catalogue) entries s
  pub state : (script_with catalogue s all entries results).state ≡ run (actuators catalogue) entries s
  pub answered : Answered results old.trace.faults new.trace.faults
  pub devices : new.trace.whole → old.trace.whole × (new.trace.calls ≡ dealt (actuators catalogue) (script_with catalogue s all entries results).calls old.trace.calls)
  pub in_time : AreInTime (λ come. script_with catalogue s come entries results) old.left (length old.trace.taken) old.reads new.reads

-- A script broke off: for some answers of the devices, what the sink took is the front of its text, the calls that the devices
-- gained are the front of its calls, and the events of these entries are the front of its events. Its source was read as said above.
pub record BrokeScript (catalogue : Catalogue) (s : State) (all : List (List ℕ)) (entries : List Entry) (old new : Outside) : Type 0 where
  pub results : List Bool
  pub told : List ℕ
  pub calls : List DeviceCall
  pub front : IsFrontOf told (script_with catalogue s all entries results).text
  pub first : IsFrontOf calls (script_with catalogue s all entries results).calls
  pub earliest : IsFrontOf (events (actuators catalogue) entries s) (script_with catalogue s all entries results).events
  pub text : new.trace.taken ≡ old.trace.taken ++ told
  pub answered : Answered results old.trace.faults new.trace.faults
  pub devices : new.trace.whole → old.trace.whole × (new.trace.calls ≡ dealt (actuators catalogue) calls old.trace.calls)
  pub in_time : AreInTime (λ come. script_with catalogue s come entries results) old.left (length old.trace.taken) old.reads new.reads
