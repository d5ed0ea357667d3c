-- Source: own.
-- A script as a whole.
use Rattle.std.specs.Prelude.{◌≡◌, ℕ, Bool, false, List, [], ◌++◌, length, None}
use Rattle.boss_model.specs.DeviceCall.{DeviceCall}
use Rattle.boss_model.specs.Catalogue.{Catalogue, actuators}
use Rattle.def_wire.specs.Script.{Run, script}
use Rattle.boss_model.specs.Settle.{first_state}
use Rattle.boss_scripts.specs.InTime.{AreInTime}
use Rattle.boss_scripts.specs.Outside.{Answered, Outside}
use Rattle.boss_scripts.specs.Runs.{dealt, IsFrontOf}

-- the script over these lines, from the first state, where the devices answer this and the journal does not fail
abbrev pub whole_script : Catalogue → List (List ℕ) → List Bool → Run
whole_script catalogue all results = script catalogue (first_state (actuators catalogue)) all results None

-- A script ran to its end, which is that of its lines or, where it is over, a line that is too long: for some answers of the
-- devices, all of which were used, its text is what the sink took. Where no device's count of faults rose these answers are all
-- that the call was taken. Where the devices tell their calls and none is missing, the script's calls are those that they
-- gained, each behind the driver of its point. Whenever the source was read, what is told over the lines that had come whole by then
-- was told.
pub record RanScript (catalogue : Catalogue) (all : List (List ℕ)) (is_over : Bool) (old new : Outside) : Type 0 where
  pub results : List Bool
  pub finished : (whole_script catalogue all results).short ≡ false
  pub over : (whole_script catalogue all results).over ≡ is_over
  pub used : (whole_script catalogue all results).results ≡ []
  pub text : new.trace.taken ≡ old.trace.taken ++ (whole_script catalogue all results).text
  pub answered : Answered results old.trace.faults new.trace.faults
  pub devices : new.trace.whole → old.trace.whole × (new.trace.calls ≡ dealt (actuators catalogue) (whole_script catalogue all results).calls old.trace.calls)
  pub in_time : AreInTime (λ come. whole_script catalogue come results) old.left (length old.trace.taken) old.reads new.reads

-- A script broke off: for some answers of the devices, what the sink took is the front of its text, and the calls that the
-- devices gained are the front of its calls. Its source was read as said above.
pub record BrokeScript (catalogue : Catalogue) (all : List (List ℕ)) (old new : Outside) : Type 0 where
  pub results : List Bool
  pub told : List ℕ
  pub calls : List DeviceCall
  pub front : IsFrontOf told (whole_script catalogue all results).text
  pub first : IsFrontOf calls (whole_script catalogue all results).calls
  pub text : new.trace.taken ≡ old.trace.taken ++ told
  pub answered : Answered results old.trace.faults new.trace.faults
  pub devices : new.trace.whole → old.trace.whole × (new.trace.calls ≡ dealt (actuators catalogue) calls old.trace.calls)
  pub in_time : AreInTime (λ come. whole_script catalogue come results) old.left (length old.trace.taken) old.reads new.reads
