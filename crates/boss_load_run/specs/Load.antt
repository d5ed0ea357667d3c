-- Source: own.
-- The load that is run, and what its summary tells.
use Rattle.std.specs.Prelude.{◌≡◌, ℕ, ◌-◌, ◌^◌, min, Bool, true, false, List, [], ◌++◌, codes, sum_by, None, Result, Ok, Err}
use Rattle.std.specs.List.{AllByRecursion}
use Rattle.boss_model.specs.Catalogue.{actuators}
use Rattle.boss_model.specs.Lines.{lines}
use Rattle.boss_model.specs.Settle.{first_state}
use Rattle.boss_model.specs.State.{Persistent, Process}
use Rattle.def_wire.specs.Script.{Run, script}
use Rattle.boss_outside.specs.Counts.{Rose}
use Rattle.boss_outside.specs.Streams.{TakesFront}
use Rattle.boss_outside.specs.declared.sink.Sink as sink
use Rattle.boss_points.specs.Reading.{catalogue_of}
use Rattle.boss_load.specs.Day.{load_catalogue, load_script, value_of}
use Rattle.boss_scripts.specs.declared.broken.Broken.{Broken}
use Rattle.boss_scripts.specs.declared.broken.Broken.TheVariants.{WriteFault, NoMemory}
use Rattle.boss_load_run.specs.declared.summary.Summary.{Summary}
use Rattle.boss_load_run.specs.Lines.{lines_with, summary_line}
use Rattle.boss_load_run.specs.Plant.{plant}

-- how many notices these processes were sent, up to `2 ^ 64 - 1`
abbrev pub notices_sent : List Process → ℕ
notices_sent processes = min (sum_by (λ process. process.count) processes) (2 ^ 64 - 1)

-- the summary of a load that told this text, and of which this lasts
abbrev pub summary_of : ℕ → ℕ → List ℕ → Persistent → Summary
summary_of count seed text lasting = record {
  accepted = lines_with (codes "{\"ok\":\"accepted\"") text;
  renewed = lines_with (codes "{\"ok\":\"renewed\"") text;
  refused = lines_with (codes "{\"error\"") text;
  notices = notices_sent lasting.processes;
  writes = lines_with (codes "write ") text;
  now = lasting.now;
  last = value_of seed (count - 1);
}

-- a script of these lines over the load's plant, from the first state, where the devices answer this
abbrev pub run_over : List (List ℕ) → List Bool → Run
run_over all results = script plant (first_state (actuators plant)) all results None

-- The script was run to its end, with devices that took each of their calls: it told this text, and this lasts.
pub record Ran (all : List (List ℕ)) (text : List ℕ) (lasting : Persistent) : Type 0 where
  pub results : List Bool
  pub taken : AllByRecursion (λ ok. ok ≡ true) results
  pub finished : (run_over all results).short ≡ false
  pub used : (run_over all results).results ≡ []
  pub told : text ≡ (run_over all results).text
  pub lasts : lasting ≡ (run_over all results).state.persistent

-- This sums up the load; its plant is the one that the catalogue's file spells.
pub record Summarizes (count seed : ℕ) (summary : Summary) : Type 0 where
  pub spells : catalogue_of load_catalogue ≡ Ok plant
  pub text : List ℕ
  pub lasting : Persistent
  pub ran : Ran (lines (load_script count seed)) text lasting
  pub sums : summary ≡ summary_of count seed text lasting

-- The load's summary was told as one line; or a write failed, and the front of this line was told; or no memory was to be had, and
-- the sink is as it was.
module _ {K : Type 0} (k : sink.Ghosts K) where
  abbrev pub TellsLoad : {T : Type 0} → ℕ → ℕ → K → K → Result T Broken → Type 0
  TellsLoad count seed old new (Ok _) = (summary : Summary) × Summarizes count seed summary
      × (k.tells → k.taken new ≡ k.taken old ++ summary_line summary) × (k.faults new ≡ k.faults old)
  TellsLoad count seed old new (Err WriteFault) = (summary : Summary) × Summarizes count seed summary
      × (k.tells → TakesFront (k.taken old) (k.taken new) (summary_line summary)) × Rose (k.faults old) (k.faults new)
  TellsLoad count seed old new (Err NoMemory) = new ≡ old
