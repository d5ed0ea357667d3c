-- Source: own.
use Rattle.std.specs.Prelude.{ℕ, List, [], ◌∷◌, None, slice_get, unwrap_or}
use Rattle.boss_model.specs.declared.state.Actuator.{Actuator}
use Rattle.boss_model.specs.Sound.{IsProcess}
use Rattle.boss_model.specs.State.{Process}
use Rattle.boss_notices.specs.Rings.{Ring}
use Rattle.boss_persistent.specs.declared.processes.Entry.{Entry}

-- the process of this entry that was told what the ring keeps
abbrev pub process_of : Entry → Ring → Process
process_of entry ring = record { name = entry.name; count = ring.count; kept = ring.kept; reply = entry.reply }

-- the processes of these entries, in their order
abbrev pub processes_of : List Entry → List Ring → List Process
processes_of [] rings = []
processes_of (entry ∷ entries) [] = []
processes_of (entry ∷ entries) (ring ∷ rings) = process_of entry ring ∷ processes_of entries rings

-- the process at a place; where there is none, one without a name
abbrev pub process_at : List Process → ℕ → Process
process_at processes process = unwrap_or (slice_get processes process) (record { name = []; count = 0; kept = []; reply = None })

-- a process of some sound state
abbrev pub IsSomeProcess : Process → Type 0
IsSomeProcess process = (plant : List Actuator) × (now : ℕ) × IsProcess plant now process
