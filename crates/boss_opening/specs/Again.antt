-- Source: own.
-- What is said of records that are done again.
use Rattle.std.specs.Prelude.{◌≡◌, ℕ, ◌≤◌, true, List, ◌++◌, length, take, Some}
use Rattle.def_bytes.specs.Batches.{act_number, batch_text}
use Rattle.def_bytes.specs.Events.{event}
use Rattle.boss_model.specs.declared.event.Event.{Event}
use Rattle.boss_model.specs.declared.state.Actuator.{Actuator}
use Rattle.boss_model.specs.Acts.{replay}
use Rattle.boss_model.specs.State.{Persistent}
use Rattle.def_disk_pair.specs.Contents.{IsNext}

abbrev pub HasSpelling : Event → Type 0
HasSpelling e = event.fits e ≡ true

-- An event that has a spelling, and that a disk of the version knows, leads from the one state to the other.
pub record LeadsOn (plant : List Actuator) (version : ℕ) (from : Persistent) (e : Event) (to : Persistent) : Type 0 where
  pub spelled : HasSpelling e
  pub known : version ≡ 1 → act_number e.act ≡ 0
  pub leads : replay plant e from ≡ Some to

-- So many of the bytes, from the first on, are such an event.
pub record BeginsOn (plant : List Actuator) (version : ℕ) (from : Persistent) (bytes : List ℕ) (size : ℕ) (to : Persistent) : Type 0 where
  pub first : Event
  pub next : LeadsOn plant version from first to
  pub within : size ≤ length bytes
  pub is : take size bytes ≡ event.text first
  pub some_byte : 1 ≤ size

-- The bytes begin with no such event.
abbrev pub NoneBegins : List Actuator → ℕ → Persistent → List ℕ → Type 0
NoneBegins plant version from bytes = (e : Event) (rest : List ℕ) (to : Persistent) → bytes ≡ event.text e ++ rest → LeadsOn plant version from e to → ⊥

-- The bytes are a record of so many events, which lead from the one state to the other.
pub record Leads (plant : List Actuator) (version : ℕ) (from : Persistent) (bytes : List ℕ) (count : ℕ) (to : Persistent) : Type 0 where
  pub batch : List Event
  pub is : bytes ≡ batch_text batch
  pub many : length batch ≡ count
  pub next : IsNext plant version from batch to
