-- Source: own.
-- What a pair stands for, and what the disk in force holds of it, as it is told.
use Rattle.std.specs.Prelude.{◌≡◌, ℕ, ◌-◌, if◌then◌else◌, List, length, map, take, drop}
use Rattle.std.specs.List.{AllByRecursion}
use Rattle.boss_model.specs.declared.event.Event.{Event}
use Rattle.boss_model.specs.declared.state.Actuator.{Actuator}
use Rattle.boss_model.specs.State.{Persistent}
use Rattle.def_bytes.specs.Batches.{batch_text, IsBatch}
use Rattle.def_disk_pair.specs.Contents.{joined}
use Rattle.def_disk_pair.specs.Pairs.{StandsFor}
use Rattle.def_log.specs.Log.{IsLog}
use Rattle.def_seal.specs.Seals.{has_sums, all_sealed}
use Rattle.boss_snapshot.specs.Fronts.{version_of}

-- the pair stands for events behind a state
abbrev pub Stands : List Actuator → List ℕ → List ℕ → List ℕ → Type 0
Stands plant digest first second = (base : Persistent) × (before : ℕ) × (events : List Event) × StandsFor plant digest base before events first second

-- how many bytes a state has before the first gate of a disk of this version: less its sum, where it has one
abbrev pub text_size : ℕ → ℕ → ℕ
text_size version gate = if has_sums version then gate - 81 else gate - 65

-- from this place on stands this text, of so many bytes
pub record HasText (place size : ℕ) (text bytes : List ℕ) : Type 0 where
  pub size_is : size ≡ length text
  pub is : take (length text) (drop place bytes) ≡ text

-- From a gate on stand records of these events, with their sums where the disk has some.
pub record HasLog (gate : ℕ) (events : List Event) (bytes : List ℕ) : Type 0 where
  pub version : ℕ
  pub version_is : version ≡ version_of bytes
  pub seed : List ℕ
  pub front : List ℕ
  pub batches : List (List Event)
  pub log : IsLog front (all_sealed version seed gate (map batch_text batches)) bytes
  pub placed : gate ≡ length front
  pub each : AllByRecursion IsBatch batches
  pub are : events ≡ joined batches
