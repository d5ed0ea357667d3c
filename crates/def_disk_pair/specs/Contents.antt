-- Source: own.
-- What one disk stands for: a front, and behind it records of events, each effective in the state before it.
use Rattle.std.specs.Prelude.{◌≡◌, ◌⊎◌, ℕ, ◌+◌, List, ◌∷◌, ◌++◌, length, map, flat_map, Some}
use Rattle.std.specs.List.{AllByRecursion}
use Rattle.boss_model.specs.declared.event.Event.{Event}
use Rattle.boss_model.specs.declared.state.Actuator.{Actuator}
use Rattle.boss_model.specs.Run.{replay_all}
use Rattle.boss_model.specs.State.{Persistent}
use Rattle.def_bytes.specs.Batches.{batch_text, IsBatch, IsOfVersion}
use Rattle.def_log.specs.Log.{framed, spelled, IsLog}
use Rattle.def_seal.specs.Seals.{seed_of, sealed, all_sealed}
use Rattle.def_disk_pair.specs.Fronts.{IsFront}

-- the events of all records, in order
abbrev pub joined : List (List Event) → List Event
joined batches = flat_map (λ events. events) batches

-- what stands behind a front for the events of its records, and for those of one whose gate is at this place
abbrev pub records_of : ℕ → List ℕ → List (List Event) → List (List ℕ)
records_of version front batches = all_sealed version (seed_of front) (length front) (map batch_text batches)

abbrev pub record_of : ℕ → List ℕ → ℕ → List Event → List ℕ
record_of version front place events = sealed version (seed_of front) place (batch_text events)

-- the place of the gate behind them
abbrev pub last_gate : ℕ → List ℕ → List (List Event) → ℕ
last_gate version front batches = length (front ++ spelled (records_of version front batches))

-- one record more: one to sixteen events that a disk of the version knows, and that lead from one state to another
pub record IsNext (plant : List Actuator) (version : ℕ) (from : Persistent) (events : List Event) (to : Persistent) : Type 0 where
  pub batch : IsBatch events
  pub of_version : IsOfVersion version events
  pub leads : replay_all plant from events ≡ Some to

-- records that lead from the state of a front to another state
pub record IsCourse (plant : List Actuator) (digest : List ℕ) (version : ℕ) (front : List ℕ) (from : Persistent) (before : ℕ) (batches : List (List Event)) (to : Persistent) : Type 0 where
  pub is_front : IsFront plant digest version from before front
  pub each : AllByRecursion IsBatch batches
  pub of_version : IsOfVersion version (joined batches)
  pub leads : replay_all plant from (joined batches) ≡ Some to

-- The bytes have this front and these records, up to a gate that is shut.
pub record Holds (plant : List Actuator) (digest : List ℕ) (from : Persistent) (before : ℕ) (batches : List (List Event)) (to : Persistent) (bytes : List ℕ) : Type 0 where
  pub version : ℕ
  pub front : List ℕ
  pub course : IsCourse plant digest version front from before batches to
  pub log : IsLog front (records_of version front batches) bytes

-- The last gate is 0, or a stop came while it was opened: a whole record that leads on stands behind it then, with a next gate 0.
abbrev pub EndsCleanly : List Actuator → ℕ → List ℕ → ℕ → Persistent → ℕ → List ℕ → Type 0
EndsCleanly plant version front place to gate tail = (gate ≡ 0) ⊎
    ((events : List Event) × (after : Persistent) × (more : List ℕ) × IsNext plant version to events after × (tail ≡ framed (record_of version front place events) ++ 0 ∷ more))

-- The bytes are clean, and come to this state after so many events.
pub record HoldsCleanly (plant : List Actuator) (digest : List ℕ) (d : Persistent) (count : ℕ) (bytes : List ℕ) : Type 0 where
  pub from : Persistent
  pub before : ℕ
  pub batches : List (List Event)
  pub held : Holds plant digest from before batches d bytes
  pub clean : EndsCleanly plant held.version held.front (last_gate held.version held.front batches) d held.log.gate held.log.tail
  pub counted : count ≡ before + length (joined batches)
