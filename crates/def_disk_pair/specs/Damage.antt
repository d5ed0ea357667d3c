-- Source: own.
-- Where a disk in force is damaged.
use Rattle.std.specs.Prelude.{◌≡◌, ℕ, List, ◌∷◌, ◌++◌}
use Rattle.boss_model.specs.declared.event.Event.{Event}
use Rattle.boss_model.specs.declared.state.Actuator.{Actuator}
use Rattle.boss_model.specs.State.{Persistent}
use Rattle.def_log.specs.Log.{framed, spelled}
use Rattle.def_disk_pair.specs.Contents.{records_of, record_of, last_gate, IsNext, IsCourse}

-- no record that leads on from this state, with a next gate; from version 3 on, none whose sum is right
abbrev pub LeadsNowhere : List Actuator → ℕ → List ℕ → ℕ → Persistent → List ℕ → Type 0
LeadsNowhere plant version front place to tail = (events : List Event) (after : Persistent) (gate : ℕ) (more : List ℕ) →
    IsNext plant version to events after → tail ≡ framed (record_of version front place events) ++ gate ∷ more → ⊥

-- The first gate that is open without such a record behind it is at this place.
pub record IsDamagedAt (plant : List Actuator) (digest : List ℕ) (place : ℕ) (bytes : List ℕ) : Type 0 where
  pub version : ℕ
  pub front : List ℕ
  pub from : Persistent
  pub before : ℕ
  pub batches : List (List Event)
  pub to : Persistent
  pub course : IsCourse plant digest version front from before batches to
  pub tail : List ℕ
  pub is : bytes ≡ front ++ (spelled (records_of version front batches) ++ 1 ∷ tail)
  pub broken : LeadsNowhere plant version front place to tail
  pub place_is : place ≡ last_gate version front batches
