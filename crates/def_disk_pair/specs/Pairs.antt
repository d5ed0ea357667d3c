-- Source: own.
-- What a pair of disks stands for: what the disk in force does.
use Rattle.std.specs.Prelude.{◌≡◌, ◌⊎◌, ℕ, ◌≤◌, List, [], ◌∷◌, length, Some}
use Rattle.boss_model.specs.declared.event.Event.{Event}
use Rattle.boss_model.specs.declared.state.Actuator.{Actuator}
use Rattle.boss_model.specs.Run.{replay_all}
use Rattle.boss_model.specs.State.{Persistent, first_persistent}
use Rattle.def_log.specs.InForce.{InForce, Foreign, Neither, First, Second}
use Rattle.def_log.specs.Kinds.{kind_of, in_force}
use Rattle.def_disk_pair.specs.Contents.{joined, Holds, HoldsCleanly}
use Rattle.def_disk_pair.specs.Damage.{IsDamagedAt}

-- Nothing was written that counts: at most one byte, or a first byte of 0 and no byte past the first gate of a journal.
abbrev pub IsNew : List ℕ → Type 0
IsNew bytes = (length bytes ≤ 1) ⊎ ((rest : List ℕ) × (bytes ≡ 0 ∷ rest) × (length bytes ≤ 42))

-- something said of the disk in force, or else, where nothing was written yet, of the first
abbrev pub OfThatInForce : (List ℕ → Type 0) → (List ℕ → Type 0) → InForce → List ℕ → List ℕ → Type 0
OfThatInForce written new Foreign first second = ⊥
OfThatInForce written new Neither first second = new first
OfThatInForce written new First first second = written first
OfThatInForce written new Second first second = written second

abbrev pub OfPair : (List ℕ → Type 0) → (List ℕ → Type 0) → List ℕ → List ℕ → Type 0
OfPair written new first second = OfThatInForce written new (in_force (kind_of first) (kind_of second)) first second

-- the disk has these events behind this state and so many events before it
abbrev pub HasEvents : List Actuator → List ℕ → Persistent → ℕ → List Event → List ℕ → Type 0
HasEvents plant digest from before events bytes =
    (batches : List (List Event)) × (to : Persistent) × Holds plant digest from before batches to bytes × (events ≡ joined batches)

-- The pair stands for a state, a number of events before it, and the events since.
abbrev pub StandsFor : List Actuator → List ℕ → Persistent → ℕ → List Event → List ℕ → List ℕ → Type 0
StandsFor plant digest from before events first second = OfPair (HasEvents plant digest from before events)
    (λ bytes. IsNew bytes × (from ≡ first_persistent) × (before ≡ 0) × (events ≡ [])) first second

-- The pair opens to this state: that after its events.
abbrev pub Opens : List Actuator → List ℕ → Persistent → List ℕ → List ℕ → Type 0
Opens plant digest d first second = (from : Persistent) × (before : ℕ) × (events : List Event) ×
    StandsFor plant digest from before events first second × (replay_all plant from events ≡ Some d)

-- The pair is clean, and opens to this state after so many events.
abbrev pub OpensCleanly : List Actuator → List ℕ → Persistent → ℕ → List ℕ → List ℕ → Type 0
OpensCleanly plant digest d count first second = OfPair (HoldsCleanly plant digest d count)
    (λ bytes. IsNew bytes × (d ≡ first_persistent) × (count ≡ 0)) first second

-- The disk in force is damaged at this place.
abbrev pub DamagedAt : List Actuator → List ℕ → ℕ → List ℕ → List ℕ → Type 0
DamagedAt plant digest place first second = OfPair (IsDamagedAt plant digest place) (λ bytes. ⊥) first second
