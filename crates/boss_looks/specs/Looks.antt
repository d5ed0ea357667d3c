-- Source: own.
-- Which of the values that devices took is looked after next.
use Rattle.std.specs.Prelude.{◌≡◌, ◌≢◌, ◌⊎◌, ℕ, ◌+◌, ◌-◌, ◌^◌, min, nat_eq, nat_le, ℤ, Bool, true, false, not, List, [], ◌∷◌, ◌++◌, filter, find, Option, Some, None}
use Rattle.std.specs.Option.{option_map_or}
use Rattle.boss_model.specs.declared.places.Place.{Place}
use Rattle.boss_outside.specs.declared.actuators.Look.{Look}
use Rattle.boss_outside.specs.declared.actuators.Look.TheVariants.{Seen, Doubt}
use Rattle.boss_looks.specs.declared.queue.Kept.{Kept}
use Rattle.boss_looks.specs.declared.looks.Found.{Found}
use Rattle.boss_looks.specs.declared.looks.Found.TheVariants as found
use Rattle.boss_looks.specs.declared.looks.Looks.{Looks}
use Rattle.boss_looks.specs.declared.looks.Next.{Next}
use Rattle.boss_looks.specs.declared.looks.Next.TheVariants.{Nothing, Begun, Again, Check}

-- ---- one queue

-- its moment has come, or is not set yet
abbrev pub is_due : ℕ → Kept → Bool
is_due now kept = option_map_or (λ at. nat_le at now) kept.at true

-- of all that are due, the one that stands first
abbrev pub first_due : ℕ → List Kept → Option Kept
first_due now queue = find (is_due now) queue

abbrev pub without : ℕ → List Kept → List Kept
without point queue = filter (λ kept. not (nat_eq kept.point point)) queue

-- it stands last, in place of what there was of its point; or nothing does, where there was no memory
abbrev pub Joins : Kept → List Kept → List Kept → Type 0
Joins kept old new = (new ≡ without kept.point old ++ kept ∷ []) ⊎ (new ≡ without kept.point old)

-- due again an interval after this moment, as far as a `u64` counts
abbrev pub later : ℕ → Kept → Kept
later now kept = record kept { at = Some (min (now + kept.every) (2 ^ 64 - 1)) }

abbrev pub PutsOff : ℕ → Kept → List Kept → List Kept → Type 0
PutsOff now kept old new = Joins (later now kept) old new

-- ---- what is written once more and what is asked for

abbrev pub forgotten : ℕ → Looks → Looks
forgotten point looks = record { again = without point looks.again; check = without point looks.check }

-- a value that was taken at a place is looked after each so many milliseconds, from the first look on; never where these are none
pub record Begins (point : ℕ) (value : ℤ) (every : ℕ) (old new : List Kept) : Type 0 where
  pub never : every ≡ 0 → new ≡ without point old
  pub often : every ≢ 0 → Joins (record { point = point; value = value; every = every; at = None }) old new

pub record Takes (place : Place) (value : ℤ) (old new : Looks) : Type 0 where
  pub again : Begins place.point value place.again old.again new.again
  pub check : Begins place.point value place.check old.check new.check

-- What is done at a moment: what is to be written once more comes before what is asked for. The first look behind a write sets its moment,
-- and what is written once more is forgotten until it was taken
pub record Begin (now : ℕ) (old new : List Kept) : Type 0 where
  pub kept : Kept
  pub is_first : first_due now old ≡ Some kept
  pub is_fresh : kept.at ≡ None
  pub later_on : PutsOff now kept old new

abbrev pub IsNext : ℕ → Looks → Looks → Next → Type 0
IsNext now old new Nothing = (first_due now old.again ≡ None) × (first_due now old.check ≡ None) × (new ≡ old)
IsNext now old new Begun =
    (Begin now old.again new.again × (new.check ≡ old.check))
    ⊎ ((first_due now old.again ≡ None) × Begin now old.check new.check × (new.again ≡ old.again))
IsNext now old new (Again point) = (kept : Kept) × (first_due now old.again ≡ Some kept) × (kept.point ≡ point) × (new ≡ forgotten point old)
IsNext now old new (Check kept) = (first_due now old.again ≡ None) × (first_due now old.check ≡ Some kept) × (new ≡ old)

-- the value that a device is to be asked for
abbrev pub asked_by : Next → Option Kept
asked_by (Check kept) = Some kept
asked_by Nothing = None
asked_by Begun = None
asked_by (Again point) = None

-- a device that has the value is asked again an interval later; every other point is doubted, and forgotten until it was taken
abbrev pub Checked : ℕ → Kept → Found → Looks → Looks → Look → Type 0
Checked now kept found.Same old new look = (look ≡ Seen) × PutsOff now kept old.check new.check × (new.again ≡ old.again)
Checked now kept found.Other old new look = (look ≡ Doubt kept.point true) × (new ≡ forgotten kept.point old)
Checked now kept found.Nothing old new look = (look ≡ Doubt kept.point false) × (new ≡ forgotten kept.point old)
