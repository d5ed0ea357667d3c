-- Source: own.
use Rattle.std.specs.Prelude.{◌≡◌, ℕ, ◌-◌, min, List, [], ◌∷◌, ◌++◌, length, slice_index, Result, Ok, Err}
use Rattle.boss_outside.specs.Counts.{one_more}
use Rattle.boss_outside.specs.Plan.{Plan, new_plan}

-- a reading is noted among the moments that were given; one that failed gave none
abbrev pub Gains : {E : Type 0} → List ℕ → List ℕ → Result ℕ E → Type 0
Gains old new (Ok moment) = new ≡ old ++ moment ∷ []
Gains old new (Err _) = new ≡ old

-- a clock in memory: its moments, how many readings gave one, those that were given, and which readings fail
pub record Readings : Type 0 where
  pub moments : List ℕ
  pub made : ℕ
  pub given : List ℕ
  pub plan : Plan

-- a clock before its first reading
abbrev pub new_readings : List ℕ → List ℕ → Readings
new_readings moments fails = record { moments = moments; made = 0; given = []; plan = new_plan fails }

-- the moment at this place, the last one behind the end of the list, and 0 where there is none
abbrev pub moment_at : List ℕ → ℕ → ℕ
moment_at moments place = slice_index moments (min place (length moments - 1))

-- the clock is as it was, but that it gave the next moment, or none where the reading failed
abbrev pub GivesNext : {E : Type 0} → Readings → Readings → Result ℕ E → Type 0
GivesNext old new (Ok moment) = (moment ≡ moment_at old.moments old.made) × (new.moments ≡ old.moments) × (new.made ≡ one_more old.made)
GivesNext old new (Err _) = (new.moments ≡ old.moments) × (new.made ≡ old.made)
