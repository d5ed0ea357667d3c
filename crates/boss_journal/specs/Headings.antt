-- Source: own.
-- What stands at a place of a journal, by the bytes from there on.
use Rattle.std.specs.Prelude.{◌≡◌, ℕ, ◌+◌, ◌<◌, ◌≤◌, List, ◌∷◌, ◌++◌, length}
use Rattle.std.specs.Int.{w32, to_be_bytes}
use Rattle.boss_model.specs.Limits.{longest_record}
use Rattle.def_log.specs.Log.{framed}
use Rattle.boss_journal.specs.declared.heading.Heading.{Heading}
use Rattle.boss_journal.specs.declared.heading.Heading.TheVariants.{Shut, Broken, Whole}

-- no record with a next gate
abbrev pub IsBroken : List ℕ → Type 0
IsBroken tail = (r : List ℕ) (gate : ℕ) (more : List ℕ) → length r ≤ longest_record → tail ≡ framed r ++ gate ∷ more → ⊥

-- no open gate; one before no record with a next gate; or one before a length, so many bytes and one more
abbrev pub IsHeading : List ℕ → Heading → Type 0
IsHeading bytes Shut = (tail : List ℕ) → bytes ≡ 1 ∷ tail → ⊥
IsHeading bytes Broken = (tail : List ℕ) × (bytes ≡ 1 ∷ tail) × IsBroken tail
IsHeading bytes (Whole size) = (more : List ℕ) × (bytes ≡ 1 ∷ (to_be_bytes w32 size ++ more)) × (size < length more) × (size ≤ longest_record)

-- a record has its place below this length
abbrev pub Within : ℕ → Heading → Type 0
Within left Shut = Unit {0}
Within left Broken = Unit {0}
Within left (Whole size) = (size + 5 < left) × (size ≤ longest_record)
