-- Source: own.
-- What reading on in a journal tells, and what shutting its last gate leaves.
use Rattle.std.specs.Prelude.{◌≡◌, ℕ, ◌+◌, Bool, true, List, [], ◌∷◌, ◌++◌, length}
use Rattle.boss_outside.specs.Counts.{Rose}
use Rattle.boss_journal.specs.declared.reading.NextRecord.{NextRecord}
use Rattle.boss_journal.specs.declared.reading.NextRecord.TheVariants.{Bytes, Finish, Damaged, DiskFault}
use Rattle.boss_journal.specs.Places.{IsAt, IsAtEnd}
use Rattle.def_log.specs.Log.{spelled, IsDamaged}

-- The bytes of the next record, where there is one; else that the log ends here, or that it is damaged.
abbrev pub Tells : List ℕ → List (List ℕ) → ℕ → List ℕ → List ℕ → NextRecord → Type 0
Tells front records place reads bytes (Bytes at) = IsAt front (records ++ bytes ∷ []) place reads
Tells front records place reads bytes Finish = IsAtEnd front records place reads
Tells front records place reads bytes (Damaged at) = IsDamaged front records reads
Tells front records place reads bytes DiskFault = Unit {0}

-- the place moves behind a record that is told, and the place that is told is the gate's
abbrev pub Passes : ℕ → ℕ → List ℕ → NextRecord → Type 0
Passes before now bytes (Bytes at) = (at ≡ before) × (now ≡ before + length bytes + 5)
Passes before now bytes Finish = (now ≡ before) × (bytes ≡ [])
Passes before now bytes (Damaged at) = (at ≡ before) × (now ≡ before) × (bytes ≡ [])
Passes before now bytes DiskFault = now ≡ before

-- a fault is told exactly where the disk's count rose
abbrev pub NextCause : ℕ → ℕ → NextRecord → Type 0
NextCause before now (Bytes at) = now ≡ before
NextCause before now Finish = now ≡ before
NextCause before now (Damaged at) = now ≡ before
NextCause before now DiskFault = Rose before now

-- a fault stops the journal
abbrev pub NextStops : Bool → Bool → NextRecord → Type 0
NextStops before now (Bytes at) = now ≡ before
NextStops before now Finish = now ≡ before
NextStops before now (Damaged at) = now ≡ before
NextStops before now DiskFault = now ≡ true

-- Bytes that a journal may have while its last gate is shut: any byte may stand at this gate, unless it was 0 before, and all
-- else is as it was.
pub record Repairs (front : List ℕ) (records : List (List ℕ)) (gate : ℕ) (tail bytes : List ℕ) : Type 0 where
  pub now : ℕ
  pub is : bytes ≡ front ++ (spelled records ++ now ∷ tail)
  pub idle : gate ≡ 0 → now ≡ 0
