-- Source: own.
-- A log of records behind a front. At a gate that is 1 stand a length, a record of so many bytes, and the next gate; a gate
-- that is not 1 is shut, and what stands behind it means nothing.
use Rattle.std.specs.Prelude.{◌≡◌, ◌≢◌, ◌⊎◌, ℕ, ◌≤◌, List, [], ◌∷◌, ◌++◌, length}
use Rattle.std.specs.Int.{w32, to_be_bytes}
use Rattle.std.specs.List.{AllByRecursion}
use Rattle.boss_model.specs.Limits.{longest_record}

-- a record with its length before it
unfoldable pub framed : List ℕ → List ℕ
framed record_bytes = to_be_bytes w32 (length record_bytes) ++ record_bytes

-- records behind open gates
abbrev pub spelled : List (List ℕ) → List ℕ
spelled [] = []
spelled (r ∷ rs) = 1 ∷ (framed r ++ spelled rs)

abbrev pub AreRecords : List (List ℕ) → Type 0
AreRecords records = AllByRecursion (λ r. length r ≤ longest_record) records

-- The bytes are a front, these records, and a gate that is shut.
pub record IsLog (front : List ℕ) (records : List (List ℕ)) (bytes : List ℕ) : Type 0 where
  pub gate : ℕ
  pub tail : List ℕ
  pub is : bytes ≡ front ++ (spelled records ++ gate ∷ tail)
  pub shut : gate ≢ 1
  pub each : AreRecords records

-- A log is clean where its last gate is 0, or where a stop came while this gate was opened: a whole record with a next gate 0
-- stands behind it then.
abbrev pub IsClean : ℕ → List ℕ → Type 0
IsClean gate tail = (gate ≡ 0) ⊎ ((r : List ℕ) × (more : List ℕ) × (length r ≤ longest_record) × (tail ≡ framed r ++ 0 ∷ more))

-- The bytes are a front, these records, and an open gate behind which no record with a next gate stands.
pub record IsDamaged (front : List ℕ) (records : List (List ℕ)) (bytes : List ℕ) : Type 0 where
  pub tail : List ℕ
  pub is : bytes ≡ front ++ (spelled records ++ 1 ∷ tail)
  pub each : AreRecords records
  pub broken : (r : List ℕ) (gate : ℕ) (more : List ℕ) → length r ≤ longest_record → tail ≡ framed r ++ gate ∷ more → ⊥
