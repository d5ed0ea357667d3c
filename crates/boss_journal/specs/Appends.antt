-- Source: own.
-- What an append leaves, and what its answers tell.
use Rattle.std.specs.Prelude.{◌≡◌, ◌≢◌, ℕ, ◌+◌, ◌<◌, ◌⊎◌, Bool, true, false, List, [], ◌∷◌, ◌++◌, length, Result, OnOk}
use Rattle.boss_outside.specs.Counts.{Rose}
use Rattle.boss_journal.specs.declared.appending.Appended.{Appended}
use Rattle.boss_journal.specs.declared.appending.Appended.TheVariants.{Done, DiskFault, Stopped}
use Rattle.boss_disk.specs.Runs.{Since}
use Rattle.boss_disk.specs.Story.{Story}
use Rattle.boss_journal.specs.Places.{IsAtRest}
use Rattle.def_log.specs.Log.{framed, spelled}

-- a front, these records, and a gate that is 0
pub record IsShutLog (front : List ℕ) (records : List (List ℕ)) (bytes : List ℕ) : Type 0 where
  pub tail : List ℕ
  pub is : bytes ≡ front ++ (spelled records ++ 0 ∷ tail)

-- a front, these records, a gate that is not 1 yet, and one record more whole behind it, with a gate that is 0
pub record IsOpening (front : List ℕ) (records : List (List ℕ)) (record_bytes bytes : List ℕ) : Type 0 where
  pub gate : ℕ
  pub tail : List ℕ
  pub is : bytes ≡ front ++ (spelled records ++ gate ∷ (framed record_bytes ++ 0 ∷ tail))
  pub shut : gate ≢ 1

-- a log as it was before one record more, its last gate 0 or under way; or with this record
abbrev pub BeforeOrAfter : List ℕ → List (List ℕ) → List ℕ → List ℕ → Type 0
BeforeOrAfter front records record_bytes bytes =
    IsShutLog front records bytes ⊎ (IsOpening front records record_bytes bytes ⊎ IsShutLog front (records ++ record_bytes ∷ []) bytes)

-- A record was put at a gate of a log at rest, whatever its front and records are: where that was told as done it stands there, and
-- the log is at rest; and a crash leaves the log as it was before, or with the record.
pub record Puts {T E : Type 0} (record_bytes : List ℕ) (place : ℕ) (held now : List ℕ) (old new : Story) (result : Result T E) : Type 0 where
  pub rests : (front : List ℕ) (records : List (List ℕ)) → IsAtRest front records place held old.window
      → OnOk result (IsAtRest front (records ++ record_bytes ∷ []) (place + length record_bytes + 5) now new.window)
  pub images : (front : List ℕ) (records : List (List ℕ)) → IsAtRest front records place held old.window
      → Since (BeforeOrAfter front records record_bytes) old new
  pub inside : OnOk result (place + length record_bytes + 5 < length now)

-- a fault is told exactly where the disk's count rose
abbrev pub AppendCause : ℕ → ℕ → Appended → Type 0
AppendCause before now Done = now ≡ before
AppendCause before now DiskFault = Rose before now
AppendCause before now Stopped = now ≡ before

-- a journal that was stopped before answers so, and a fault stops it
abbrev pub Stops : Bool → Bool → Appended → Type 0
Stops before now Done = (before ≡ false) × (now ≡ false)
Stops before now DiskFault = (before ≡ false) × (now ≡ true)
Stops before now Stopped = (before ≡ true) × (now ≡ true)
