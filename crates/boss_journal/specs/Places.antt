-- Source: own.
-- Where a journal stands in the bytes of its disk: a front, records behind open gates, and the gate that it is at.
use Rattle.std.specs.Prelude.{◌≡◌, ℕ, List, ◌∷◌, ◌++◌, length}
use Rattle.boss_disk.specs.Window.{Window, settled}
use Rattle.def_log.specs.Log.{spelled, AreRecords, IsLog}

-- these records were passed, and a gate stands at the place
pub record IsAt (front : List ℕ) (records : List (List ℕ)) (place : ℕ) (reads : List ℕ) : Type 0 where
  pub gate : ℕ
  pub tail : List ℕ
  pub is : reads ≡ front ++ (spelled records ++ gate ∷ tail)
  pub here : place ≡ length (front ++ spelled records)
  pub each : AreRecords records

-- these are all records: the gate at the place is shut
pub record IsAtEnd (front : List ℕ) (records : List (List ℕ)) (place : ℕ) (reads : List ℕ) : Type 0 where
  pub log : IsLog front records reads
  pub here : place ≡ length (front ++ spelled records)

-- these are all records, the gate at the place is 0, and all bytes were synced
pub record IsAtRest (front : List ℕ) (records : List (List ℕ)) (place : ℕ) (reads : List ℕ) (window : Window) : Type 0 where
  pub tail : List ℕ
  pub is : reads ≡ front ++ (spelled records ++ 0 ∷ tail)
  pub here : place ≡ length (front ++ spelled records)
  pub each : AreRecords records
  pub synced : window ≡ settled reads
