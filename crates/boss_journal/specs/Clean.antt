-- Source: own.
-- A log that a later opening reads whole.
use Rattle.std.specs.Prelude.{ℕ, List}
use Rattle.def_log.specs.Log.{IsLog, IsClean}

-- these are all records, and the last gate is 0, or is under way with a record whole behind it
pub record IsCleanLog (front : List ℕ) (records : List (List ℕ)) (bytes : List ℕ) : Type 0 where
  pub log : IsLog front records bytes
  pub clean : IsClean log.gate log.tail
