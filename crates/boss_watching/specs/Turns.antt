-- Source: own.
-- Turns in a row without a notice, each of which pauses.
use Rattle.std.specs.Prelude.{◌≡◌, ◌⊎◌, ℕ, ◌+◌, Bool, true, if◌then◌else◌, List, [], ◌∷◌, ◌++◌}
use Rattle.def_history.specs.declared.entry.Entry.{Entry}
use Rattle.def_history.specs.History.{deeds}
use Rattle.def_lanes.specs.Waits.{paused}
use Rattle.def_connection.specs.Watching.{has_told, quiet_in, IsAwake}

-- the pauses: one behind each turn that had none
abbrev pub pauses_of : Entry → ℕ
pauses_of entry = if has_told entry then 0 else 1

abbrev pub pauses_in : List Entry → ℕ
pauses_in [] = 0
pauses_in (entry ∷ entries) = pauses_of entry + pauses_in entries

-- Turns that leave so many in a row without a notice
pub record Lasts (idle quiet quiet' : ℕ) (old new : List Entry) (pausing : Type 0) (pauses pauses' : ℕ) : Type 0 where
  pub more : List Entry
  pub grew : deeds new ≡ deeds old ++ more
  pub awake : IsAwake idle quiet more
  pub counted : quiet' ≡ quiet_in quiet more
  pub waited : pausing → pauses' ≡ paused (pauses_in more) pauses

-- one turn more; and at most one, which had a notice
pub record AddsTurn (told : Bool) (old new : List Entry) : Type 0 where
  pub entry : Entry
  pub grew : deeds new ≡ deeds old ++ entry ∷ []
  pub is_told : has_told entry ≡ told

abbrev pub AddsTold : List Entry → List Entry → Type 0
AddsTold old new = (deeds new ≡ deeds old) ⊎ AddsTurn true old new
