-- Source: RFC 8259 (JSON), as the library serde_json reads it.
-- What a line was read as.
use Rattle.std.specs.Prelude.{◌≡◌, ℕ, List, Some, None, Result, Ok, Err}
use Rattle.serde_json.specs.Data.{Data}
use Rattle.def_wire.specs.Requests.{value_in}
use Rattle.boss_json.specs.declared.unread.Unread.{Unread}
use Rattle.boss_json.specs.declared.unread.Unread.TheVariants.{Malformed, NoMemory}

-- the line writes no value. Want of memory says nothing.
abbrev pub IsUnread : Unread → List ℕ → Type 0
IsUnread Malformed line = value_in line ≡ None
IsUnread NoMemory line = Unit {0}

-- the value, seen by view, is the one that the line writes
abbrev pub Reads : {A : Type 0} → (A → Data) → List ℕ → Result A Unread → Type 0
Reads view line (Ok value) = value_in line ≡ Some (view value)
Reads view line (Err why) = IsUnread why line
