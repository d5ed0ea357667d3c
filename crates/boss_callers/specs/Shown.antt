-- Source: RFC 8259 (JSON); what a line shows own.
-- Whose key a line shows.
use Rattle.std.specs.Prelude.{ℕ, Bool, true, false, if◌then◌else◌, List, codes, Option, Some, None}
use Rattle.std.specs.Option.{option_map_or}
use Rattle.serde_json.specs.Data.{Data, object}
use Rattle.serde_json.specs.Find.{as_str, get}
use Rattle.def_wire.specs.Keys.{name, under}
use Rattle.def_wire.specs.Requests.{value_in}
use Rattle.boss_keys.specs.declared.entry.Entry.{Entry}
use Rattle.boss_keys.specs.Admission.{admits}
use Rattle.boss_callers.specs.declared.shown.Shown.{Shown}
use Rattle.boss_callers.specs.declared.shown.Shown.TheVariants.{NoObject, Key, WrongKey}

abbrev pub is_object : Data → Bool
is_object (object _) = true
is_object other = false

-- the name that it gives: the one under `as`, and where there is nothing under it that of its process
abbrev pub name_in : Data → Option (List ℕ)
name_in d = option_map_or name (get (codes "as") d) (under (codes "process") name d)

-- this key is right for this name, or is not
abbrev pub shown_for : List Entry → Option (List ℕ) → Option (List ℕ) → Shown
shown_for keys (Some name) (Some key) = if admits keys name key then Key name else WrongKey
shown_for keys name key = WrongKey

-- what an object shows
abbrev pub shown_at : List Entry → Data → Shown
shown_at keys d = shown_for keys (name_in d) (under (codes "key") as_str d)

abbrev pub shown_of : List Entry → Data → Shown
shown_of keys d = if is_object d then shown_at keys d else NoObject

-- a line that is no JSON shows what one does that is no object
abbrev pub shown_in : List Entry → Option Data → Shown
shown_in keys None = NoObject
shown_in keys (Some d) = shown_of keys d

-- what a line shows
unfoldable pub shown_by : List Entry → List ℕ → Shown
shown_by keys line = shown_in keys (value_in line)

-- the name whose key is shown, if one is
abbrev pub name_shown : Shown → Option (List ℕ)
name_shown NoObject = None
name_shown (Key name) = Some name
name_shown WrongKey = None
