-- Source: own.
-- The lines of a feed. A line is told by how it is written, and not by a parser: so a number has no sign and no zero before it,
-- digits in base 16 are in lower case, and one blank stands between words.
use Rattle.std.specs.Prelude.{◌≡◌, ℕ, ◌^◌, ◌<◌, ◌≤◌, List, ◌++◌, length, codes, decimal, Option, Some, None}
use Rattle.hex.specs.Hex.{encode_lower}
use Rattle.def_bytes.specs.Exact.{IsBytes}

-- How many events led to a state, and how many bytes it has; a part of its bytes; or the number of an event, and its bytes.
pub data Item : Type 0 where
  StateLine : ℕ → ℕ → Item
  PartLine : List ℕ → Item
  EventLine : ℕ → List ℕ → Item

abbrev pub item_text : Item → List ℕ
item_text (StateLine number size) = codes "state " ++ (decimal number ++ (codes " " ++ decimal size))
item_text (PartLine bytes) = codes "part " ++ encode_lower bytes
item_text (EventLine number bytes) = codes "event " ++ (decimal number ++ (codes " " ++ encode_lower bytes))

-- a number that a line can tell
abbrev pub IsNumber : ℕ → Type 0
IsNumber n = n < 2 ^ 64

-- some bytes, one at least
abbrev pub AreSome : List ℕ → Type 0
AreSome bytes = IsBytes bytes × (1 ≤ length bytes)

abbrev pub IsItem : Item → Type 0
IsItem (StateLine number size) = IsNumber number × IsNumber size
IsItem (PartLine bytes) = AreSome bytes
IsItem (EventLine number bytes) = IsNumber number × AreSome bytes

-- a line is this item's, or that of none
abbrev pub Reads : List ℕ → Option Item → Type 0
Reads line (Some item) = IsItem item × (line ≡ item_text item)
Reads line None = (item : Item) → IsItem item → line ≡ item_text item → ⊥
