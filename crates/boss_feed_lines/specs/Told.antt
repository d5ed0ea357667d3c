-- Source: own.
-- What a line of a feed tells, part by part.
use Rattle.std.specs.Prelude.{◌≡◌, ◌≢◌, ℕ, Bool, true, false, List, ◌∷◌, ◌++◌, decimal, Option, Some, None}
use Rattle.std.specs.List.{AllByRecursion}
use Rattle.hex.specs.Hex.{encode_lower}
use Rattle.def_feed.specs.Items as feed
use Rattle.def_feed.specs.Items.{AreSome, IsNumber, StateLine, PartLine, EventLine}
use Rattle.boss_feed_lines.specs.declared.reader.Item.{Item}
use Rattle.boss_feed_lines.specs.declared.reader.Item.TheVariants.{State, Part, Event}

abbrev pub NoBlank : List ℕ → Type 0
NoBlank word = AllByRecursion (λ byte. byte ≢ 32) word

abbrev pub TellsNumber : List ℕ → Option ℕ → Type 0
TellsNumber text (Some n) = IsNumber n × (text ≡ decimal n)
TellsNumber text None = (n : ℕ) → IsNumber n → text ≡ decimal n → ⊥

-- two numbers, with a blank between them
abbrev pub TellsNumbers : List ℕ → Option (ℕ × ℕ) → Type 0
TellsNumbers text (Some pair) = IsNumber pair.0 × IsNumber pair.1 × (text ≡ decimal pair.0 ++ 32 ∷ decimal pair.1)
TellsNumbers text None = (m n : ℕ) → IsNumber m → IsNumber n → text ≡ decimal m ++ 32 ∷ decimal n → ⊥

-- whether the text is the digits of some bytes, which are these then
abbrev pub TellsBytes : List ℕ → List ℕ → Bool → Type 0
TellsBytes text bytes true = AreSome bytes × (text ≡ encode_lower bytes)
TellsBytes text bytes false = (some : List ℕ) → AreSome some → text ≡ encode_lower some → ⊥

-- an item whose bytes are told beside it
abbrev pub item_with : List ℕ → Item → feed.Item
item_with bytes (State number size) = StateLine number size
item_with bytes Part = PartLine bytes
item_with bytes (Event number) = EventLine number bytes

abbrev pub item_told : Option Item → List ℕ → Option feed.Item
item_told None bytes = None
item_told (Some item) bytes = Some (item_with bytes item)
