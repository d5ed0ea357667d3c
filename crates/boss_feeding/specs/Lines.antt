-- Source: own.
-- Items of a feed as the bytes that tell them.
use Rattle.std.specs.Prelude.{ℕ, List, [], ◌∷◌, ◌++◌, map, flat_map}
use Rattle.def_feed.specs.Items.{Item, item_text}

-- a line with its end
abbrev pub line_text : Item → List ℕ
line_text item = item_text item ++ 10 ∷ []

abbrev pub lines_text : List Item → List ℕ
lines_text items = flat_map (λ line. line ++ 10 ∷ []) (map item_text items)
