-- Source: RFC 8259 (JSON), as the library json writes it.
-- The text that a value is written as, with no space, and which values are read compactly.
use Rattle.std.specs.Prelude.{◌≡◌, ℕ, ◌≤◌, ◌<◌, nat_lt, Bool, true, false, ◌||◌, List, slice_index}
use Rattle.json.specs.Json.{Json}
use Rattle.json.specs.Print.{print}
use Rattle.json.specs.Run.{is_stop}
use Rattle.json.specs.Tree.{json_tokens, depth, HasNumbers}
use Rattle.boss_json.specs.Trees.{in_range}

abbrev pub text_of : Json → List ℕ
text_of j = print (json_tokens j)

-- each number is one and in range, and arrays and objects nest no deeper than this
pub record IsFit (levels : ℕ) (j : Json) : Type 0 where
  pub numbers : HasNumbers j
  pub fits : in_range j ≡ true
  pub nests : depth j ≤ levels

-- a byte that does not stand for itself in a text that is spelled compactly: one that ends plain text, or is no ASCII
abbrev pub ends_plain : ℕ → Bool
ends_plain x = is_stop x || nat_lt 127 x

-- the bytes from one place up to another stand for themselves
abbrev pub CompactBetween : List ℕ → ℕ → ℕ → Type 0
CompactBetween d i j = (k : ℕ) → i ≤ k → k < j → ends_plain (slice_index d k) ≡ false
