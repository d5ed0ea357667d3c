-- Source: own.
use Rattle.std.specs.Prelude.{◌≡◌, ℕ, ◌/◌, ◌%◌, ◌<◌, List, slice_index}
use Rattle.std.specs.Int.{bit_at}

-- the bit of this place, 0 or 1, in words of 64 bits
abbrev pub bit_of : List ℕ → ℕ → ℕ
bit_of words place = bit_at (slice_index words (place / 64)) (place % 64)

-- no bit is set below this place
abbrev pub IsClearBelow : List ℕ → ℕ → Type 0
IsClearBelow words to = (place : ℕ) → place < to → bit_of words place ≡ 0

-- the bit of this place is the first one that is set
pub record IsFirstBit (words : List ℕ) (place : ℕ) : Type 0 where
  pub is : bit_of words place ≡ 1
  pub first : IsClearBelow words place

-- the bit of this place is the first one of its word that is set
pub record IsFirstIn (words : List ℕ) (word place : ℕ) : Type 0 where
  pub here : place / 64 ≡ word
  pub is : bit_of words place ≡ 1
  pub first : (other : ℕ) → other / 64 ≡ word → other < place → bit_of words other ≡ 0
