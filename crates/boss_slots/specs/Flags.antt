-- Source: own.
use Rattle.std.specs.Prelude.{◌≡◌, ℕ, ◌+◌, ◌*◌, ◌==◌, ◌<◌, ◌≤◌, ◌^◌, Bool, true, false, List, length, map, nat_lt, slice_index, slice_index_or}
use Rattle.std.specs.List.{range_with_len}
use Rattle.boss_slots.specs.Bits.{bit_of}

-- the flag of this place is the first one that is set
pub record IsFirst (flags : List Bool) (place : ℕ) : Type 0 where
  pub is : slice_index_or flags place false ≡ true
  pub first : (other : ℕ) → other < place → slice_index_or flags other false ≡ false

-- so many flags, each a bit of the words
abbrev pub flags_of : ℕ → List ℕ → List Bool
flags_of count words = map (λ point. bit_of words point == 1) (range_with_len 0 count)

-- a bit for each word, set where any bit of the word is
abbrev pub AreFilled : List ℕ → List ℕ → Type 0
AreFilled words filled = (word : ℕ) → (bit_of filled word == 1) ≡ nat_lt 0 (slice_index words word)

-- how so many flags are kept
pub record AreFlags (count : ℕ) (words filled : List ℕ) : Type 0 where
  pub known : AreFilled words filled
  pub within : (place : ℕ) → bit_of words place ≡ 1 → place < count
  pub few : count < 2 ^ 32
  pub enough : count ≤ 64 * length words
  pub most : 64 * length words < count + 64
  pub enough_filled : length words ≤ 64 * length filled
  pub most_filled : 64 * length filled < length words + 64
