use Rattle.std.proofs.Common.{◌≡◌, ◌≢◌, inl, inr, ℕ, ◌+◌, ◌*◌, ◌/◌, ◌%◌, ◌^◌, ◌<◌, List, length, slice_index, slice_set, bit_or, bit_and, w64, refl, sym, ap, ◌∙◌, arith}
use Rattle.std.specs.Int.{bit_at, bit_not}
use Rattle.std.proofs.lemmas.Bool.{cases_eq, cases_lt}
use Rattle.std.proofs.lemmas.List.{get_or-set_other, get_or-set_same, get_or_past}
use Rattle.std.proofs.lemmas.Nat.Bits.{bit_at-zero, bit_at_clear_other, bit_at_clear_same, bit_at_set_other, bit_at_set_same}
use Rattle.boss_slots.specs.Bits.{IsClearBelow, IsFirstBit, IsFirstIn, bit_of}

-- ---- a word is written

written-here : (words : List ℕ) (place value : ℕ) → place < 64 * length words → bit_of (slice_set words (place / 64) value) place ≡ bit_at value (place % 64)
written-here words place value h = let lt : place / 64 < length words = omega arith in rw get_or-set_same refl

written-other : (words : List ℕ) (place value other : ℕ) → place < 64 * length words → other ≢ place →
    ((i : ℕ) → i < 64 → i ≢ place % 64 → bit_at value i ≡ bit_at (slice_index words (place / 64)) i) →
    bit_of (slice_set words (place / 64) value) other ≡ bit_of words other
written-other words place value other h ne same =
    let lt : place / 64 < length words = omega arith in
    elim (cases_eq (other / 64) (place / 64)) [
      | inl e ↦ rw e (rw get_or-set_same (same (other % 64) (omega arith) (λ q. ne (omega arith))))
      | inr d ↦ ap (λ (word : ℕ). bit_at word (other % 64)) (get_or-set_other words (place / 64) (other / 64) value 0 d)
    ]

pub set-here : (words : List ℕ) (place word : ℕ) → place < 64 * length words →
    bit_of (slice_set words (place / 64) (bit_or word (1 * 2 ^ (place % 64) % 2 ^ 64))) place ≡ 1
set-here words place word h = written-here words place _ h ∙ bit_at_set_same w64 word (place % 64) (omega arith)

pub set-other : (words : List ℕ) (place word other : ℕ) → place < 64 * length words → word ≡ slice_index words (place / 64) → other ≢ place →
    bit_of (slice_set words (place / 64) (bit_or word (1 * 2 ^ (place % 64) % 2 ^ 64))) other ≡ bit_of words other
set-other words place word other h is ne =
    written-other words place _ other h ne (λ i below differs. bit_at_set_other w64 word (place % 64) (omega arith) i differs ∙ ap (λ (w : ℕ). bit_at w i) is)

pub clear-here : (words : List ℕ) (place word : ℕ) → place < 64 * length words →
    bit_of (slice_set words (place / 64) (bit_and word (bit_not w64 (1 * 2 ^ (place % 64) % 2 ^ 64)))) place ≡ 0
clear-here words place word h = written-here words place _ h ∙ bit_at_clear_same w64 word (place % 64) (omega arith)

pub clear-other : (words : List ℕ) (place word other : ℕ) → place < 64 * length words → word ≡ slice_index words (place / 64) → other ≢ place →
    bit_of (slice_set words (place / 64) (bit_and word (bit_not w64 (1 * 2 ^ (place % 64) % 2 ^ 64)))) other ≡ bit_of words other
clear-other words place word other h is ne =
    written-other words place _ other h ne (λ i below differs. bit_at_clear_other w64 word (place % 64) (omega arith) i below differs ∙ ap (λ (w : ℕ). bit_at w i) is)

-- ---- the first bit of a word

pub one-zero : (bit : ℕ) → bit ≡ 1 → bit ≡ 0 → ⊥
one-zero bit one none = omega arith

pub zero-bit : (words : List ℕ) (place : ℕ) → slice_index words (place / 64) ≡ 0 → bit_of words place ≡ 0
zero-bit words place e = ap (λ (word : ℕ). bit_at word (place % 64)) e ∙ bit_at-zero (place % 64)

pub first-in : (words : List ℕ) (word bit n : ℕ) → n ≡ slice_index words word → bit < 64 → bit_at n bit ≡ 1 → ((i : ℕ) → i < bit → bit_at n i ≡ 0) → IsFirstIn words word (word * 64 + bit)
first-in words word bit n read within is first =
    let here : (word * 64 + bit) / 64 ≡ word = omega arith in
    let place : (word * 64 + bit) % 64 ≡ bit = omega arith in
    record {
      here = here;
      is = rw (here, place, ← read) is;
      first = λ other same before. rw (same, ← read) (first (other % 64) (omega arith));
    }

-- a word that is not zero is one of the words
pub some-within : (words : List ℕ) (word : ℕ) → 0 < slice_index words word → word < length words
some-within words word some =
    elim (cases_lt word (length words)) [ inl h ↦ h | inr h ↦ absurd (omega (arith, get_or_past words word 0 h, some)) ]

-- a bit of a word is cleared, by its place in that word
abbrev cleared : List ℕ → ℕ → ℕ → ℕ → List ℕ
cleared words word bit n = slice_set words word (bit_and n (bit_not w64 (1 * 2 ^ bit % 2 ^ 64)))

pub clear-in : (words : List ℕ) (word bit n : ℕ) → word < length words → bit < 64 → n ≡ slice_index words word →
    (bit_of (cleared words word bit n) (word * 64 + bit) ≡ 0) × ((other : ℕ) → other ≢ word * 64 + bit → bit_of (cleared words word bit n) other ≡ bit_of words other)
clear-in words word bit n within below read =
    let here : (word * 64 + bit) / 64 ≡ word = omega arith in
    let place : (word * 64 + bit) % 64 ≡ bit = omega arith in
    let range : word * 64 + bit < 64 * length words = omega arith in
    let same : cleared words word bit n ≡ cleared words ((word * 64 + bit) / 64) ((word * 64 + bit) % 64) n = ap (λ k. cleared words k bit n) (sym here) ∙ ap (λ b. cleared words ((word * 64 + bit) / 64) b n) (sym place) in (
      ap (λ new. bit_of new (word * 64 + bit)) same ∙ clear-here words (word * 64 + bit) n range,
      λ other differs. ap (λ new. bit_of new other) same ∙ clear-other words (word * 64 + bit) n other range (read ∙ ap (slice_index words) (sym here)) differs,
    )

-- behind words without a bit, a word's first bit is the first of all
pub first-of-all : (words : List ℕ) (word place : ℕ) → IsClearBelow words (64 * word) → IsFirstIn words word place → IsFirstBit words place
first-of-all words word place clear found = record {
  is = found.is;
  first = λ other before.
      elim (cases_eq (other / 64) word) [
        | inl same ↦ found.first other same before
        | inr differs ↦ clear other (omega (arith, found.here))
      ];
}
