use Rattle.std.proofs.Common.{◌≡◌, ◌≢◌, inl, inr, ℕ, ◌+◌, ◌*◌, ◌/◌, ◌^◌, ◌==◌, ◌<◌, ◌≤◌, Bool, true, false, w64, List, length, replicate, nat_lt, slice_index, slice_index_or, slice_set, refl, sym, ap, ◌∙◌, arith}
use Rattle.std.proofs.lemmas.Bool.{cases_eq, cases_lt, lt-ltb, ltb-false, ltb-true}
use Rattle.std.proofs.lemmas.List.{ext_get_or, get_or-replicate, get_or-set_other, get_or-set_same, get_or_past, length-replicate, length-set}
use Rattle.std.proofs.lemmas.List.FromFn.{get_or-map-range_with_len, length-map-range_with_len}
use Rattle.std.proofs.lemmas.Nat.Bits.{bit_at-trailing_zeros}
use Rattle.boss_slots.specs.Bits.{IsFirstBit, IsFirstIn, bit_of}
use Rattle.boss_slots.proofs.Words.{first-in, first-of-all, one-zero, zero-bit}
use Rattle.boss_slots.specs.Flags.{AreFilled, AreFlags, IsFirst, flags_of}

-- ---- flags as bits

pub length-flags : (count : ℕ) (words : List ℕ) → length (flags_of count words) ≡ count
length-flags count words = length-map-range_with_len (λ point. bit_of words point == 1) 0 count

pub flag-below : (count : ℕ) (words : List ℕ) (place : ℕ) → place < count → slice_index_or (flags_of count words) place false ≡ (bit_of words place == 1)
flag-below count words place h = get_or-map-range_with_len (λ point. bit_of words point == 1) 0 count place place false h (omega arith)

-- a point has one of the flags
pub point-below : (count : ℕ) (words : List ℕ) (flags : List Bool) (place point : ℕ) → flags_of count words ≡ flags → place ≡ point → point < length flags → place < count
point-below count words flags place point is same h = omega (arith, ap length is, length-flags count words)

-- a bit is written
pub flags-written : (count : ℕ) (words new : List ℕ) (place : ℕ) (flag : Bool) → (bit_of new place == 1) ≡ flag →
    ((other : ℕ) → other ≢ place → bit_of new other ≡ bit_of words other) → flags_of count new ≡ slice_set (flags_of count words) place flag
flags-written count words new place flag here others =
    ext_get_or false (flags_of count new) (slice_set (flags_of count words) place flag)
    (length-flags count new ∙ sym (length-set (flags_of count words) place flag ∙ length-flags count words))
    (λ i h. let below : i < count = omega (arith, length-flags count new) in
    flag-below count new i below ∙ elim (cases_eq i place) [
      | inl e ↦ let in_flags : place < length (flags_of count words) = omega (arith, length-flags count words) in
          rw e (here ∙ sym (get_or-set_same (flags_of count words) place flag false in_flags))
      | inr d ↦ ap (λ (bit : ℕ). bit == 1) (others i d) ∙ sym (get_or-set_other (flags_of count words) place i flag false d ∙ flag-below count words i below)
    ])

-- ---- a bit for each word

pub positive : (words : List ℕ) (place : ℕ) → bit_of words place ≡ 1 → 0 < slice_index words (place / 64)
positive words place is =
    elim (cases_eq (slice_index words (place / 64)) 0) [
      | inl e ↦ absurd (one-zero _ is (zero-bit words place e))
      | inr d ↦ omega arith
    ]

unfilled : (words filled : List ℕ) (word : ℕ) → AreFilled words filled → bit_of filled word ≡ 0 → slice_index words word ≡ 0
unfilled words filled word known clear =
    let e : nat_lt 0 (slice_index words word) ≡ false = sym (known word) ∙ ap (λ (bit : ℕ). bit == 1) clear in
    omega (arith, ltb-false 0 _ e)

-- where no word's bit is set, none of its own is
pub none-filled : (words filled : List ℕ) → AreFilled words filled → ((word : ℕ) → bit_of filled word ≡ 0) → (place : ℕ) → bit_of words place ≡ 0
none-filled words filled known clear place = zero-bit words place (unfilled words filled (place / 64) known (clear (place / 64)))

-- a bit of a word is set, and that of the word is
pub filled-set : (words new filled marked : List ℕ) (place : ℕ) → AreFilled words filled → bit_of new place ≡ 1 → bit_of marked (place / 64) ≡ 1 →
    ((word : ℕ) → word ≢ place / 64 → slice_index new word ≡ slice_index words word) → ((word : ℕ) → word ≢ place / 64 → bit_of marked word ≡ bit_of filled word) →
    AreFilled new marked
filled-set words new filled marked place known here mark words_stay marks_stay word =
    elim (cases_eq word (place / 64)) [
      | inl e ↦ rw e (ap (λ (bit : ℕ). bit == 1) mark ∙ sym (lt-ltb 0 _ (positive new place here)))
      | inr d ↦ ap (λ (bit : ℕ). bit == 1) (marks_stay word d) ∙ known word ∙ ap (nat_lt 0) (sym (words_stay word d))
    ]

-- a word has changed, and is not zero before or after
pub filled-stays : (words new filled : List ℕ) (here : ℕ) → AreFilled words filled → (slice_index new here ≡ 0 → ⊥) → slice_index new here ≤ slice_index words here →
    ((word : ℕ) → word ≢ here → slice_index new word ≡ slice_index words word) → AreFilled new filled
filled-stays words new filled here known some less words_stay word =
    elim (cases_eq word here) [
      | inl e ↦ rw e (known here ∙ lt-ltb 0 _ (omega arith) ∙ sym (lt-ltb 0 _ (omega arith)))
      | inr d ↦ known word ∙ ap (nat_lt 0) (sym (words_stay word d))
    ]

-- a bit is written, and lies below the count
within-written : (count : ℕ) (words new : List ℕ) (place : ℕ) → ((other : ℕ) → bit_of words other ≡ 1 → other < count) → place < count →
    ((other : ℕ) → other ≢ place → bit_of new other ≡ bit_of words other) → (other : ℕ) → bit_of new other ≡ 1 → other < count
within-written count words new place within below others other is =
    elim (cases_eq other place) [ inl e ↦ omega arith | inr d ↦ within other (sym (others other d) ∙ is) ]

pub flags-set : (count : ℕ) (words new filled marked : List ℕ) (place : ℕ) → AreFlags count words filled → place < count →
    length new ≡ length words → bit_of new place ≡ 1 → ((other : ℕ) → other ≢ place → bit_of new other ≡ bit_of words other) →
    ((word : ℕ) → word ≢ place / 64 → slice_index new word ≡ slice_index words word) →
    length marked ≡ length filled → bit_of marked (place / 64) ≡ 1 → ((word : ℕ) → word ≢ place / 64 → bit_of marked word ≡ bit_of filled word) →
    AreFlags count new marked
flags-set count words new filled marked place kept below same_length here bits words_stay same_filled mark marks_stay = record {
  known = filled-set words new filled marked place kept.known here mark words_stay marks_stay;
  within = within-written count words new place kept.within below bits;
  few = kept.few;
  enough = omega arith;
  most = omega arith;
  enough_filled = omega arith;
  most_filled = omega arith;
}

pub flags-cleared : (count : ℕ) (words new filled marked : List ℕ) (place : ℕ) → AreFlags count words filled → place < count →
    length new ≡ length words → ((other : ℕ) → other ≢ place → bit_of new other ≡ bit_of words other) → length marked ≡ length filled → AreFilled new marked →
    AreFlags count new marked
flags-cleared count words new filled marked place kept below same_length bits same_filled known = record {
  known = known;
  within = within-written count words new place kept.within below bits;
  few = kept.few;
  enough = omega arith;
  most = omega arith;
  enough_filled = omega arith;
  most_filled = omega arith;
}

-- ---- no flag is set

zeros : (count place : ℕ) → slice_index (replicate count 0) place ≡ 0
zeros count place =
    elim (cases_lt place count) [ inl h ↦ get_or-replicate count place 0 0 h | inr h ↦ get_or_past (replicate count 0) place 0 (omega (arith, length-replicate {A = ℕ} count 0)) ]

pub no-bit : (count place : ℕ) → bit_of (replicate count 0) place ≡ 0
no-bit count place = zero-bit (replicate count 0) place (zeros count (place / 64))

pub no-flags : (count words : ℕ) → flags_of count (replicate words 0) ≡ replicate count false
no-flags count words =
    ext_get_or false (flags_of count (replicate words 0)) (replicate count false) (length-flags count (replicate words 0) ∙ sym (length-replicate count false))
    (λ i h. let below : i < count = omega (arith, length-flags count (replicate words 0)) in
    flag-below count (replicate words 0) i below ∙ ap (λ (bit : ℕ). bit == 1) (no-bit words i) ∙ sym (get_or-replicate count i false false below))

pub flags-first : (count words filled : ℕ) → count < 2 ^ 32 → count ≤ 64 * words → 64 * words < count + 64 → words ≤ 64 * filled → 64 * filled < words + 64 →
    AreFlags count (replicate words 0) (replicate filled 0)
flags-first count words filled few enough most enough_filled most_filled =
    let n = length-replicate {A = ℕ} words 0 in
    let m = length-replicate {A = ℕ} filled 0 in
    record {
      known = λ word. ap (λ (bit : ℕ). bit == 1) (no-bit filled word) ∙ ap (nat_lt 0) (sym (zeros words word));
      within = λ place is. absurd (one-zero _ is (no-bit words place));
      few = few;
      enough = omega (arith, n);
      most = omega (arith, n);
      enough_filled = omega (arith, n, m);
      most_filled = omega (arith, n, m);
    }

-- ---- the first flag that is set

pub first-flag : (count : ℕ) (words : List ℕ) (place : ℕ) → ((other : ℕ) → bit_of words other ≡ 1 → other < count) → IsFirstBit words place → IsFirst (flags_of count words) place
first-flag count words place within at =
    let below = within place at.is in
    record {
      is = flag-below count words place below ∙ ap (λ (bit : ℕ). bit == 1) at.is;
      first = λ other before. flag-below count words other (omega arith) ∙ ap (λ (bit : ℕ). bit == 1) (at.first other before);
    }

pub some-flag : (count : ℕ) (words : List ℕ) (place : ℕ) → ((other : ℕ) → bit_of words other ≡ 1 → other < count) → bit_of words place ≡ 1 → slice_index_or (flags_of count words) place false ≡ true
some-flag count words place within is = flag-below count words place (within place is) ∙ ap (λ (bit : ℕ). bit == 1) is

pub no-flag : (count : ℕ) (words : List ℕ) (place : ℕ) → bit_of words place ≡ 0 → slice_index_or (flags_of count words) place false ≡ false
no-flag count words place clear =
    elim (cases_lt place count) [
      | inl h ↦ flag-below count words place h ∙ ap (λ (bit : ℕ). bit == 1) clear
      | inr h ↦ get_or_past (flags_of count words) place false (omega (arith, length-flags count words))
    ]

-- a word whose bit is set is not zero
pub some-word : (words filled : List ℕ) (word : ℕ) → AreFilled words filled → bit_of filled word ≡ 1 → 0 < slice_index words word
some-word words filled word known marked = ltb-true 0 _ (sym (known word) ∙ ap (λ (bit : ℕ). bit == 1) marked)

-- and a bit of its own is set
pub some-bit : (words filled : List ℕ) (word : ℕ) → AreFilled words filled → slice_index words word < 2 ^ 64 → bit_of filled word ≡ 1 → (place : ℕ) × (bit_of words place ≡ 1)
some-bit words filled word known small marked =
    let lowest = bit_at-trailing_zeros w64 (slice_index words word) (some-word words filled word known marked) small in
    (_, (first-in words word _ _ refl lowest.0 lowest.1 lowest.2).is)

-- the first word that is not zero has the first bit of all
pub first-filled : (words filled : List ℕ) (word place : ℕ) → AreFilled words filled → IsFirstBit filled word → IsFirstIn words word place → IsFirstBit words place
first-filled words filled word place known at found =
    first-of-all words word place (λ other before. zero-bit words other (unfilled words filled (other / 64) known (at.first (other / 64) (omega arith)))) found
