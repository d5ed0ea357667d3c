-- A plain string is spelled as it stands, and few digits are a number in range.
use Rattle.std.proofs.Common.{◌≡◌, ℕ, suc, ◌+◌, ◌-◌, ◌*◌, ◌%◌, ◌<◌, ◌≤◌, ◌^◌, Bool, true, false, cond, ◌==◌, List, [], ◌∷◌, ◌++◌, length, get_or, take, drop, Some, None, option_and_then, refl, sym, ap, ◌∙◌, arith, append_assoc}
use Rattle.std.proofs.Math.Nat.{lt_of_not-le}
use Rattle.std.proofs.lemmas.Bool.{ne_eqb, eqb-true, le-leb, and_from}
use Rattle.std.proofs.lemmas.List.{drop_more, drop-drop, take-append-drop, length-take, length-drop, get_or-take, get_or-drop, get_or_past, drop_all}
use Rattle.std.proofs.lemmas.Fmt.{decimal-digits_value}
use Rattle.std.proofs.lemmas.Int.Digits.{digits_value_more}
use Rattle.std.proofs.lemmas.Str.{digit_value_digit}
use Rattle.std.proofs.lemmas.Str.Parse.{IsNumeralModel, numerals_by_value, tells_by_index, digits_value_short}
use Rattle.std.specs.Char.{digit_value, is_ascii_digit}
use Rattle.std.specs.Fmt.{decimal}
use Rattle.std.specs.Int.{IsInRange}
use Rattle.std.specs.List.{prefix_len}
use Rattle.std.specs.Str.Parse.{digits_value}
use Rattle.json.specs.Json.{number}
use Rattle.json.specs.Print.{escape, quoted, IsNumber}
use Rattle.json.specs.Word.{head, after_digits, after_whole, after_fraction, after_exponent, after_number}
use Rattle.json.specs.Written.{PlainBetween}
use Rattle.json.proofs.Printed.Plain.{escape_on_plain}
use Rattle.boss_json.specs.Compact.{IsFit}
use Rattle.boss_json.proofs.Digits.{digits_in_range}

-- the bytes from i up to j
abbrev pub between : ℕ → ℕ → List ℕ → List ℕ
between i j d = take (j - i) (drop i d)

within : (d : List ℕ) (i : ℕ) → 0 < get_or d i 0 → i < length d
within d i some = lt_of_not-le (λ past. omega (arith, get_or_past d i 0 past))

pub cut : (d : List ℕ) (i j : ℕ) → i ≤ j → drop i d ≡ between i j d ++ drop j d
cut d i j le =
    let there : i + (j - i) ≡ j = omega arith in
    sym (take-append-drop (j - i) (drop i d)) ∙ ap (λ l. between i j d ++ l) (drop-drop (j - i) i d ∙ ap (λ k. drop k d) there)

length-between : (d : List ℕ) (i j : ℕ) → j ≤ length d → length (between i j d) ≡ j - i
length-between d i j le = omega (arith, length-take (j - i) (drop i d), length-drop i d)

byte_between : (d : List ℕ) (i j k : ℕ) → i + k < j → get_or (between i j d) k 0 ≡ get_or d (i + k) 0
byte_between d i j k lt = get_or-take (j - i) (drop i d) k 0 (omega arith) ∙ get_or-drop i d k 0

-- ---- strings

pub quoted_plain : (d : List ℕ) (i j : ℕ) → i + 1 ≤ j → get_or d i 0 ≡ 34 → get_or d j 0 ≡ 34 → PlainBetween d (i + 1) j → drop i d ≡ quoted (between (i + 1) j d) ++ drop (j + 1) d
quoted_plain d i j le opening closing plain =
    let s = between (i + 1) j d in
    let inside : j < length d = within d j (omega arith) in
    let size = length-between d (i + 1) j (omega arith) in
    let same : escape s ≡ s = escape_on_plain true s (λ k p q. rw (byte_between d (i + 1) j k (omega arith)) (plain (i + 1 + k) (omega arith) (omega arith))) in
    let first : drop i d ≡ 34 ∷ drop (i + 1) d = drop_more d i 0 (omega arith) ∙ ap (λ x. x ∷ drop (i + 1) d) opening in
    let last : drop j d ≡ 34 ∷ drop (j + 1) d = drop_more d j 0 inside ∙ ap (λ x. x ∷ drop (j + 1) d) closing in
    first ∙ ap (λ l. 34 ∷ l) (cut d (i + 1) j le ∙ ap (λ l. s ++ l) last ∙ sym (append_assoc s (34 ∷ []) (drop (j + 1) d))) ∙ ap (λ t. 34 ∷ ((t ++ 34 ∷ []) ++ drop (j + 1) d)) (sym same)

-- ---- numbers

-- the bytes from one place to another are digits
abbrev pub DigitsBetween : List ℕ → ℕ → ℕ → Type 0
DigitsBetween d i j = (k : ℕ) → i ≤ k → k < j → IsInRange 48 57 (get_or d k 0)

abbrev AreDigits : List ℕ → Type 0
AreDigits ds = (i : ℕ) → i < length ds → IsInRange 48 57 (get_or ds i 0)

own : IsNumeralModel AreDigits (digits_value 10)
own = numerals_by_value AreDigits tells_by_index

digits_between : (d : List ℕ) (i j : ℕ) → DigitsBetween d i j → j ≤ length d → AreDigits (between i j d)
digits_between d i j all le k lt =
    let size = length-between d i j le in
    let here = all (i + k) (omega arith) (omega arith) in
    let same = byte_between d i j k (omega arith) in
    (omega arith, omega arith)

all_passed : (ds : List ℕ) → AreDigits ds → prefix_len is_ascii_digit ds ≡ length ds
all_passed [] h = refl
all_passed (d ∷ ds) h =
    let first = h 0 (omega arith) in
    ap (λ b. cond b (1 + prefix_len is_ascii_digit ds) 0) (and_from _ _ (le-leb 48 d first.0) (le-leb d 57 first.1)) ∙ omega (arith, all_passed ds (λ i lt. h (suc i) (omega arith)))

empty : (ds : List ℕ) → length ds ≡ 0 → ds ≡ []
empty [] none = refl
empty (d ∷ ds) none = absurd (omega arith)

whole_by : (zero : Bool) (d : ℕ) (ds : List ℕ) → (zero ≡ true → d ≡ 48) → AreDigits (d ∷ ds) → prefix_len is_ascii_digit (d ∷ ds) ≡ length (d ∷ ds) → (d ≡ 48 → length (d ∷ ds) ≡ 1)
    → (cond zero (Some ds) (after_digits (d ∷ ds)) ≡ Some []) × ((d == 45) ≡ false)
whole_by true d ds is h all alone = (ap Some (empty ds (omega (arith, alone (is refl)))), ne_eqb d 45 (λ e. omega (arith, is refl)))
whole_by false d ds is h all alone =
    let past : drop (suc (length ds)) (d ∷ ds) ≡ [] = drop_all (suc (length ds)) (d ∷ ds) (omega arith) in (
      ap (λ n. cond (n == 0) None (Some (drop n (d ∷ ds)))) all ∙ ap (λ b. cond b None (Some (drop (suc (length ds)) (d ∷ ds)))) (ne_eqb (suc (length ds)) 0 (λ e. omega arith)) ∙ ap Some past,
      ne_eqb d 45 (λ e. omega (arith, h 0 (omega arith))),
    )

whole : (ds : List ℕ) → AreDigits ds → 0 < length ds → (get_or ds 0 0 ≡ 48 → length ds ≡ 1) → (after_whole ds ≡ Some []) × ((head ds == 45) ≡ false)
whole [] h some alone = absurd (omega arith)
whole (d ∷ ds) h some alone = whole_by (d == 48) d ds (eqb-true d 48) h (all_passed (d ∷ ds) h) alone

IsNumber-digits : (ds : List ℕ) → AreDigits ds → 0 < length ds → (get_or ds 0 0 ≡ 48 → length ds ≡ 1) → IsNumber ds
unfolding after_number
IsNumber-digits ds h some alone =
    let w = whole ds h some alone in
    ap (λ o. option_and_then after_exponent (option_and_then after_fraction o)) (ap (λ b. after_whole (cond b (drop 1 ds) ds)) w.1 ∙ w.0)

-- a byte that is at most 9 above `0` is a digit
pub digit_by_value : (x n : ℕ) → x < 256 → n ≡ (x + 208) % 256 → n ≤ 9 → IsInRange 48 57 x × (n ≡ x - 48)
digit_by_value x n byte is few = ((omega (arith, byte, is, few), omega (arith, byte, is, few)), omega (arith, byte, is, few))

-- one digit more is read
pub one_digit_on : (d : List ℕ) (i j : ℕ) → i ≤ j → j < length d → IsInRange 48 57 (get_or d j 0) → digits_value 10 (between i (j + 1) d) ≡ digits_value 10 (between i j d) * 10 + (get_or d j 0 - 48)
one_digit_on d i j le lt digit =
    let there : j + 1 - i ≡ j - i + 1 = omega (arith, le) in
    let back : i + (j - i) ≡ j = omega (arith, le) in
    let more = digits_value_more 10 (drop i d) (j - i) (omega (arith, length-drop i d, le, lt)) in
    let last : digit_value (get_or (drop i d) (j - i) 0) ≡ digit_value (get_or d j 0) = ap digit_value (get_or-drop i d (j - i) 0 ∙ ap (λ k. get_or d k 0) back) in
    ap (λ n. digits_value 10 (take n (drop i d))) there ∙ more ∙ omega (arith, last, digit_value_digit (get_or d j 0) digit)

pub value_has_room : (d : List ℕ) (i j : ℕ) → DigitsBetween d i j → j ≤ length d → j - i ≤ 18 → digits_value 10 (between i j d) < 10 ^ 18
value_has_room d i j all le few = digits_value_short own (between i j d) 18 (digits_between d i j all le) (omega (arith, length-between d i j le, few))

-- digits without a leading 0 are what is written of their value
pub decimal-between : (d : List ℕ) (i j : ℕ) → i < j → j ≤ length d → j - i ≤ 18 → DigitsBetween d i j → (get_or d i 0 ≡ 48 → j - i ≡ 1) → decimal (digits_value 10 (between i j d)) ≡ between i j d
decimal-between d i j some le few all alone =
    let size = length-between d i j le in
    let start : i + 0 ≡ i = omega arith in
    let first = byte_between d i j 0 (omega (arith, some)) ∙ ap (λ k. get_or d k 0) start in
    decimal-digits_value own (between i j d) (digits_between d i j all le) (omega (arith, size, some)) (λ zero. omega (arith, size, alone (sym first ∙ zero))) (omega (arith, value_has_room d i j all le few))

pub few_digits : (d : List ℕ) (i j : ℕ) → i < j → j - i ≤ 18 → DigitsBetween d i j → (get_or d i 0 ≡ 48 → j - i ≡ 1) → IsFit 0 (number (between i j d))
few_digits d i j some few all alone =
    let ds = between i j d in
    let last = all (j - 1) (omega arith) (omega arith) in
    let inside = within d (j - 1) (omega arith) in
    let size = length-between d i j (omega arith) in
    let digits = digits_between d i j all (omega arith) in
    let start : i + 0 ≡ i = omega arith in
    let first = byte_between d i j 0 (omega arith) ∙ ap (λ k. get_or d k 0) start in
    record {
      numbers = IsNumber-digits ds digits (omega arith) (λ zero. omega (arith, alone (sym first ∙ zero)));
      fits = digits_in_range ds (omega arith, own.to ds digits) (digits_value_short own ds 18 digits (omega arith));
      nests = omega arith;
    }
