-- A text that is nothing but digits is the number that they write.
use Rattle.std.proofs.Common.{◌≡◌, ℕ, ◌+◌, ◌-◌, ◌*◌, ◌<◌, ◌≤◌, ◌^◌, true, false, ◌==◌, List, [], ◌∷◌, length, get_or, Some, is_some, pos, inl, inr, refl, sym, ap, ◌∙◌, arith, append-nil, lt-ltb}
use Rattle.std.proofs.lemmas.Bool.{cases_Bool, eqb-true}
use Rattle.std.proofs.Math.Nat.{one-le-pow}
use Rattle.std.proofs.lemmas.Nat.{mul-le, pow-add}
use Rattle.std.proofs.lemmas.Fmt.{decimal_is_IsNumeral}
use Rattle.std.proofs.lemmas.Float.Parse.{scan_numeral-text_of}
use Rattle.std.proofs.lemmas.Str.Parse.{digit_from_value}
use Rattle.std.specs.Float.Numeral.{Parts, IsWellFormed, scan_numeral}
use Rattle.std.specs.Fmt.{decimal}
use Rattle.std.specs.Option.{option_and_then}
use Rattle.std.specs.Str.Parse.{AllDigits, IsNumeral, digits_value}
use Rattle.serde_json.specs.Data.{unsigned}
use Rattle.serde_json.specs.Find.{as_i64}
use Rattle.serde_json.specs.Read.{number_of, number_from}

abbrev parts_of : List ℕ → Parts
parts_of ds = record { whole = ds; point = false; fraction = []; exponent_negative = false; exponent = []; len = length ds }

well_formed : (ds : List ℕ) → AllDigits 10 ds → IsWellFormed (parts_of ds)
well_formed ds all = record { whole_digits = all; fraction_digits = tt; exponent_digits = tt; no_point = λ _. refl; no_exponent = λ _. refl; len_is = ap length (sym (append-nil ds)) }

scan-digits : (ds : List ℕ) → AllDigits 10 ds → scan_numeral ds ≡ parts_of ds
scan-digits ds all = ap scan_numeral (sym (append-nil ds)) ∙ scan_numeral-text_of (parts_of ds) (well_formed ds all)

no_minus : (ds : List ℕ) → IsNumeral 10 ds → (get_or ds 0 0 == 45) ≡ false
no_minus [] digits = absurd (omega (arith, digits.0))
no_minus (c ∷ ds) digits =
    elim (cases_Bool (c == 45)) [
      | inl is ↦ absurd (omega (arith, digit_from_value c digits.1.0, eqb-true c 45 is))
      | inr is_not ↦ is_not
    ]

number_of-digits : (ds : List ℕ) → IsNumeral 10 ds → digits_value 10 ds < 2 ^ 64 → number_of ds ≡ Some (unsigned (digits_value 10 ds))
unfolding number_of
number_of-digits ds digits fits =
    let first : number_of ds ≡ number_from false (scan_numeral ds) = rw (no_minus ds digits) refl in
    let last : number_from false (parts_of ds) ≡ Some (unsigned (digits_value 10 ds)) = rw (append-nil ds, lt-ltb 0 (length ds) digits.0, lt-ltb (digits_value 10 ds) (2 ^ 64) fits) refl in
    first ∙ ap (number_from false) (scan-digits ds digits.1) ∙ last

pub whole_digits : (ds : List ℕ) → IsNumeral 10 ds → digits_value 10 ds < 10 ^ 18 → option_and_then as_i64 (number_of ds) ≡ Some (pos (digits_value 10 ds))
whole_digits ds digits few =
    let fits : digits_value 10 ds < 2 ^ 63 = omega (arith, few) in
    let last : as_i64 (unsigned (digits_value 10 ds)) ≡ Some (pos (digits_value 10 ds)) = rw (lt-ltb (digits_value 10 ds) (2 ^ 63) fits) refl in
    ap (option_and_then as_i64) (number_of-digits ds digits (omega (arith, few))) ∙ last

pub digits_in_range : (ds : List ℕ) → IsNumeral 10 ds → digits_value 10 ds < 10 ^ 18 → is_some (number_of ds) ≡ true
digits_in_range ds digits few = ap is_some (number_of-digits ds digits (omega (arith, few)))

-- a number of 64 bits, as it is written
pub decimal_number : (n : ℕ) → n < 2 ^ 64 → number_of (decimal n) ≡ Some (unsigned n)
decimal_number n fits =
    let written = decimal_is_IsNumeral n fits in
    number_of-digits (decimal n) written.0 (omega (arith, fits, written.1)) ∙ ap (λ m. Some (unsigned m)) written.1

pub one_digit_more : (n d i : ℕ) → n < 10 ^ i → d < 10 → n * 10 + d < 10 ^ (i + 1)
one_digit_more n d i few digit =
    let more : 10 ^ (i + 1) ≡ 10 ^ i * 10 = pow-add 10 i 1 in
    omega (arith, more, few, digit)

pub few_have_room : (n i : ℕ) → n < 10 ^ i → i ≤ 18 → n < 10 ^ 18
few_have_room n i few le =
    let there : i + (18 - i) ≡ 18 = omega arith in
    let whole : 10 ^ i * 10 ^ (18 - i) ≡ 10 ^ 18 = sym (pow-add 10 i (18 - i)) ∙ ap (λ k. 10 ^ k) there in
    let more : 10 ^ i * 1 ≤ 10 ^ i * 10 ^ (18 - i) = mul-le (10 ^ i) 1 (10 ^ i) (10 ^ (18 - i)) (omega arith) (one-le-pow (18 - i) 10 (omega arith)) in
    omega (arith, few, whole, more)
