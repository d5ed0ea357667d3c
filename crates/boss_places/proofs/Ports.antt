-- What `parse` says of a text of digits, and that such a text is one.
use Rattle.std.proofs.Common.{◌≡◌, ℕ, ◌^◌, ◌<◌, ◌≤◌, Bool, true, false, not, ◌&&◌, nat_eq, nat_le, List, length, get_or, is_ok, Result, inl, inr, refl, sym, ◌∙◌, ap, rules, arith}
use Rattle.std.proofs.lemmas.Bool.{cases_Bool, and_parts}
use Rattle.std.proofs.lemmas.Bool.Decides.{nat_tests}
use Rattle.std.proofs.lemmas.Fmt.{IsAscii-from_digits}
use Rattle.std.proofs.lemmas.Result.{OkIff-decides}
use Rattle.std.proofs.lemmas.Str.{IsUtf8-from_ascii}
use Rattle.std.proofs.lemmas.Str.Parse.{IsNumeralModel, numerals_by_value, parse_digits}
use Rattle.std.specs.Char.{is_ascii_digit}
use Rattle.std.specs.List.{list_all}
use Rattle.std.specs.Str.{IsUtf8}
use Rattle.std.specs.Str.Parse.{ParsesUnsigned, digits_value}
use Rattle.boss_places.specs.Words.{is_number, is_port}

digit_texts : IsNumeralModel (λ text. list_all is_ascii_digit text ≡ true) (digits_value 10)
digit_texts = numerals_by_value _ (search rules)

are_digits : (text : List ℕ) → is_number text ≡ true → list_all is_ascii_digit text ≡ true
are_digits text is = (and_parts (nat_le 1 (length text) && nat_le (length text) 5 && not (nat_eq (get_or text 0 0) 48)) (list_all is_ascii_digit text) is).1

has_some : (text : List ℕ) → is_number text ≡ true → nat_le 1 (length text) ≡ true
has_some text is =
    (and_parts (nat_le 1 (length text)) (nat_le (length text) 5)
    (and_parts (nat_le 1 (length text) && nat_le (length text) 5) (not (nat_eq (get_or text 0 0) 48))
    (and_parts (nat_le 1 (length text) && nat_le (length text) 5 && not (nat_eq (get_or text 0 0) 48)) (list_all is_ascii_digit text) is).0).0).0

-- a number is a text
pub number_is_text : (text : List ℕ) → is_number text ≡ true → IsUtf8 text
number_is_text text is = IsUtf8-from_ascii text (IsAscii-from_digits text (digit_texts.to text (are_digits text is)))

both_true : (a b : Bool) → a ≡ true → b ≡ true → (a && b) ≡ true
both_true a b one two = rw (one, two)

one_false : (a b : Bool) → b ≡ false → (a && b) ≡ false
one_false true b failed = failed
one_false false b failed = refl

low_test : (value : ℕ) → value < 2 ^ 16 → nat_le value 65535 ≡ true
low_test value low = grind (arith, nat_tests)

test_low : (value : ℕ) → nat_le value 65535 ≡ true → value < 2 ^ 16
test_low value is = grind (arith, nat_tests)

-- it is a port exactly where `parse` takes it
pub port_is : {E : Type 0} (text : List ℕ) (r : Result ℕ E) → is_number text ≡ true → ParsesUnsigned 16 10 text r → is_ok r ≡ is_port text
port_is text r is h =
    let decides = OkIff-decides r _ _ (parse_digits digit_texts 16 text r h (are_digits text is)) in
    let value = digits_value 10 text in
    elim (cases_Bool (nat_le value 65535)) [
      | inl low ↦
          let some : 1 ≤ length text = (let is_some = has_some text is in grind (arith, nat_tests)) in
          decides.1 (some, test_low value low) ∙ sym (both_true (is_number text) (nat_le value 65535) is low)
      | inr high ↦
          elim (cases_Bool (is_ok r)) [
            | inl ok ↦ (let clash : true ≡ false = sym (low_test value (decides.0 ok).1) ∙ high in absurd cc)
            | inr failed ↦ failed ∙ sym (one_false (is_number text) (nat_le value 65535) high)
          ]
    ]
