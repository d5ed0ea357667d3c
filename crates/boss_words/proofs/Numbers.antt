-- What `parse` says of a text of digits.
use Rattle.std.proofs.Common.{◌≡◌, ℕ, ◌^◌, ◌<◌, ◌≤◌, Bool, true, false, ◌&&◌, cond, nat_le, nat_lt, List, length, Some, None, Err, inl, inr, refl, rules, arith}
use Rattle.std.proofs.lemmas.Bool.{cases_Bool, and_parts}
use Rattle.std.proofs.lemmas.Bool.Decides.{nat_tests}
use Rattle.std.proofs.lemmas.Str.Parse.{IsNumeralModel, numerals_by_value, parse_digits}
use Rattle.std.specs.Char.{is_ascii_digit}
use Rattle.std.specs.List.{list_all}
use Rattle.std.specs.Str.Parse.{ParsesUnsigned, digits_value}
use Rattle.boss_words.specs.Words.{event_number_of, is_event_number, is_number, number_of}

digit_texts : IsNumeralModel (λ text. list_all is_ascii_digit text ≡ true) (digits_value 10)
digit_texts = numerals_by_value _ (search rules)

nothing_from_false : {A : Type 0} (a b : Bool) (x : A) → b ≡ false → cond (a && b) (Some x) None ≡ None
nothing_from_false true b x failed = rw failed
nothing_from_false false b x failed = refl

within : (a b : ℕ) → nat_le a b ≡ true → a ≤ b
within a b test = grind (arith, nat_tests)

below : (a b : ℕ) → nat_lt a b ≡ true → a < b
below a b test = grind (arith, nat_tests)

-- a number that `parse` refuses is beyond every bound of 32 bits
pub number_of-refused : {E : Type 0} (least most : ℕ) (text : List ℕ) (e : E) → most < 2 ^ 32 → is_number text ≡ true
    → ParsesUnsigned 32 10 text (Err e) → number_of least most text ≡ None
number_of-refused least most text e small is h =
    let (sized, digits) = and_parts (nat_le 1 (length text) && nat_le (length text) 10) (list_all is_ascii_digit text) is in
    let (some, few) = and_parts (nat_le 1 (length text)) (nat_le (length text) 10) sized in
    let refused = parse_digits digit_texts 32 text (Err e) h digits in
    let value = digits_value 10 text in
    elim (cases_Bool (nat_le value most)) [
      | inl low ↦
          let one : 1 ≤ length text = within _ _ some in
          let low : value ≤ most = within _ _ low in
          absurd (refused (one, omega arith))
      | inr high ↦ nothing_from_false (is_number text && nat_le least value) (nat_le value most) value high
    ]

-- a number that `parse` refuses is none of an event's
pub event_number_of-refused : {E : Type 0} (text : List ℕ) (e : E) → is_event_number text ≡ true → ParsesUnsigned 64 10 text (Err e) → event_number_of text ≡ None
event_number_of-refused text e is h =
    let (sized, digits) = and_parts (nat_le 1 (length text) && nat_le (length text) 19) (list_all is_ascii_digit text) is in
    let (some, few) = and_parts (nat_le 1 (length text)) (nat_le (length text) 19) sized in
    let refused = parse_digits digit_texts 64 text (Err e) h digits in
    let value = digits_value 10 text in
    elim (cases_Bool (nat_lt value (2 ^ 62))) [
      | inl low ↦
          let one : 1 ≤ length text = within _ _ some in
          let low : value < 2 ^ 62 = below _ _ low in
          absurd (refused (one, omega arith))
      | inr high ↦ nothing_from_false (is_event_number text) (nat_lt value (2 ^ 62)) value high
    ]
