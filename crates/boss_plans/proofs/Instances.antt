-- What `parse` says of an instance.
use Rattle.std.proofs.Common.{◌≡◌, ℕ, ◌^◌, ◌<◌, ◌≤◌, Bool, true, false, ◌&&◌, cond, not, nat_eq, nat_le, List, [], ◌∷◌, length, Some, None, Err, inl, inr, refl, rules, arith}
use Rattle.std.proofs.lemmas.Bool.{cases_Bool, and_parts}
use Rattle.std.proofs.lemmas.Bool.Decides.{nat_tests}
use Rattle.std.proofs.lemmas.Str.Parse.{IsNumeralModel, numerals_by_value, parse_digits}
use Rattle.std.specs.Char.{is_ascii_digit}
use Rattle.std.specs.List.{list_all}
use Rattle.std.specs.Str.Parse.{ParsesUnsigned, digits_value}
use Rattle.boss_plans.specs.Objects.{instance_of, is_instance}

digit_texts : IsNumeralModel (λ text. list_all is_ascii_digit text ≡ true) (digits_value 10)
digit_texts = numerals_by_value _ (search rules)

alone : (b : Bool) → b ≡ true → (b && true) ≡ true
alone true is = refl
alone false is = cc

all-digits : (text : List ℕ) → is_instance text ≡ true → list_all is_ascii_digit text ≡ true
all-digits [] is = cc
all-digits (digit ∷ []) is = alone (is_ascii_digit digit) is
all-digits (first ∷ second ∷ rest) is =
    let (other, sized) = and_parts (not (nat_eq first 48)) (nat_le (length (first ∷ second ∷ rest)) 7 && list_all is_ascii_digit (first ∷ second ∷ rest)) is in
    let (few, digits) = and_parts (nat_le (length (first ∷ second ∷ rest)) 7) (list_all is_ascii_digit (first ∷ second ∷ rest)) sized in
    digits

some-digits : (text : List ℕ) → is_instance text ≡ true → 1 ≤ length text
some-digits [] is = cc
some-digits (digit ∷ rest) is = omega arith

nothing_from_false : {A : Type 0} (a b : Bool) (x : A) → b ≡ false → cond (a && b) (Some x) None ≡ None
nothing_from_false true b x failed = rw failed
nothing_from_false false b x failed = refl

within : (a b : ℕ) → nat_le a b ≡ true → a ≤ b
within a b test = grind (arith, nat_tests)

-- a number that `parse` refuses is beyond every instance
pub instance_of-refused : {E : Type 0} (text : List ℕ) (e : E) → is_instance text ≡ true → ParsesUnsigned 32 10 text (Err e) → instance_of text ≡ None
instance_of-refused text e is h =
    let refused = parse_digits digit_texts 32 text (Err e) h (all-digits text is) in
    let value = digits_value 10 text in
    elim (cases_Bool (nat_le value 4194302)) [
      | inl low ↦
          let one : 1 ≤ length text = some-digits text is in
          let low : value ≤ 4194302 = within _ _ low in
          absurd (refused (one, omega arith))
      | inr high ↦ nothing_from_false (is_instance text) (nat_le value 4194302) value high
    ]
