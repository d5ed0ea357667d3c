-- The first place of a list whose item passes a test.
use Rattle.std.proofs.Common.{◌≡◌, ℕ, zero, suc, ◌+◌, ◌<◌, Bool, true, false, List, [], ◌∷◌, length, get_or, Some, None, refl, ◌∙◌, ap, subst, ⊎_elim, arith}
use Rattle.std.specs.Prelude.{find, slice_get}
use Rattle.std.specs.List.{position_from}
use Rattle.std.proofs.lemmas.Bool.{cases_Bool}
use Rattle.std.proofs.lemmas.Grind.{common_steps}

module _ {X : Type 0} (test : X → Bool) where
  pub record IsFirst (xs : List X) (place : ℕ) : Type 0 where
    pub within : place < length xs
    pub passes : (d : X) → test (get_or xs place d) ≡ true
    pub before : (other : ℕ) (d : X) → other < place → test (get_or xs other d) ≡ false

  abbrev pub AllFail : List X → Type 0
  AllFail xs = (place : ℕ) (d : X) → place < length xs → test (get_or xs place d) ≡ false

  pub IsFirst-tail : (x : X) (xs : List X) (place : ℕ) → IsFirst (x ∷ xs) (suc place) → IsFirst xs place
  IsFirst-tail x xs place first = record {
    within = omega (arith, first.within);
    passes = first.passes;
    before = λ other d less. first.before (suc other) d (omega arith);
  }

  pub AllFail-tail : (x : X) (xs : List X) → AllFail (x ∷ xs) → AllFail xs
  AllFail-tail x xs fail place d within = fail (suc place) d (omega arith)

  pub find-IsFirst : (xs : List X) (place : ℕ) → IsFirst xs place → find test xs ≡ slice_get xs place
  find-IsFirst [] place first = refl
  find-IsFirst (x ∷ xs) zero first = grind (arith, common_steps, first.passes x)
  find-IsFirst (x ∷ xs) (suc place) first = grind (arith, common_steps, first.before 0 x (omega arith), find-IsFirst xs place (IsFirst-tail x xs place first))

  pub find-AllFail : (xs : List X) → AllFail xs → find test xs ≡ None
  find-AllFail [] fail = refl
  find-AllFail (x ∷ xs) fail = grind (arith, common_steps, fail 0 x (omega arith), find-AllFail xs (AllFail-tail x xs fail))

  position_from-IsFirst : (from : ℕ) (xs : List X) (place : ℕ) → IsFirst xs place → position_from test from xs ≡ Some (from + place)
  position_from-IsFirst from [] place first = absurd (omega (arith, first.within))
  position_from-IsFirst from (x ∷ xs) zero first = grind (arith, common_steps, first.passes x)
  position_from-IsFirst from (x ∷ xs) (suc place) first =
      let further : from + 1 + place ≡ from + suc place = omega arith in
      grind (arith, common_steps, further, first.before 0 x (omega arith), position_from-IsFirst (from + 1) xs place (IsFirst-tail x xs place first))

  pub position-IsFirst : (xs : List X) (place : ℕ) → IsFirst xs place → position_from test 0 xs ≡ Some place
  position-IsFirst xs place first =
      let same : 0 + place ≡ place = omega arith in
      position_from-IsFirst 0 xs place first ∙ ap Some same

  position_from-AllFail : (from : ℕ) (xs : List X) → AllFail xs → position_from test from xs ≡ None
  position_from-AllFail from [] fail = refl
  position_from-AllFail from (x ∷ xs) fail = grind (arith, common_steps, fail 0 x (omega arith), position_from-AllFail (from + 1) xs (AllFail-tail x xs fail))

  pub position-AllFail : (xs : List X) → AllFail xs → position_from test 0 xs ≡ None
  position-AllFail xs fail = position_from-AllFail 0 xs fail

  IsFirst-head : (x : X) (xs : List X) → test x ≡ true → IsFirst (x ∷ xs) 0
  IsFirst-head x xs passes = record { within = omega arith; passes = λ d. passes; before = λ other d less. absurd (omega arith) }

  IsFirst-further : (x : X) (xs : List X) (place : ℕ) → test x ≡ false → IsFirst xs place → IsFirst (x ∷ xs) (suc place)
  IsFirst-further x xs place fails first = record { within = omega (arith, first.within); passes = first.passes; before = earlier }
    where
      earlier : (other : ℕ) (d : X) → other < suc place → test (get_or (x ∷ xs) other d) ≡ false
      earlier zero d less = fails
      earlier (suc other) d less = first.before other d (omega arith)

  -- what a position tells
  from_position : (from : ℕ) (xs : List X) (at : ℕ) → position_from test from xs ≡ Some at → (place : ℕ) × (at ≡ from + place) × IsFirst xs place
  from_position from [] at is = absurd (grind arith)
  from_position from (x ∷ xs) at is =
      ⊎_elim
      (λ passes.
      let here : from ≡ at = grind (arith, common_steps) in
      (0, omega arith, IsFirst-head x xs passes))
      (λ fails.
      let further : position_from test (from + 1) xs ≡ Some at = grind (arith, common_steps) in
      let rest = from_position (from + 1) xs at further in
      (suc rest.0, omega (arith, rest.1), IsFirst-further x xs rest.0 fails rest.2))
      (cases_Bool (test x))

  pub IsFirst-position : (xs : List X) (place : ℕ) → position_from test 0 xs ≡ Some place → IsFirst xs place
  IsFirst-position xs place is =
      let found = from_position 0 xs place is in
      let same : found.0 ≡ place = omega (arith, found.1) in
      subst (IsFirst xs) same found.2

  from_no_position : (from : ℕ) (xs : List X) → position_from test from xs ≡ None → AllFail xs
  from_no_position from [] is place d within = absurd (omega arith)
  from_no_position from (x ∷ xs) is zero d within =
      ⊎_elim (λ passes. absurd (grind (arith, common_steps))) (λ fails. fails) (cases_Bool (test x))
  from_no_position from (x ∷ xs) is (suc place) d within =
      ⊎_elim
      (λ passes. absurd (grind (arith, common_steps)))
      (λ fails. from_no_position (from + 1) xs (grind (arith, common_steps)) place d (omega arith))
      (cases_Bool (test x))

  pub AllFail-position : (xs : List X) → position_from test 0 xs ≡ None → AllFail xs
  AllFail-position xs is = from_no_position 0 xs is
