-- Places in a list, and in the list of what its items are seen as.
use Rattle.std.proofs.Common.{◌≡◌, ℕ, zero, suc, ◌+◌, ◌<◌, Bool, true, false, ◌||◌, cond, List, [], ◌∷◌, length, get_or, map, position, Option, Some, None, refl, sym, ap, ◌∙◌, arith}
use Rattle.std.proofs.lemmas.Iterator.Adapters.{position_from-zero}
use Rattle.std.specs.List.{AllByRecursion, position_from, list_any}

module _ {A B : Type 0} (see : A → B) where
  position_from-map : (test : B → Bool) (place : ℕ) (xs : List A) → position_from (λ x. test (see x)) place xs ≡ position_from test place (map see xs)
  position_from-map test place [] = refl
  position_from-map test place (x ∷ xs) = ap (cond (test (see x)) (Some place)) (position_from-map test (place + 1) xs)

  pub position-map : (test : B → Bool) (xs : List A) → position (λ x. test (see x)) xs ≡ position test (map see xs)
  position-map test xs = position_from-zero (λ x. test (see x)) xs ∙ position_from-map test 0 xs ∙ sym (position_from-zero test (map see xs))

  pub list_any-map : (test : B → Bool) (xs : List A) → list_any (λ x. test (see x)) xs ≡ list_any test (map see xs)
  list_any-map test [] = refl
  list_any-map test (x ∷ xs) = ap (λ found. test (see x) || found) (list_any-map test xs)

  -- what the test says of all, it says of each
  pub fails_at : (test : B → Bool) (xs : List A) (i : ℕ) (x : A) → AllByRecursion (λ y. test y ≡ false) (map see xs) → i < length xs → x ≡ get_or xs i x → test (see x) ≡ false
  fails_at test [] i x all within is = absurd (omega arith)
  fails_at test (y ∷ xs) zero x all within is = rw is all.0
  fails_at test (y ∷ xs) (suc i) x all within is = fails_at test xs i x all.1 (omega arith) is

-- where no place is found, the test fails at each
failed : (found : Bool) (place : ℕ) (more : Option ℕ) → cond found (Some place) more ≡ None → (found ≡ false) × (more ≡ None)
failed true place more none = absurd (cc)
failed false place more none = (refl, none)

fails_from : {A : Type 0} (test : A → Bool) (place : ℕ) (xs : List A) → position_from test place xs ≡ None → AllByRecursion (λ x. test x ≡ false) xs
fails_from test place [] none = tt
fails_from test place (x ∷ xs) none =
    let (here, more) = failed (test x) place (position_from test (place + 1) xs) none in
    (here, fails_from test (place + 1) xs more)

pub fails_everywhere : {A : Type 0} (test : A → Bool) (xs : List A) → position test xs ≡ None → AllByRecursion (λ x. test x ≡ false) xs
fails_everywhere test xs none = fails_from test 0 xs (sym (position_from-zero test xs) ∙ none)

-- tests that agree find the same place
pub position-same : {A : Type 0} (test other : A → Bool) (xs : List A) → ((x : A) → test x ≡ other x) → position test xs ≡ position other xs
position-same test other xs same = λ j. position (λ x. same x j) xs
