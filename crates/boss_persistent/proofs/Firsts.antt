-- The first place at which a test holds, as a scan of a list finds it.
use Rattle.std.proofs.Common.{◌≡◌, ℕ, zero, suc, ◌+◌, ◌<◌, ◌≤◌, List, [], ◌∷◌, length, take, get_or, Bool, true, false, not, Some, None, cond, refl, ap, sym, ◌∙◌, arith}
use Rattle.std.specs.Prelude.{◌||◌, nat_lt, position, find}
use Rattle.std.specs.List.{list_any, position_or_len}
use Rattle.std.proofs.lemmas.Bool.Decides.{nat_tests}
use Rattle.std.proofs.lemmas.List.{take_all}
use Rattle.std.proofs.lemmas.List.Folds.{list_any_more}

pub none-of-two : (a b : Bool) → (a || b) ≡ false → (a ≡ false) × (b ≡ false)
none-of-two true b none = cc
none-of-two false b none = (refl, none)

module _ {X : Type 0} (test : X → Bool) where
  -- no item before the next place passes
  pub skipped-more : (xs : List X) (i : ℕ) (x : X) → i < length xs → x ≡ get_or xs i x → test x ≡ false → list_any test (take i xs) ≡ false →
      list_any test (take (i + 1) xs) ≡ false
  skipped-more xs i x within is fails none =
      list_any_more test xs i x within ∙ (ap (λ b. b || test (get_or xs i x)) none ∙ (ap test (sym is) ∙ fails))

  place-here : (xs : List X) (i : ℕ) (x : X) → i < length xs → x ≡ get_or xs i x → test x ≡ true → list_any test (take i xs) ≡ false →
      position_or_len test xs ≡ i
  place-here [] i x within is passes none = absurd (omega arith)
  place-here (y ∷ ys) zero x within is passes none = ap (λ b. cond (not b) (1 + position_or_len test ys) 0) (ap test (sym is) ∙ passes)
  place-here (y ∷ ys) (suc i) x within is passes none =
      let both = none-of-two (test y) (list_any test (take i ys)) none in
      let rest : position_or_len test ys ≡ i = place-here ys i x (omega arith) is passes both.1 in
      ap (λ b. cond (not b) (1 + position_or_len test ys) 0) both.0 ∙ omega arith

  place-past : (xs : List X) → list_any test xs ≡ false → position_or_len test xs ≡ length xs
  place-past [] none = refl
  place-past (y ∷ ys) none =
      let both = none-of-two (test y) (list_any test ys) none in
      let rest : position_or_len test ys ≡ length ys = place-past ys both.1 in
      ap (λ b. cond (not b) (1 + position_or_len test ys) 0) both.0 ∙ omega arith

  -- the item at this place passes, and none before it
  pub position-here : (xs : List X) (i : ℕ) (x : X) → i < length xs → x ≡ get_or xs i x → test x ≡ true → list_any test (take i xs) ≡ false →
      position test xs ≡ Some i
  position-here xs i x within is passes none =
      let inside : nat_lt i (length xs) ≡ true = grind (arith, nat_tests) in
      ap (λ n. cond (nat_lt n (length xs)) (Some n) None) (place-here xs i x within is passes none) ∙ ap (λ b. cond b (Some i) None) inside

  -- no item passes
  pub position-none : (xs : List X) (i : ℕ) → length xs ≤ i → list_any test (take i xs) ≡ false → position test xs ≡ None
  position-none xs i past none =
      let outside : nat_lt (length xs) (length xs) ≡ false = grind (arith, nat_tests) in
      let no_item : list_any test xs ≡ false = ap (list_any test) (sym (take_all i xs past)) ∙ none in
      ap (λ n. cond (nat_lt n (length xs)) (Some n) None) (place-past xs no_item) ∙ ap (λ b. cond b (Some (length xs)) None) outside

  -- the same of the item itself
  pub find-here : (xs : List X) (i : ℕ) (x : X) → i < length xs → x ≡ get_or xs i x → test x ≡ true → list_any test (take i xs) ≡ false →
      find test xs ≡ Some x
  find-here [] i x within is passes none = absurd (omega arith)
  find-here (y ∷ ys) zero x within is passes none = ap (λ b. cond b (Some y) (find test ys)) (ap test (sym is) ∙ passes) ∙ ap Some (sym is)
  find-here (y ∷ ys) (suc i) x within is passes none =
      let both = none-of-two (test y) (list_any test (take i ys)) none in
      ap (λ b. cond b (Some y) (find test ys)) both.0 ∙ find-here ys i x (omega arith) is passes both.1

  find-past : (xs : List X) → list_any test xs ≡ false → find test xs ≡ None
  find-past [] none = refl
  find-past (y ∷ ys) none =
      let both = none-of-two (test y) (list_any test ys) none in
      ap (λ b. cond b (Some y) (find test ys)) both.0 ∙ find-past ys both.1

  pub find-none : (xs : List X) (i : ℕ) → length xs ≤ i → list_any test (take i xs) ≡ false → find test xs ≡ None
  find-none xs i past none = find-past xs (ap (list_any test) (sym (take_all i xs past)) ∙ none)
