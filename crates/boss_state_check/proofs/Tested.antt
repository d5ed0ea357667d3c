-- Tests by and by: what two of them tell together, and what a test of each item tells of all.
use Rattle.std.proofs.Common.{◌≡◌, ℕ, suc, zero, ◌<◌, ◌≤◌, ◌==◌, nat_lt, List, [], ◌∷◌, Bool, true, false, not, ◌&&◌, ◌||◌, cond, Option, Some, None, refl, ap, sym, ◌∙◌, arith}
use Rattle.std.specs.Prelude.{nat_le, find, slice_get}
use Rattle.std.specs.Bool.{beq}
use Rattle.std.specs.List.{list_all, list_any, AllByRecursion}
use Rattle.std.specs.Option.{option_map_or}
use Rattle.std.proofs.lemmas.Bool.Decides.{nat_tests}
use Rattle.boss_model.specs.Order.{comes_before}
use Rattle.boss_model.specs.Sound.{Rising}
use Rattle.law_time.proofs.Orders.{each-map}

-- ---- tests

pub both : (a b : Bool) → (a && b) ≡ true → (a ≡ true) × (b ≡ true)
both true b is = (refl, is)
both false b is = absurd (cc)

pub all-yes : (a b : Bool) → a ≡ true → b ≡ true → (a && b) ≡ true
all-yes a b p q = λ i. p i && q i

pub not-true : (b : Bool) → not b ≡ true → b ≡ false
not-true false is = refl
not-true true is = sym is

pub not-false : (b : Bool) → b ≡ false → not b ≡ true
not-false b is = ap not is

pub beq-same : (a b : Bool) → beq a b ≡ true → a ≡ b
beq-same true true is = refl
beq-same true false is = sym is
beq-same false true is = is
beq-same false false is = refl

pub same-beq : (a b : Bool) → a ≡ b → beq a b ≡ true
same-beq true true is = refl
same-beq true false is = sym is
same-beq false true is = is
same-beq false false is = refl

pub same-tests : (x y : Bool) → (x ≡ true → y ≡ true) → (y ≡ true → x ≡ true) → x ≡ y
same-tests true y to from = sym (to refl)
same-tests false true to from = from refl
same-tests false false to from = refl

or-false : (b : Bool) → (b || false) ≡ b
or-false true = refl
or-false false = refl

pub or-true : (a b : Bool) → b ≡ true → (a || b) ≡ true
or-true true b is = refl
or-true false b is = is

pub and-turn : (a b : Bool) → (a && b) ≡ (b && a)
and-turn true true = refl
and-turn true false = refl
and-turn false true = refl
and-turn false false = refl

pub and-group : (a b c : Bool) → (a && b && c) ≡ (a && (b && c))
and-group true b c = refl
and-group false b c = refl

pub lt : (a b : ℕ) → nat_lt a b ≡ true → a < b
lt a b is = grind (arith, nat_tests)

pub is-lt : (a b : ℕ) → a < b → nat_lt a b ≡ true
is-lt a b less = grind (arith, nat_tests)

pub le : (a b : ℕ) → nat_le a b ≡ true → a ≤ b
le a b is = grind (arith, nat_tests)

pub is-le : (a b : ℕ) → a ≤ b → nat_le a b ≡ true
is-le a b most = grind (arith, nat_tests)

pub eq : (a b : ℕ) → (a == b) ≡ true → a ≡ b
eq a b is = grind (arith, nat_tests)

pub is-eq : (a b : ℕ) → a ≡ b → (a == b) ≡ true
is-eq a b same = grind (arith, nat_tests)

-- ---- lists

pub each-of : {X : Type 0} (P : X → Type 0) (test : X → Bool) → ((x : X) → test x ≡ true → P x) → (xs : List X) → list_all test xs ≡ true → AllByRecursion P xs
each-of P test tells [] all = tt
each-of P test tells (x ∷ xs) all = let parts = both (test x) (list_all test xs) all in (tells x parts.0, each-of P test tells xs parts.1)

pub each-tests : {X : Type 0} (P : X → Type 0) (test : X → Bool) → ((x : X) → P x → test x ≡ true) → (xs : List X) → AllByRecursion P xs → list_all test xs ≡ true
each-tests P test passes [] all = refl
each-tests P test passes (x ∷ xs) all = all-yes (test x) (list_all test xs) (passes x all.0) (each-tests P test passes xs all.1)

-- what holds at each place holds of each item
pub each-place : {X : Type 0} (P : X → Type 0) (xs : List X) → ((place : ℕ) (x : X) → slice_get xs place ≡ Some x → P x) → AllByRecursion P xs
each-place P [] at = tt
each-place P (x ∷ xs) at = (at 0 x refl, each-place P xs (λ place y is. at (suc place) y is))

pub any-some : {X : Type 0} (P : X → Type 0) (test : X → Bool) (xs : List X) → AllByRecursion P xs → list_any test xs ≡ true → (x : X) × (test x ≡ true) × P x
any-some P test [] all some = absurd (cc (sym some))
any-some {X = X} P test (x ∷ xs) all some = by (test x) refl some (any-some P test xs all.1)
  where
    by : (b : Bool) → test x ≡ b → (b || list_any test xs) ≡ true → (list_any test xs ≡ true → (y : X) × (test y ≡ true) × P y) → (y : X) × (test y ≡ true) × P y
    by true is e rest = (x, is, all.0)
    by false is e rest = rest e

pub any-implies : {X : Type 0} (P : X → Type 0) (f g : X → Bool) → ((x : X) → P x → f x ≡ true → g x ≡ true) → (xs : List X) → AllByRecursion P xs → list_any f xs ≡ true → list_any g xs ≡ true
any-implies {X = X} P f g implies [] all some = some
any-implies {X = X} P f g implies (x ∷ xs) all some = by (f x) refl some (any-implies P f g implies xs all.1)
  where
    by : (b : Bool) → f x ≡ b → (b || list_any f xs) ≡ true → (list_any f xs ≡ true → list_any g xs ≡ true) → (g x || list_any g xs) ≡ true
    by true is e rest = ap (λ b. b || list_any g xs) (implies x all.0 is)
    by false is e rest = or-true (g x) (list_any g xs) (rest e)

pub any-none : {X : Type 0} (test : X → Bool) (xs : List X) → AllByRecursion (λ x. test x ≡ false) xs → list_any test xs ≡ false
any-none test [] all = refl
any-none test (x ∷ xs) all = λ i. all.0 i || any-none test xs all.1 i

pub found-passes : {X : Type 0} (test : X → Bool) (xs : List X) (x : X) → find test xs ≡ Some x → (test x ≡ true) × ((g : X → Bool) → g x ≡ true → list_any g xs ≡ true)
found-passes {X = X} test [] x is = cc
found-passes {X = X} test (y ∷ ys) x is = by (test y) refl is (found-passes test ys x)
  where
    by : (b : Bool) → test y ≡ b → cond b (Some y) (find test ys) ≡ Some x → (find test ys ≡ Some x → (test x ≡ true) × ((g : X → Bool) → g x ≡ true → list_any g ys ≡ true)) →
        (test x ≡ true) × ((g : X → Bool) → g x ≡ true → list_any g (y ∷ ys) ≡ true)
    by true here e rest = let same : y ≡ x = cc in (ap test (sym same) ∙ here, λ g passes. ap (λ b. b || list_any g ys) (ap g same ∙ passes))
    by false here e rest = let r = rest e in (r.0, λ g passes. or-true (g y) (list_any g ys) (r.1 g passes))

-- where a test passes what is found, something is
pub some-found : {X : Type 0} (test : X → Bool) (o : Option X) → option_map_or test o false ≡ true → (x : X) × (o ≡ Some x) × (test x ≡ true)
some-found test None is = absurd (cc)
some-found test (Some x) is = (x, refl, is)

-- ---- lists in which only one item passes a test

module _ {X : Type 0} (rank : X → List ℕ) (test : X → Bool) (only : (x y : X) → test x ≡ true → comes_before (rank y) (rank x) ≡ false → test y ≡ false) where
  -- the first that passes is the only one
  pub any-found : (g : X → Bool) (xs : List X) → Rising rank xs → list_any (λ x. test x && g x) xs ≡ option_map_or g (find test xs) false
  any-found g [] up = refl
  any-found g (x ∷ xs) up = by (test x) refl (any-found g xs up.1)
    where
      by : (b : Bool) → test x ≡ b → list_any (λ y. test y && g y) xs ≡ option_map_or g (find test xs) false →
          ((b && g x) || list_any (λ y. test y && g y) xs) ≡ option_map_or g (cond b (Some x) (find test xs)) false
      by true is rest =
          let none : list_any (λ y. test y && g y) xs ≡ false = any-none (λ y. test y && g y) xs
          (each-map (λ y. comes_before (rank y) (rank x) ≡ false) (λ y. (test y && g y) ≡ false) (λ y after. ap (λ b. b && g y) (only x y is after)) xs up.0) in
          ap (λ b. g x || b) none ∙ or-false (g x)
      by false is rest = rest

  -- it is found
  pub self-found : (xs : List X) (place : ℕ) (x : X) → Rising rank xs → slice_get xs place ≡ Some x → test x ≡ true → find test xs ≡ Some x
  self-found [] place x up there passes = absurd (cc)
  self-found (y ∷ ys) zero x up there passes = let same : y ≡ x = cc in ap (λ b. cond b (Some y) (find test ys)) (ap test same ∙ passes) ∙ ap Some same
  self-found (y ∷ ys) (suc place) x up there passes = by (test y) refl (self-found ys place x up.1 there passes)
    where
      after : (zs : List X) (k : ℕ) → AllByRecursion (λ z. comes_before (rank z) (rank y) ≡ false) zs → slice_get zs k ≡ Some x → comes_before (rank x) (rank y) ≡ false
      after [] k all is = absurd (cc)
      after (z ∷ zs) zero all is = let same : z ≡ x = cc in ap (λ w. comes_before (rank w) (rank y)) (sym same) ∙ all.0
      after (z ∷ zs) (suc k) all is = after zs k all.1 is

      by : (b : Bool) → test y ≡ b → find test ys ≡ Some x → cond b (Some y) (find test ys) ≡ Some x
      by false is rest = rest
      by true is rest = absurd (let other = only y x is (after ys place up.0 there) in cc)
