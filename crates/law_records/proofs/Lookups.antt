-- What a look at a slot finds among items of which each has a slot of its own.
use Rattle.std.proofs.Common.{◌≡◌, ℕ, ◌==◌, List, [], ◌∷◌, Bool, true, false, ◌&&◌, ◌||◌, cond, Some, refl, ap, ◌∙◌, arith}
use Rattle.std.specs.Option.{option_map_or}
use Rattle.std.specs.List.{list_any, AllByRecursion}
use Rattle.std.proofs.lemmas.Bool.Decides.{nat_tests}
use Rattle.boss_model.specs.declared.state.Lease.{Lease}
use Rattle.boss_model.specs.Order.{comes_before}
use Rattle.boss_model.specs.Sound.{Rising}
use Rattle.boss_model.specs.State.{lease_slot}
use Rattle.law_time.proofs.Orders.{each-map}
use Rattle.law_effects.specs.Early.{slot_lease}
use Rattle.law_effects.proofs.Changed.{and-true}
use Rattle.law_effects.proofs.Lasting.{and-false}

pub or-false : (b : Bool) → (b || false) ≡ b
or-false true = refl
or-false false = refl

pub any-none : {X : Type 0} (test : X → Bool) (xs : List X) → AllByRecursion (λ x. test x ≡ false) xs → list_any test xs ≡ false
any-none test [] all = refl
any-none test (x ∷ xs) all = λ i. all.0 i || any-none test xs all.1 i

-- two tests that agree at each item
pub any-alike : {X : Type 0} (f g : X → Bool) (xs : List X) → AllByRecursion (λ x. f x ≡ g x) xs → list_any f xs ≡ list_any g xs
any-alike f g [] all = refl
any-alike f g (x ∷ xs) all = λ i. all.0 i || any-alike f g xs all.1 i

-- a slot is taken once, so the first lease in it is the only one
pub any-at : (g : Lease → Bool) (point priority : ℕ) (leases : List Lease) → Rising lease_slot leases →
    list_any (λ l. g l && ((l.point == point) && (l.priority == priority))) leases ≡ option_map_or g (slot_lease leases point priority) false
any-at g point priority [] rising = refl
any-at g point priority (l ∷ ls) rising = by ((l.point == point) && (l.priority == priority)) refl (any-at g point priority ls rising.1)
  where
    by : (here : Bool) → ((l.point == point) && (l.priority == priority)) ≡ here →
        list_any (λ k. g k && ((k.point == point) && (k.priority == priority))) ls ≡ option_map_or g (slot_lease ls point priority) false →
        ((g l && here) || list_any (λ k. g k && ((k.point == point) && (k.priority == priority))) ls) ≡ option_map_or g (cond here (Some l) (slot_lease ls point priority)) false
    by true is rest =
        let none : list_any (λ k. g k && ((k.point == point) && (k.priority == priority))) ls ≡ false =
        any-none (λ k. g k && ((k.point == point) && (k.priority == priority))) ls
        (each-map (λ k. comes_before (lease_slot k) (lease_slot l) ≡ false) (λ k. (g k && ((k.point == point) && (k.priority == priority))) ≡ false)
        (λ k after. let later : comes_before (k.point ∷ k.priority ∷ []) (l.point ∷ l.priority ∷ []) ≡ false = after in
        let other : ((k.point == point) && (k.priority == priority)) ≡ false = grind (arith, nat_tests) in
        ap (λ b. g k && b) other ∙ and-false (g k)) ls rising.0) in
        ap (λ b. (g l && true) || b) none ∙ or-false (g l && true) ∙ and-true (g l)
    by false is rest = ap (λ b. b || list_any (λ k. g k && ((k.point == point) && (k.priority == priority))) ls) (and-false (g l)) ∙ rest

-- each lease is found in its slot
pub found-itself : (leases : List Lease) → Rising lease_slot leases → AllByRecursion (λ l. slot_lease leases l.point l.priority ≡ Some l) leases
found-itself [] rising = tt
found-itself (x ∷ xs) rising = (
  grind (arith, nat_tests),
  rest xs rising.0 (found-itself xs rising.1),
)
  where
    rest : (ys : List Lease) → AllByRecursion (λ y. comes_before (lease_slot y) (lease_slot x) ≡ false) ys →
        AllByRecursion (λ y. slot_lease xs y.point y.priority ≡ Some y) ys → AllByRecursion (λ y. slot_lease (x ∷ xs) y.point y.priority ≡ Some y) ys
    rest [] p q = tt
    rest (y ∷ ys) p q = (
      (let later : comes_before (y.point ∷ y.priority ∷ []) (x.point ∷ x.priority ∷ []) ≡ false = p.0 in
          let other : ((x.point == y.point) && (x.priority == y.priority)) ≡ false = grind (arith, nat_tests) in
          ap (λ b. cond b (Some x) (slot_lease xs y.point y.priority)) other ∙ q.0),
      rest ys p.1 q.1,
    )
