-- Where no removed point is in use and none is unfit, each record, lease and reversion may move.
use Rattle.std.proofs.Common.{◌≡◌, ℕ, List, [], ◌∷◌, ◌++◌, map, Bool, true, false, not, Option, None, refl, arith}
use Rattle.std.specs.List.{filter, flat_map, list_all, AllByRecursion}
use Rattle.std.proofs.lemmas.Bool.{cond_both}
use Rattle.boss_model.specs.declared.state.Actuator.{Actuator}
use Rattle.boss_model.specs.Lists.{member}
use Rattle.boss_model.specs.Order.{least}
use Rattle.boss_model.specs.Records.{Part, Transaction}
use Rattle.boss_model.specs.State.{Persistent}
use Rattle.law_time.proofs.Filters.{each-unfilter}
use Rattle.law_time.proofs.Orders.{each-map, each-front, each-back}
use Rattle.law_adoption.specs.Adopted.{all_stay}
use Rattle.law_adoption.specs.MayMove.{used, in_use, lease_fits, pending_fits, unfit, MayMove}
use Rattle.law_adoption.specs.Renumber.{stays}

-- ---- lists without an item

none-least : {X : Type 0} (key : X → ℕ) (xs : List X) → least key xs ≡ None → xs ≡ []
none-least key [] none = refl
none-least key (x ∷ xs) none = cc

none-passes : {X : Type 0} (test : X → Bool) (xs : List X) → filter test xs ≡ [] → AllByRecursion (λ x. test x ≡ false) xs
none-passes test [] none = tt
none-passes test (x ∷ xs) none = cond_both (test x) (x ∷ filter test xs) (filter test xs) (λ ys. ys ≡ [] → (test x ≡ false) × AllByRecursion (λ y. test y ≡ false) xs)
    (λ _ is. cc) (λ fails is. (fails, none-passes test xs is)) none

none-mapped : {X Y : Type 0} (f : X → Y) (xs : List X) → map f xs ≡ [] → xs ≡ []
none-mapped f [] none = refl
none-mapped f (x ∷ xs) none = cc

none-front : {X : Type 0} (xs ys : List X) → xs ++ ys ≡ [] → xs ≡ []
none-front [] ys none = refl
none-front (x ∷ xs) ys none = cc

none-back : {X : Type 0} (xs ys : List X) → xs ++ ys ≡ [] → ys ≡ []
none-back [] ys none = none
none-back (x ∷ xs) ys none = cc

each-unflat : {X Y : Type 0} (P : Y → Type 0) (f : X → List Y) (xs : List X) → AllByRecursion P (flat_map f xs) → AllByRecursion (λ x. AllByRecursion P (f x)) xs
each-unflat P f [] all = tt
each-unflat P f (x ∷ xs) all = (each-front P (f x) (flat_map f xs) all, each-unflat P f xs (each-back P (f x) (flat_map f xs) all))

-- ---- what may move

module _ (to : ℕ → Option ℕ) where
  all-stay : (parts : List Part) → AllByRecursion (λ point. not (stays to point) ≡ false) (map (λ part. part.point) parts) → list_all (λ part. stays to part.point) parts ≡ true
  all-stay [] stay = refl
  all-stay (part ∷ parts) stay = grind (arith, stay.0, all-stay parts stay.1)

  pub living-stay : (d : Persistent) → in_use to d ≡ None → AllByRecursion (λ t. member t.txn d.done ≡ false → all_stay to t ≡ true) d.txns
  living-stay d unused =
      let lives_on = λ (t : Transaction). not (member t.txn d.done) in
      each-unfilter (λ t. member t.txn d.done ≡ false → all_stay to t ≡ true) lives_on (λ t gone done. grind arith) d.txns
      (each-map (λ t. AllByRecursion (λ point. not (stays to point) ≡ false) (map (λ part. part.point) t.parts)) (λ t. member t.txn d.done ≡ false → all_stay to t ≡ true)
      (λ t stay _. all-stay t.parts stay) (filter lives_on d.txns)
      (each-unflat (λ point. not (stays to point) ≡ false) (λ t. map (λ part. part.point) t.parts) (filter lives_on d.txns)
      (none-passes (λ point. not (stays to point)) (used d) (none-least (λ point. point) (filter (λ point. not (stays to point)) (used d)) unused))))

  pub may-move : (plant : List Actuator) (d : Persistent) → in_use to d ≡ None → unfit plant to d ≡ None → MayMove plant to d
  may-move plant d unused fit =
      let leases = map (λ lease. lease.point) (filter (λ lease. not (lease_fits plant to lease)) d.leases) in
      let pending = map (λ reversion. reversion.point) (filter (λ reversion. not (pending_fits plant to reversion)) d.pending) in
      let all_fit : leases ++ pending ≡ [] = none-least (λ point. point) (leases ++ pending) fit in
      record {
        named = living-stay d unused;
        leases = each-map (λ lease. not (lease_fits plant to lease) ≡ false) (λ lease. lease_fits plant to lease ≡ true) (λ lease is. grind arith) d.leases
            (none-passes (λ lease. not (lease_fits plant to lease)) d.leases
            (none-mapped (λ lease. lease.point) (filter (λ lease. not (lease_fits plant to lease)) d.leases) (none-front leases pending all_fit)));
        pending = each-map (λ reversion. not (pending_fits plant to reversion) ≡ false) (λ reversion. pending_fits plant to reversion ≡ true) (λ reversion is. grind arith) d.pending
            (none-passes (λ reversion. not (pending_fits plant to reversion)) d.pending
            (none-mapped (λ reversion. reversion.point) (filter (λ reversion. not (pending_fits plant to reversion)) d.pending) (none-back leases pending all_fit)));
      }
