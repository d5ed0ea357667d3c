-- Lists that rise: what their neighbours tell, and what a search by halves finds.
use Rattle.std.proofs.Common.{◌≡◌, ℕ, zero, suc, ◌<◌, ◌==◌, Bool, true, false, not, ◌&&◌, List, [], ◌∷◌, length, get_or, Option, Some, None, cond, refl, ap, sym, ◌∙◌, arith}
use Rattle.std.specs.Prelude.{find, slice_get}
use Rattle.std.specs.List.{AllByRecursion}
use Rattle.std.specs.List.Sorted.{IsPartitionedBy, IsPartitionPoint}
use Rattle.std.proofs.lemmas.Bool.Decides.{nat_tests}
use Rattle.boss_model.specs.declared.kept.KeptTxn.{KeptTxn}
use Rattle.boss_model.specs.declared.state.Lease.{Lease}
use Rattle.boss_model.specs.declared.state.Pending.{Pending}
use Rattle.boss_model.specs.Order.{comes_before}
use Rattle.boss_model.specs.Sound.{Rising}
use Rattle.boss_model.specs.State.{lease_slot, pending_slot}
use Rattle.law_time.proofs.Orders.{before-total, before-trans, each-map}
use Rattle.boss_state_check.specs.Searches.{precedes, rises, lease_at, pending_at, transaction_of, kept_rank}

-- an item that passes a test, if it is there
abbrev pub kept : {X : Type 0} → (X → Bool) → Option X → Option X
kept test None = None
kept test (Some x) = cond (test x) (Some x) None

pub find-alike : {X : Type 0} (f g : X → Bool) → ((x : X) → f x ≡ g x) → (xs : List X) → find f xs ≡ find g xs
find-alike f g same xs = ap (λ test. find test xs) (λ i x. same x i)

pub none-found : {X : Type 0} (test : X → Bool) (xs : List X) → AllByRecursion (λ x. test x ≡ false) xs → find test xs ≡ None
none-found test [] all = refl
none-found test (x ∷ xs) all = ap (λ b. cond b (Some x) (find test xs)) all.0 ∙ none-found test xs all.1

-- between three ranks
back : (one two three : List ℕ) → comes_before two one ≡ false → comes_before three two ≡ false → comes_before three one ≡ false
back one two three p q = by (comes_before three one) refl
  where
    by : (b : Bool) → comes_before three one ≡ b → b ≡ false
    by false is = refl
    by true is = sym (before-trans three one two is (before-total two one p)) ∙ q

module _ {X : Type 0} (rank : X → List ℕ) where
  -- ---- neighbours

  later : (x : X) (y : X) (ys : List X) → comes_before (rank y) (rank x) ≡ false → AllByRecursion (λ z. comes_before (rank z) (rank y) ≡ false) ys →
      AllByRecursion (λ z. comes_before (rank z) (rank x) ≡ false) ys
  later x y ys first all = each-map (λ z. comes_before (rank z) (rank y) ≡ false) (λ z. comes_before (rank z) (rank x) ≡ false) (λ z after. back (rank x) (rank y) (rank z) first after) ys all

  not-not : (b : Bool) → not b ≡ true → b ≡ false
  not-not false is = refl
  not-not true is = sym is

  both : (a b : Bool) → (a && b) ≡ true → (a ≡ true) × (b ≡ true)
  both true b is = (refl, is)
  both false b is = absurd (cc)

  pub rising-of : (xs : List X) → rises rank xs ≡ true → Rising rank xs
  rising-of [] up = tt
  rising-of (x ∷ []) up = (tt, tt)
  rising-of (x ∷ y ∷ ys) up =
      let parts = both (precedes (rank x) (rank y)) (rises rank (y ∷ ys)) up in
      let first = not-not (comes_before (rank y) (rank x)) parts.0 in
      let rest = rising-of (y ∷ ys) parts.1 in
      ((first, later x y ys first rest.0), rest)

  pub rises-of : (xs : List X) → Rising rank xs → rises rank xs ≡ true
  rises-of [] up = refl
  rises-of (x ∷ []) up = refl
  rises-of (x ∷ y ∷ ys) up = λ i. not (up.0.0 i) && rises-of (y ∷ ys) up.1 i

  -- ---- searches

  abbrev pub same : List ℕ → X → Bool
  same key x = comes_before key (rank x) && comes_before (rank x) key

  abbrev before : List ℕ → X → Bool
  before key x = precedes (rank x) key

  each-at : (P : X → Type 0) (xs : List X) (j : ℕ) (d : X) → AllByRecursion P xs → j < length xs → P (get_or xs j d)
  each-at P [] j d all inside = absurd (omega arith)
  each-at P (x ∷ xs) zero d all inside = all.0
  each-at P (x ∷ xs) (suc j) d all inside = each-at P xs j d all.1 (omega arith)

  pub partitioned : (key : List ℕ) (xs : List X) → Rising rank xs → IsPartitionedBy (λ x. precedes (rank x) key) xs
  partitioned key [] up i j d less inside passes = absurd (omega arith)
  partitioned key (x ∷ xs) up zero zero d less inside passes = passes
  partitioned key (x ∷ xs) up zero (suc j) d less inside passes =
      let y = get_or xs j d in
      let after = each-at (λ z. comes_before (rank z) (rank x) ≡ false) xs j d up.0 (omega arith) in
      ap not (back (rank x) (rank y) key after (not-not (comes_before key (rank y)) passes))
  partitioned key (x ∷ xs) up (suc i) zero d less inside passes = absurd (omega arith)
  partitioned key (x ∷ xs) up (suc i) (suc j) d less inside passes = partitioned key xs up.1 i j d (omega arith) (omega arith) passes

  not-same : (key : List ℕ) (x : X) → before key x ≡ true → same key x ≡ false
  not-same key x first = ap (λ b. b && comes_before (rank x) key) (not-not (comes_before key (rank x)) first)

  -- where the first that does not stand before the key is not its own, nothing behind is
  behind : (key : List ℕ) (x y : X) → before key x ≡ false → same key x ≡ false → comes_before (rank y) (rank x) ≡ false → same key y ≡ false
  behind key x y here other after =
      let p : comes_before key (rank x) ≡ true = grind arith in
      let q : comes_before (rank x) key ≡ false = grind arith in
      by (comes_before (rank y) key) refl p
    where
      by : (b : Bool) → comes_before (rank y) key ≡ b → comes_before key (rank x) ≡ true → (comes_before key (rank y) && b) ≡ false
      by false is p = grind arith
      by true is p = absurd (let turned = before-trans (rank y) key (rank x) is p in cc)

  pub found-place : (key : List ℕ) (xs : List X) (i : ℕ) → Rising rank xs → IsPartitionPoint (λ x. precedes (rank x) key ≡ true) (λ x. precedes (rank x) key ≡ false) xs i →
      find (same key) xs ≡ kept (same key) (slice_get xs i)
  found-place key [] i up point = refl
  found-place key (x ∷ xs) zero up point =
      let here : before key x ≡ false = point.1 0 x (omega arith) (omega arith) in
      by (same key x) refl here
    where
      by : (b : Bool) → same key x ≡ b → before key x ≡ false → cond b (Some x) (find (same key) xs) ≡ cond b (Some x) None
      by true is here = refl
      by false is here = none-found (same key) xs (each-map (λ y. comes_before (rank y) (rank x) ≡ false) (λ y. same key y ≡ false) (λ y after. behind key x y here is after) xs up.0)
  found-place key (x ∷ xs) (suc i) up point =
      let first : before key x ≡ true = point.0 0 x (omega arith) (omega arith) in
      ap (λ b. cond b (Some x) (find (same key) xs)) (not-same key x first)
      ∙ found-place key xs i up.1 (λ j d p q. point.0 (suc j) d (omega arith) (omega arith), λ j d p q. point.1 (suc j) d (omega arith) (omega arith))

-- ---- slots and numbers

slot-same : (p q a b : ℕ) → (comes_before (p ∷ q ∷ []) (a ∷ b ∷ []) && comes_before (a ∷ b ∷ []) (p ∷ q ∷ [])) ≡ ((a == p) && (b == q))
slot-same p q a b = grind (arith, nat_tests)

number-same : (n a : ℕ) → (comes_before (n ∷ []) (a ∷ []) && comes_before (a ∷ []) (n ∷ [])) ≡ (a == n)
number-same n a = grind (arith, nat_tests)

pub lease-found : (leases : List Lease) (point priority place : ℕ) → Rising lease_slot leases →
    IsPartitionPoint (λ lease. precedes (lease_slot lease) (point ∷ priority ∷ []) ≡ true) (λ lease. precedes (lease_slot lease) (point ∷ priority ∷ []) ≡ false) leases place →
    lease_at leases point priority ≡ kept (λ lease. (lease.point == point) && (lease.priority == priority)) (slice_get leases place)
lease-found leases point priority place up at =
    let alike : (lease : Lease) → same lease_slot (point ∷ priority ∷ []) lease ≡ ((lease.point == point) && (lease.priority == priority)) = λ lease. slot-same point priority lease.point lease.priority in
    sym (find-alike _ _ alike leases) ∙ found-place lease_slot (point ∷ priority ∷ []) leases place up at ∙ (λ i. kept (λ lease. alike lease i) (slice_get leases place))

pub pending-found : (pending : List Pending) (point priority place : ℕ) → Rising pending_slot pending →
    IsPartitionPoint (λ reversion. precedes (pending_slot reversion) (point ∷ priority ∷ []) ≡ true) (λ reversion. precedes (pending_slot reversion) (point ∷ priority ∷ []) ≡ false) pending place →
    pending_at pending point priority ≡ kept (λ reversion. (reversion.point == point) && (reversion.priority == priority)) (slice_get pending place)
pending-found pending point priority place up at =
    let alike : (reversion : Pending) → same pending_slot (point ∷ priority ∷ []) reversion ≡ ((reversion.point == point) && (reversion.priority == priority)) = λ reversion. slot-same point priority reversion.point reversion.priority in
    sym (find-alike _ _ alike pending) ∙ found-place pending_slot (point ∷ priority ∷ []) pending place up at ∙ (λ i. kept (λ reversion. alike reversion i) (slice_get pending place))

pub transaction-found : (txns : List KeptTxn) (txn place : ℕ) → Rising kept_rank txns →
    IsPartitionPoint (λ transaction. precedes (kept_rank transaction) (txn ∷ []) ≡ true) (λ transaction. precedes (kept_rank transaction) (txn ∷ []) ≡ false) txns place →
    transaction_of txns txn ≡ kept (λ transaction. transaction.txn == txn) (slice_get txns place)
transaction-found txns txn place up at =
    let alike : (transaction : KeptTxn) → same kept_rank (txn ∷ []) transaction ≡ (transaction.txn == txn) = λ transaction. number-same txn transaction.txn in
    sym (find-alike _ _ alike txns) ∙ found-place kept_rank (txn ∷ []) txns place up at ∙ (λ i. kept (λ transaction. alike transaction i) (slice_get txns place))

-- ---- what an item that was looked at tells of the search

pub kept-some : {X : Type 0} (test : X → Bool) (o : Option X) (x : X) → o ≡ Some x → test x ≡ true → kept test o ≡ Some x
kept-some test o x there passes = ap (kept test) there ∙ ap (λ b. cond b (Some x) None) passes

pub kept-not : {X : Type 0} (test : X → Bool) (o : Option X) (x : X) → o ≡ Some x → test x ≡ false → kept test o ≡ None
kept-not test o x there fails = ap (kept test) there ∙ ap (λ b. cond b (Some x) None) fails
