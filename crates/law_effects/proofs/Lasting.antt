-- What lasts beyond a moment: the leases of open parts, and the records of their transactions.
use Rattle.std.proofs.Common.{◌≡◌, ℕ, ◌≤◌, ◌==◌, nat_lt, List, [], ◌∷◌, ◌++◌, map, Bool, true, false, ◌&&◌, ◌||◌, cond, Option, Some, None, is_some, is_none, refl, ap, sym, ◌∙◌, arith}
use Rattle.std.specs.Option.{option_map_or}
use Rattle.std.specs.List.{filter, find, list_any, AllByRecursion}
use Rattle.std.proofs.lemmas.Bool.Decides.{nat_tests}
use Rattle.boss_model.specs.declared.notice.Cause.TheVariants as cause
use Rattle.boss_model.specs.declared.state.Actuator.{Actuator}
use Rattle.boss_model.specs.declared.state.Lease.{Lease}
use Rattle.boss_model.specs.declared.state.Pending.{Pending}
use Rattle.boss_model.specs.Order.{comes_before, least}
use Rattle.boss_model.specs.Records.{End, Part, Transaction}
use Rattle.boss_model.specs.Renew.{transaction_of}
use Rattle.boss_model.specs.Reversions.{end_of, reversion_of, courses}
use Rattle.boss_model.specs.Happenings.{lives}
use Rattle.boss_model.specs.Sound.{Rising, holds, IsPart, number_rank, IsSoundPersistent}
use Rattle.boss_model.specs.State.{lease_slot, pending_slot, Persistent}
use Rattle.boss_model.specs.Time.{left, lease_of_part, end_after, part_after, expired}
use Rattle.law_time.proofs.Courses.{end-later}
use Rattle.law_time.proofs.Filters.{any-map}
use Rattle.law_time.proofs.Orders.{each-map}
use Rattle.law_time.proofs.Slots.{any-in_order, any-append, none-later}
use Rattle.law_effects.specs.Early.{slot_lease, open_still, if_owned}

-- ---- lists

pub and-false : (b : Bool) → (b && false) ≡ false
and-false true = refl
and-false false = refl

pub or-true : (a b : Bool) → b ≡ true → (a || b) ≡ true
or-true true b is = refl
or-true false b is = is

pub same-tests : (x y : Bool) → (x ≡ true → y ≡ true) → (y ≡ true → x ≡ true) → x ≡ y
same-tests true y to from = sym (to refl)
same-tests false true to from = from refl
same-tests false false to from = refl

pub found-passes : {X : Type 0} (test : X → Bool) (xs : List X) (x : X) → find test xs ≡ Some x → (test x ≡ true) × ((g : X → Bool) → g x ≡ true → list_any g xs ≡ true)
found-passes {X = X} test [] x is = cc
found-passes {X = X} test (y ∷ ys) x is = by (test y) refl is (found-passes test ys x)
  where
    by : (b : Bool) → test y ≡ b → cond b (Some y) (find test ys) ≡ Some x → (find test ys ≡ Some x → (test x ≡ true) × ((g : X → Bool) → g x ≡ true → list_any g ys ≡ true)) →
        (test x ≡ true) × ((g : X → Bool) → g x ≡ true → list_any g (y ∷ ys) ≡ true)
    by true here e rest = let same : y ≡ x = cc in (ap test (sym same) ∙ here, λ g passes. ap (λ b. b || list_any g ys) (ap g same ∙ passes))
    by false here e rest = let r = rest e in (r.0, λ g passes. or-true (g y) (list_any g ys) (r.1 g passes))

pub any-filter : {X : Type 0} (p q : X → Bool) (xs : List X) → list_any p (filter q xs) ≡ list_any (λ x. q x && p x) xs
any-filter {X = X} p q [] = refl
any-filter {X = X} p q (x ∷ xs) = by (q x) (any-filter p q xs)
  where
    by : (b : Bool) → list_any p (filter q xs) ≡ list_any (λ y. q y && p y) xs → list_any p (cond b (x ∷ filter q xs) (filter q xs)) ≡ ((b && p x) || list_any (λ y. q y && p y) xs)
    by true rest = ap (λ b. p x || b) rest
    by false rest = rest

pub any-implies : {X : Type 0} (P : X → Type 0) (f g : X → Bool) → ((x : X) → P x → f x ≡ true → g x ≡ true) → (xs : List X) → AllByRecursion P xs → list_any f xs ≡ true → list_any g xs ≡ true
any-implies {X = X} P f g implies [] all some = some
any-implies {X = X} P f g implies (x ∷ xs) all some = by (f x) refl some (any-implies P f g implies xs all.1)
  where
    by : (b : Bool) → f x ≡ b → (b || list_any f xs) ≡ true → (list_any f xs ≡ true → list_any g xs ≡ true) → (g x || list_any g xs) ≡ true
    by true is e rest = ap (λ k. k || list_any g xs) (implies x all.0 is)
    by false is e rest = or-true (g x) (list_any g xs) (rest e)

pub least-some : {X : Type 0} (key : X → ℕ) (test : X → Bool) (xs : List X) → is_some (least key (filter test xs)) ≡ list_any test xs
least-some {X = X} key test [] = refl
least-some {X = X} key test (x ∷ xs) = by (test x) (least-some key test xs)
  where
    by : (b : Bool) → is_some (least key (filter test xs)) ≡ list_any test xs → is_some (least key (cond b (x ∷ filter test xs) (filter test xs))) ≡ (b || list_any test xs)
    by true rest = refl
    by false rest = rest

-- ---- the lease of an open part

-- in a sound part a slot is taken once
pub slot-found : (leases : List Lease) → Rising lease_slot leases → (txn point priority : ℕ) → holds leases txn point priority ≡ true →
    (lease : Lease) × (lease_of_part leases txn point priority ≡ Some lease) × (slot_lease leases point priority ≡ Some lease)
slot-found [] rising txn point priority there = absurd (cc (sym there))
slot-found (l ∷ ls) rising txn point priority there = by ((l.point == point) && (l.priority == priority)) refl (l.txn == txn) refl (slot-found ls rising.1 txn point priority)
  where
    by : (slot : Bool) → ((l.point == point) && (l.priority == priority)) ≡ slot → (own : Bool) → (l.txn == txn) ≡ own →
        (holds ls txn point priority ≡ true → (lease : Lease) × (lease_of_part ls txn point priority ≡ Some lease) × (slot_lease ls point priority ≡ Some lease)) →
        (lease : Lease) × (lease_of_part (l ∷ ls) txn point priority ≡ Some lease) × (slot_lease (l ∷ ls) point priority ≡ Some lease)
    by true slot true own rest = (
      l,
      (λ i. cond (own i && slot i) (Some l) (lease_of_part ls txn point priority)),
      ap (λ b. cond b (Some l) (slot_lease ls point priority)) slot,
    )
    by true slot false own rest =
        let none : holds ls txn point priority ≡ false = none-later l ls txn point priority rising.0 (grind (arith, nat_tests)) (grind (arith, nat_tests)) in
        absurd (cc (let some : holds ls txn point priority ≡ true = grind (arith) in sym some ∙ none))
    by false slot own is rest =
        let test : ((l.txn == txn) && ((l.point == point) && (l.priority == priority))) ≡ false = ap (λ b. (l.txn == txn) && b) slot ∙ and-false (l.txn == txn) in
        let r = rest (grind (arith)) in (
          r.0,
          ap (λ b. cond b (Some l) (lease_of_part ls txn point priority)) test ∙ r.1,
          ap (λ b. cond b (Some l) (slot_lease ls point priority)) slot ∙ r.2,
        )

module _ (plant : List Actuator) (n : ℕ) (d : Persistent) (sound : IsSoundPersistent plant d) where
  -- a part is open after time has passed if it is open and its lease lasts
  pub open-after : (txn : ℕ) (part : Part) → IsPart plant d.now txn d.leases part → is_none (part_after (expired n) d.leases txn part).end ≡ open_still n d.leases part
  open-after txn part is = by part.end is.open_part
    where
      ends : (lease : Lease) (lasts : Bool) → is_none {T = End} (cond lasts None (Some (record { cause = cause.Expired; at = lease.until }))) ≡ lasts
      ends lease true = refl
      ends lease false = refl

      by : (end : Option End) → is_none end ≡ holds d.leases txn part.point part.priority →
          is_none (end_after (expired n) (lease_of_part d.leases txn part.point part.priority) end)
          ≡ (is_none end && option_map_or (λ lease. nat_lt n lease.until) (slot_lease d.leases part.point part.priority) false)
      by (Some end) opens = refl
      by None opens =
          let found = slot-found d.leases sound.lease_slots txn part.point part.priority (sym opens) in
          ap (λ f. is_none (end_after (expired n) f None)) found.1 ∙ ends found.0 (nat_lt n found.0.until)
          ∙ ap (λ f. option_map_or (λ (lease : Lease). nat_lt n lease.until) f false) (sym found.2)

  -- the lease of a part that is open still
  pub still-lease : (txn : ℕ) (part : Part) → IsPart plant d.now txn d.leases part → open_still n d.leases part ≡ true →
      (lease : Lease) × (nat_lt n lease.until ≡ true) × (lease_of_part d.leases txn part.point part.priority ≡ Some lease)
  still-lease txn part is lasts =
      let opens : is_none part.end ≡ true = grind (arith) in
      let found = slot-found d.leases sound.lease_slots txn part.point part.priority (sym is.open_part ∙ opens) in
      let test : option_map_or (λ lease. nat_lt n lease.until) (slot_lease d.leases part.point part.priority) false ≡ true = grind (arith) in
      (found.0, sym (ap (λ f. option_map_or (λ (lease : Lease). nat_lt n lease.until) f false) found.2) ∙ test, found.1)

  pub lives-still : (txn : ℕ) (part : Part) → IsPart plant d.now txn d.leases part → open_still n d.leases part ≡ true → lives txn (left n (courses d.pending d.leases)) ≡ true
  lives-still txn part is lasts =
      let l = still-lease txn part is lasts in
      let found = found-passes (λ lease. (lease.txn == txn) && ((lease.point == part.point) && (lease.priority == part.priority))) d.leases l.0 l.2 in
      let longer : l.0.until ≤ end_of (reversion_of l.0) = end-later (reversion_of l.0) in
      let until : nat_lt n l.0.until ≡ true = l.1 in
      let own : (l.0.txn == txn) ≡ true = let both = found.0 in grind (arith) in
      let T = λ (c : Pending). nat_lt n (end_of c) && (c.txn == txn) in
      let there : list_any (λ lease. T (reversion_of lease)) d.leases ≡ true = found.1 (λ lease. T (reversion_of lease)) (grind (arith, nat_tests)) in
      any-filter (λ c. c.txn == txn) (λ c. nat_lt n (end_of c)) (courses d.pending d.leases)
      ∙ any-in_order T pending_slot (d.pending ++ map reversion_of d.leases)
      ∙ any-append T d.pending (map reversion_of d.leases)
      ∙ ap (λ b. list_any T d.pending || b) (any-map T reversion_of d.leases ∙ there)
      ∙ or-true (list_any T d.pending) true refl

  -- ---- records of transactions

  -- a record stays if its transaction passes a test that only what lasts passes
  module _ (owner txn : ℕ) (test later : Transaction → Bool) (f : Transaction → Transaction) (keeps : Transaction → Bool)
      (number : (t : Transaction) → (f t).txn ≡ t.txn) (own : (t : Transaction) → (f t).owner ≡ t.owner) where
    pub absent : (ts : List Transaction) → AllByRecursion (λ t. (t.txn == txn) ≡ false) ts → transaction_of (filter keeps (map f ts)) txn ≡ None
    absent [] all = refl
    absent (t ∷ ts) all = by (keeps (f t)) (absent ts all.1)
      where
        other : ((f t).txn == txn) ≡ false
        other = ap (λ k. k == txn) (number t) ∙ all.0

        by : (b : Bool) → transaction_of (filter keeps (map f ts)) txn ≡ None → transaction_of (cond b (f t ∷ filter keeps (map f ts)) (filter keeps (map f ts))) txn ≡ None
        by true rest = ap (λ b. cond b (Some (f t)) (transaction_of (filter keeps (map f ts)) txn)) other ∙ rest
        by false rest = rest

    pub others : (t : Transaction) (ts : List Transaction) → (t.txn == txn) ≡ true → AllByRecursion (λ u. comes_before (number_rank u) (number_rank t) ≡ false) ts →
        AllByRecursion (λ u. (u.txn == txn) ≡ false) ts
    others t ts here all = each-map (λ u. comes_before (number_rank u) (number_rank t) ≡ false) (λ u. (u.txn == txn) ≡ false)
        (λ u after. let unlike : comes_before (u.txn ∷ []) (t.txn ∷ []) ≡ false = after in grind (arith, nat_tests)) ts all

    pub owned-kept : (ts : List Transaction) → Rising number_rank ts → AllByRecursion (λ t. (t.txn ≡ txn → later (f t) ≡ test t) × (t.txn ≡ txn → keeps (f t) ≡ false → test t ≡ false)) ts →
        if_owned owner later (transaction_of (filter keeps (map f ts)) txn) ≡ if_owned owner test (transaction_of ts txn)
    owned-kept [] rising all = refl
    owned-kept (t ∷ ts) rising all = by (t.txn == txn) refl (keeps (f t)) refl (owned-kept ts rising.1 all.1)
      where
        by : (here : Bool) → (t.txn == txn) ≡ here → (stays : Bool) → keeps (f t) ≡ stays →
            if_owned owner later (transaction_of (filter keeps (map f ts)) txn) ≡ if_owned owner test (transaction_of ts txn) →
            if_owned owner later (transaction_of (cond stays (f t ∷ filter keeps (map f ts)) (filter keeps (map f ts))) txn) ≡ if_owned owner test (cond here (Some t) (transaction_of ts txn))
        by true here true stays same =
            let mine : t.txn ≡ txn = grind (arith, nat_tests) in
            ap (λ k. if_owned owner later (cond (k == txn) (Some (f t)) (transaction_of (filter keeps (map f ts)) txn))) (number t)
            ∙ ap (λ b. if_owned owner later (cond b (Some (f t)) (transaction_of (filter keeps (map f ts)) txn))) here
            ∙ (λ i. (own t i == owner) && all.0.0 mine i)
        by true here false goes same =
            let mine : t.txn ≡ txn = grind (arith, nat_tests) in
            ap (if_owned owner later) (absent ts (others t ts here rising.0))
            ∙ sym (ap (λ b. (t.owner == owner) && b) (all.0.1 mine goes) ∙ and-false (t.owner == owner))
        by false other true stays same =
            ap (λ k. if_owned owner later (cond (k == txn) (Some (f t)) (transaction_of (filter keeps (map f ts)) txn))) (number t)
            ∙ ap (λ b. if_owned owner later (cond b (Some (f t)) (transaction_of (filter keeps (map f ts)) txn))) other ∙ same
        by false other false goes same = same
