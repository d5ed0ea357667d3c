-- What is gathered of each lease and each reversion, told in order of rank, does to the records and processes what the
-- whole group does at once.
use Rattle.std.proofs.Common.{◌≡◌, ℕ, ◌<◌, ◌==◌, List, [], ◌∷◌, ◌++◌, Bool, true, false, not, ◌&&◌, ◌||◌, cond, length, map, Option, Some, None, is_none, refl, ap, sym, ◌∙◌, subst, ⊎_elim, arith, append-nil}
use Rattle.std.specs.List.{filter, find, flat_map, fold, list_any, AllByRecursion}
use Rattle.std.proofs.lemmas.Bool.{cases_Bool}
use Rattle.std.proofs.lemmas.Bool.Decides.{nat_tests}
use Rattle.boss_model.specs.declared.notice.What.TheVariants as what
use Rattle.boss_model.specs.declared.state.Actuator.{Actuator}
use Rattle.boss_model.specs.declared.state.Lease.{Lease}
use Rattle.boss_model.specs.declared.state.Pending.{Pending}
use Rattle.boss_model.specs.Happenings.{Happening, rank, lives, is_done, finish, tell}
use Rattle.boss_model.specs.Lists.{member}
use Rattle.boss_model.specs.Order.{comes_before, in_order}
use Rattle.boss_model.specs.Records.{End, Part, Transaction}
use Rattle.boss_model.specs.Reversions.{courses}
use Rattle.boss_model.specs.Sound.{Rising, Distinct, holds, has_part, is_kept, is_start, IsTransaction, IsPart, IsSoundPersistent, number_rank}
use Rattle.boss_model.specs.State.{Persistent}
use Rattle.boss_model.specs.Time.{kept, lease_of_part, end_after, part_after, record_after}
use Rattle.boss_model.proofs.Members.{member-filter, Distinct-filter}
use Rattle.boss_stages.specs.Stages.{Tracked, Stages, number, is_over}
use Rattle.law_time.proofs.Filters.{filter-append, filter-none, filter-all, filter-same, filter-map, each-mapped, each-unmapped, each-always, each-flat_map}
use Rattle.law_time.proofs.Orders.{before-self, each-unordered, each-map, each-both, each-append, each-filter, each-in_order, filter-in_order, in_order-Rising, Ordered-in_order}
use Rattle.law_soundness.proofs.SubmitSound.{kept-number}
use Rattle.boss_booking.specs.Bookable.{ComesTo, IsInformed}
use Rattle.boss_booking.specs.Books.{Telling, Books, StandsFor, is_end, booked, reverts_on}
use Rattle.boss_booking.specs.Gathered.{told_rank, booked_all, CanBookAll, with_begun, books_with}
use Rattle.boss_booking.proofs.Begun.{IsOther, begun-first, can-begun}
use Rattle.boss_booking.proofs.Changed.{by-records}
use Rattle.boss_booking.proofs.Fitting.{IsReady, can-book}
use Rattle.law_due.proofs.Keys.{some_items, some_test, found_part, part_at, lease_key, pending_key, PointsOnce, found-any, found-has, one-filtered, one-tested, own-parts, own-points, lease-once, pending-once, lease-found, not-both, found-alike}
use Rattle.law_due.specs.Telling.{AreApart}
use Rattle.boss_booking.proofs.Overs.{IsOpen, IsLived, passed-any, leases-lived, over-lives, over-numbers}
use Rattle.law_due.proofs.Owners.{owner_of, leases-owned, pending-owned, txns-owned, leases-known, pending-known}
use Rattle.boss_booking.proofs.Points.{map-map, map-alike, point_in, is_on, end_last, pends_last, Fits, FitsAll, live_on, pends_on, is_live_on, part_last, played_all, fitting, all_played-each, transaction-played, pends-all, number-all}
use Rattle.boss_booking.proofs.Staging.{IsStaged, IsBooked, stays, weave, books-fold}
use Rattle.boss_booking.proofs.Tellings.{awaits, all_played, over_in, AreFitting, over-fitting}
use Rattle.boss_booking.proofs.Weaving.{AreTimely, timely-woven, woven, strict}

-- what is told of a lease: its end, and that of its reversion if that is over too. `left` says whether the reversion is left.
pub record IsOfLease (how : Option End) (left : Bool) (l : Lease) (es : List Telling) : Type 0 where
  pub own : AllByRecursion (λ e. is_on l.txn l.point e ≡ true) es
  pub owned : AllByRecursion (λ e. e.happening.owner ≡ l.owner) es
  pub rising : Rising told_rank es
  pub fits : Fits true false es
  pub ends : end_last es None ≡ how
  pub pends : pends_last es false ≡ left

-- what is told of a reversion
pub record IsOfPending (left : Bool) (r : Pending) (es : List Telling) : Type 0 where
  pub own : AllByRecursion (λ e. is_on r.txn r.point e ≡ true) es
  pub owned : AllByRecursion (λ e. e.happening.owner ≡ r.owner) es
  pub rising : Rising told_rank es
  pub fits : (live : Bool) → Fits live true es
  pub ends : (end : Option End) → end_last es end ≡ end
  pub pends : pends_last es true ≡ left

-- ---- what ends on one point

on-alike : (a b txn point : ℕ) (e : Telling) → is_on a b e ≡ true → is_on txn point e ≡ ((a == txn) && (b == point))
on-alike a b txn point e is = grind (arith, nat_tests)

own-filter : (a b txn point : ℕ) (es : List Telling) → AllByRecursion (λ e. is_on a b e ≡ true) es → filter (is_on txn point) es ≡ cond ((a == txn) && (b == point)) es []
own-filter a b txn point es own = ⊎_elim
    (λ is. filter-all (is_on txn point) es (each-map (λ e. is_on a b e ≡ true) (λ e. is_on txn point e ≡ true) (λ e on. on-alike a b txn point e on ∙ is) es own)
    ∙ sym (ap (λ c. cond c es []) is))
    (λ other. filter-none (is_on txn point) es (each-map (λ e. is_on a b e ≡ true) (λ e. is_on txn point e ≡ false) (λ e on. on-alike a b txn point e on ∙ other) es own)
    ∙ sym (ap (λ c. cond c es []) other))
    (cases_Bool ((a == txn) && (b == point)))

on-end : (a b : ℕ) (e : Telling) → is_on a b e ≡ true → is_end e.happening.told ≡ true
on-end a b e is = grind (arith)

end-not-done : (e : Telling) → is_end e.happening.told ≡ true → is_done e.happening.told ≡ false
end-not-done e end = of e.happening.told end
  where
    of : (told : _) → is_end told ≡ true → is_done told ≡ false
    of None is = refl
    of (Some (what.Fault point)) is = refl
    of (Some (what.Ended point why)) is = refl
    of (Some (what.Reverted point)) is = refl
    of (Some (what.Cut point by)) is = refl
    of (Some what.Done) is = absurd (cc)

end-none : (how : Lease → Option End) (end : Option End) → end ≡ end_after how None end
end-none how None = refl
end-none how (Some end) = refl

none-is : (end : Option End) → is_none end ≡ true → end ≡ None
none-is None is = refl
none-is (Some end) is = absurd (cc)

some-any : {X : Type 0} (key : X → Bool) (xs : List X) (x : X) → find key xs ≡ Some x → list_any key xs ≡ true
some-any key [] x found = absurd (cc)
some-any key (y ∷ ys) x found = ⊎_elim
    (λ is. ap (λ b. b || list_any key ys) is)
    (λ other. let rest : list_any key ys ≡ true = some-any key ys x (sym (ap (λ b. cond b (Some y) (find key ys)) other) ∙ found) in grind (arith))
    (cases_Bool (key y))

later-numbers : (t : Transaction) (us : List Transaction) → AllByRecursion (λ u. comes_before (number_rank u) (number_rank t) ≡ false) us → member t.txn (map (λ u. u.txn) us) ≡ false
later-numbers t [] later = refl
later-numbers t (u ∷ us) later =
    let unlike : comes_before (u.txn ∷ []) (t.txn ∷ []) ≡ false = later.0 in
    let rest : member t.txn (map (λ v. v.txn) us) ≡ false = later-numbers t us later.1 in
    grind (arith, nat_tests)

record-numbers : (txns : List Transaction) → Rising number_rank txns → Distinct (map (λ t. t.txn) txns)
record-numbers [] rising = tt
record-numbers (t ∷ ts) rising = (later-numbers t ts rising.0, record-numbers ts rising.1)

on-txn : (txn point : ℕ) (e : Telling) → is_on txn point e ≡ true → e.happening.txn ≡ txn
on-txn txn point e on = grind (arith, nat_tests)

has-number : (test : Option End → Bool) (txns : List Transaction) (txn point priority : ℕ) → has_part test txns txn point priority ≡ true → member txn (map (λ t. t.txn) txns) ≡ true
has-number test [] txn point priority has = has
has-number test (t ∷ ts) txn point priority has = grind (arith, has-number test ts txn point priority)

below-not : (n : ℕ) (ns : List ℕ) → AllByRecursion (λ x. x < n) ns → member n ns ≡ false
below-not n [] below = refl
below-not n (x ∷ xs) below = (λ i. apart i || below-not n xs below.1 i)
  where
    apart : (x == n) ≡ false
    apart = let less : x < n = below.0 in grind (arith, nat_tests)

numbers-alike : (a b : ℕ) → (a == b) ≡ true → a ≡ b
numbers-alike a b same = grind (arith, nat_tests)

end-not : (e : Telling) → is_end e.happening.told ≡ false → is_end e.happening.told ≡ true → ⊥
end-not e out end = cc

-- what holds of what is told on a point to an owner
each-told : (P : Telling → Type 0) (txn point owner : ℕ) (es : List Telling) → AllByRecursion (λ e. is_on txn point e ≡ true) es → AllByRecursion (λ e. e.happening.owner ≡ owner) es →
    ((e : Telling) → is_on txn point e ≡ true → e.happening.owner ≡ owner → P e) → AllByRecursion P es
each-told P txn point owner [] on owned go = tt
each-told P txn point owner (e ∷ es) on owned go = (go e on.0 owned.0, each-told P txn point owner es on.1 owned.1 go)

true-false : true ≡ false → ⊥
true-false same = cc

-- ---- items of one rank are one, where they stand in strict order

strict-apart : {X : Type 0} (order : X → List ℕ) (xs : List X) → Rising order xs → AreApart order xs
strict-apart order [] rising = tt
strict-apart order (x ∷ xs) rising = (
  (
    (λ _. refl),
    each-map (λ y. comes_before (order y) (order x) ≡ false) (λ y. order x ≡ order y → x ≡ y)
        (λ y later same. absurd (unlike y later (sym same))) xs rising.0,
  ),
  each-map (λ y. (comes_before (order y) (order x) ≡ false) × AllByRecursion (λ z. order y ≡ order z → y ≡ z) xs) (λ y. AllByRecursion (λ z. order y ≡ order z → y ≡ z) (x ∷ xs))
      (λ y both. ((λ same. absurd (unlike y both.0 same)), both.1)) xs
      (each-both (λ y. comes_before (order y) (order x) ≡ false) (λ y. AllByRecursion (λ z. order y ≡ order z → y ≡ z) xs) xs rising.0 (strict-apart order xs rising.1)),
)
  where
    unlike : (y : _) → comes_before (order y) (order x) ≡ false → order y ≡ order x → ⊥
    unlike y later same = let at : comes_before (order y) (order x) ≡ true = ap (λ r. comes_before r (order x)) same ∙ before-self (order x) in cc

rising-apart : {X : Type 0} (order : X → List ℕ) (xs : List X) → Rising order (in_order order xs) → AreApart order xs
rising-apart order xs rising =
    let ys = in_order order xs in
    each-unordered (λ one. AllByRecursion (λ other. order one ≡ order other → one ≡ other) xs) order xs
    (each-map (λ one. AllByRecursion (λ other. order one ≡ order other → one ≡ other) ys) (λ one. AllByRecursion (λ other. order one ≡ order other → one ≡ other) xs)
    (λ one all. each-unordered (λ other. order one ≡ order other → one ≡ other) order xs all) ys (strict-apart order ys rising))

-- ---- the whole

-- what is told first, and of each lease and reversion, how the leases end so, and what is left
pub record Outcome : Type 0 where
  pub first : List Telling
  pub of_lease : Lease → List Telling
  pub of_pending : Pending → List Telling
  pub how : Lease → Option End
  pub lease_left : Lease → Bool
  pub pending_left : Pending → Bool
  pub pending : List Pending
  pub leases : List Lease

-- all that is told, as it is found
abbrev pub gathered : Persistent → Outcome → List Telling
gathered d outcome = outcome.first ++ (flat_map outcome.of_lease d.leases ++ flat_map outcome.of_pending d.pending)

-- neither ends a part nor makes a transaction done
abbrev pub IsAside : Telling → Type 0
IsAside e = (is_end e.happening.told ≡ false) × (is_done e.happening.told ≡ false)

-- What is gathered ends the leases and reversions so that these are left: `pending` and `leases`.
pub record IsGathered (d : Persistent) (outcome : Outcome) : Type 0 where
  pub silent : AllByRecursion IsAside outcome.first
  pub informed : AllByRecursion (IsInformed (length d.processes)) outcome.first
  pub single : Rising told_rank outcome.first
  pub of_leases : AllByRecursion (λ l. IsOfLease (outcome.how l) (outcome.lease_left l) l (outcome.of_lease l)) d.leases
  pub of_pendings : AllByRecursion (λ r. IsOfPending (outcome.pending_left r) r (outcome.of_pending r)) d.pending
  pub left : (txn point : ℕ) → reverts_on txn point outcome.pending ≡
      (list_any (λ l. lease_key txn point l && outcome.lease_left l) d.leases || list_any (λ r. pending_key txn point r && outcome.pending_left r) d.pending)
  pub opened : AllByRecursion (IsOpen outcome.leases) (map (record_after outcome.how d.leases) d.txns)
  pub lived : AllByRecursion (IsLived outcome.leases) (map (record_after outcome.how d.leases) d.txns)

module _ (plant : List Actuator) (d : Persistent) (s : Stages) (sound : IsSoundPersistent plant d) (stands : StandsFor s d) (outcome : Outcome) (is : IsGathered d outcome) where
  open outcome use {first, of_lease, of_pending, how, lease_left, pending_left, pending, leases}

  abbrev all : List Telling
  all = gathered d outcome

  abbrev es : List Telling
  es = in_order told_rank all

  -- ---- what ends on one point

  on-point : (txn point : ℕ) → filter (is_on txn point) all ≡ some_items (lease_key txn point) of_lease (find (lease_key txn point) d.leases) ++ some_items (pending_key txn point) of_pending (find (pending_key txn point) d.pending)
  on-point txn point =
      filter-append (is_on txn point) first (flat_map of_lease d.leases ++ flat_map of_pending d.pending)
      ∙ (λ i. filter-none (is_on txn point) first (each-map IsAside (λ e. is_on txn point e ≡ false)
      (λ e out. ap (λ b. (b && (e.happening.txn == txn)) && (point_in e.happening.told == point)) out.0) first is.silent) i
      ++ filter-append (is_on txn point) (flat_map of_lease d.leases) (flat_map of_pending d.pending) i)
      ∙ (λ i. one-filtered (lease_key txn point) (is_on txn point) of_lease d.leases (lease-once plant d sound txn point)
      (each-map (λ l. IsOfLease (how l) (lease_left l) l (of_lease l)) (λ l. filter (is_on txn point) (of_lease l) ≡ cond (lease_key txn point l) (of_lease l) [])
      (λ l o. own-filter l.txn l.point txn point (of_lease l) o.own) d.leases is.of_leases) i
      ++ one-filtered (pending_key txn point) (is_on txn point) of_pending d.pending (pending-once plant d sound txn point)
      (each-map (λ r. IsOfPending (pending_left r) r (of_pending r)) (λ r. filter (is_on txn point) (of_pending r) ≡ cond (pending_key txn point r) (of_pending r) [])
      (λ r o. own-filter r.txn r.point txn point (of_pending r) o.own) d.pending is.of_pendings) i)

  -- it is what is told of one lease, or of one reversion, or nothing
  by-key : (txn point : ℕ) (P : List Telling → Type 0) →
      (find (lease_key txn point) d.leases ≡ None → find (pending_key txn point) d.pending ≡ None → P []) →
      ((l : Lease) → find (lease_key txn point) d.leases ≡ Some l → find (pending_key txn point) d.pending ≡ None → IsOfLease (how l) (lease_left l) l (of_lease l) → P (of_lease l)) →
      ((r : Pending) → find (lease_key txn point) d.leases ≡ None → find (pending_key txn point) d.pending ≡ Some r → IsOfPending (pending_left r) r (of_pending r) → P (of_pending r)) →
      P (filter (is_on txn point) all)
  by-key txn point P nothing lease reversion = subst P (sym (on-point txn point)) (go (find (lease_key txn point) d.leases) (find (pending_key txn point) d.pending) refl refl)
    where
      go : (a : Option Lease) (b : Option Pending) → find (lease_key txn point) d.leases ≡ a → find (pending_key txn point) d.pending ≡ b →
          P (some_items (lease_key txn point) of_lease a ++ some_items (pending_key txn point) of_pending b)
      go None None p q = nothing p q
      go (Some l) None p q = subst P (sym (append-nil (of_lease l))) (lease l p q (found-has (lease_key txn point) (λ l. IsOfLease (how l) (lease_left l) l (of_lease l)) d.leases l is.of_leases p).0)
      go None (Some r) p q = reversion r p q (found-has (pending_key txn point) (λ r. IsOfPending (pending_left r) r (of_pending r)) d.pending r is.of_pendings q).0
      go (Some l) (Some r) p q = absurd (not-both plant d sound txn point l r p q)

  on-rising : (txn point : ℕ) → Rising told_rank (filter (is_on txn point) all)
  on-rising txn point = by-key txn point (Rising told_rank) (λ _ _. tt) (λ l _ _ o. o.rising) (λ r _ _ o. o.rising)

  -- in order it is the same
  on-sorted : (txn point : ℕ) → filter (is_on txn point) es ≡ filter (is_on txn point) all
  on-sorted txn point = filter-in_order told_rank (is_on txn point) all ∙ in_order-Rising told_rank (filter (is_on txn point) all) (on-rising txn point)

  abbrev ended_all : List Telling
  ended_all = flat_map of_lease d.leases ++ flat_map of_pending d.pending

  -- what holds of what is told of each lease and each reversion
  each-ended : (P : Telling → Type 0) →
      AllByRecursion (λ l. (e : Telling) → is_on l.txn l.point e ≡ true → e.happening.owner ≡ l.owner → P e) d.leases →
      AllByRecursion (λ r. (e : Telling) → is_on r.txn r.point e ≡ true → e.happening.owner ≡ r.owner → P e) d.pending → AllByRecursion P ended_all
  each-ended P leased reverting =
      let L = λ (l : Lease). IsOfLease (how l) (lease_left l) l (of_lease l) in
      let LP = λ (l : Lease). (e : Telling) → is_on l.txn l.point e ≡ true → e.happening.owner ≡ l.owner → P e in
      let R = λ (r : Pending). IsOfPending (pending_left r) r (of_pending r) in
      let RP = λ (r : Pending). (e : Telling) → is_on r.txn r.point e ≡ true → e.happening.owner ≡ r.owner → P e in
      each-append P (flat_map of_lease d.leases) (flat_map of_pending d.pending)
      (each-flat_map P of_lease d.leases (each-map (λ l. L l × LP l) (λ l. AllByRecursion P (of_lease l))
      (λ l both. each-told P l.txn l.point l.owner (of_lease l) both.0.own both.0.owned both.1) d.leases (each-both L LP d.leases is.of_leases leased)))
      (each-flat_map P of_pending d.pending (each-map (λ r. R r × RP r) (λ r. AllByRecursion P (of_pending r))
      (λ r both. each-told P r.txn r.point r.owner (of_pending r) both.0.own both.0.owned both.1) d.pending (each-both R RP d.pending is.of_pendings reverting)))

  all-ends : (P : Telling → Type 0) → ((e : Telling) → is_end e.happening.told ≡ true → P e) → AllByRecursion P ended_all
  all-ends P go = each-ended P
      (each-always (λ l. (e : Telling) → is_on l.txn l.point e ≡ true → e.happening.owner ≡ l.owner → P e) (λ l e on _. go e (on-end l.txn l.point e on)) d.leases)
      (each-always (λ r. (e : Telling) → is_on r.txn r.point e ≡ true → e.happening.owner ≡ r.owner → P e) (λ r e on _. go e (on-end r.txn r.point e on)) d.pending)

  others : filter (λ e. not (is_end e.happening.told)) all ≡ first
  others =
      let test = λ (e : Telling). not (is_end e.happening.told) in
      filter-append test first (flat_map of_lease d.leases ++ flat_map of_pending d.pending)
      ∙ (λ i. filter-all test first (each-map IsAside (λ e. test e ≡ true) (λ e out. ap not out.0) first is.silent) i
      ++ filter-none test (flat_map of_lease d.leases ++ flat_map of_pending d.pending) (all-ends (λ e. test e ≡ false) (λ e end. ap not end)) i)
      ∙ append-nil first

  es-rising : Rising told_rank es
  es-rising = strict es (Ordered-in_order told_rank all) (λ txn point. subst (Rising told_rank) (sym (on-sorted txn point)) (on-rising txn point))
      (subst (Rising told_rank) (sym (filter-in_order told_rank (λ e. not (is_end e.happening.told)) all ∙ ap (in_order told_rank) others ∙ in_order-Rising told_rank first is.single)) is.single)

  all-silent : AllByRecursion (λ e. is_done e.happening.told ≡ false) all
  all-silent = each-append (λ e. is_done e.happening.told ≡ false) first (flat_map of_lease d.leases ++ flat_map of_pending d.pending)
      (each-map IsAside (λ e. is_done e.happening.told ≡ false) (λ e out. out.1) first is.silent)
      (all-ends (λ e. is_done e.happening.told ≡ false) end-not-done)

  es-silent : AllByRecursion (λ e. is_done e.happening.told ≡ false) es
  es-silent = each-in_order (λ e. is_done e.happening.told ≡ false) told_rank all all-silent

  -- it is told to the owner of its transaction
  abbrev IsOwned : Telling → Type 0
  IsOwned e = is_end e.happening.told ≡ true → e.happening.owner ≡ owner_of d.txns e.happening.txn

  es-owned : AllByRecursion IsOwned es
  es-owned = each-in_order IsOwned told_rank all (each-append IsOwned first ended_all
      (each-map IsAside IsOwned (λ e out end. absurd (end-not e out.0 end)) first is.silent)
      (each-ended IsOwned
      (each-map (λ l. l.owner ≡ owner_of d.txns l.txn) (λ l. (e : Telling) → is_on l.txn l.point e ≡ true → e.happening.owner ≡ l.owner → IsOwned e)
      (λ l same e on owner _. owner ∙ same ∙ ap (owner_of d.txns) (sym (on-txn l.txn l.point e on))) d.leases (leases-owned plant d sound))
      (each-map (λ r. r.owner ≡ owner_of d.txns r.txn) (λ r. (e : Telling) → is_on r.txn r.point e ≡ true → e.happening.owner ≡ r.owner → IsOwned e)
      (λ r same e on owner _. owner ∙ same ∙ ap (owner_of d.txns) (sym (on-txn r.txn r.point e on))) d.pending (pending-owned plant d sound))))

  -- who is a process
  pub all-informed : AllByRecursion (IsInformed (length d.processes)) all
  all-informed = each-append (IsInformed (length d.processes)) first ended_all is.informed (each-ended (IsInformed (length d.processes))
      (each-map (λ l. l.owner < length d.processes) (λ l. (e : Telling) → is_on l.txn l.point e ≡ true → e.happening.owner ≡ l.owner → IsInformed (length d.processes) e)
      (λ l known e on owner. subst (λ n. n < length d.processes) (sym owner) known) d.leases (leases-known plant d sound))
      (each-map (λ r. r.owner < length d.processes) (λ r. (e : Telling) → is_on r.txn r.point e ≡ true → e.happening.owner ≡ r.owner → IsInformed (length d.processes) e)
      (λ r known e on owner. subst (λ n. n < length d.processes) (sym owner) known) d.pending (pending-known plant d sound)))

  -- ---- the records

  -- what holds of the records of the persistent part holds of those that are kept
  each-record : (P : Transaction → Type 0) → AllByRecursion P d.txns → AllByRecursion (λ k. P k.transaction) s.kept
  each-record P every = each-unmapped P (λ k. k.transaction) s.kept (subst (AllByRecursion P) (sym stands.txns) every)

  points-once : AllByRecursion PointsOnce d.txns
  points-once = each-map (IsTransaction plant d) PointsOnce (λ t o. o.points) d.txns sound.txns

  -- its parts, and its reversions
  abbrev IsOwn : Tracked → Type 0
  IsOwn k = PointsOnce k.transaction × ((point : ℕ) → found_part d.txns (number k) point ≡ part_at point k.transaction.parts) × ((point : ℕ) → pends_on point k ≡ reverts_on (number k) point d.pending)

  owns : AllByRecursion IsOwn s.kept
  owns =
      let A = λ (k : Tracked). PointsOnce k.transaction in
      let B = λ (k : Tracked). (point : ℕ) → found_part d.txns (number k) point ≡ part_at point k.transaction.parts in
      let C = λ (k : Tracked). (point : ℕ) → pends_on point k ≡ reverts_on (number k) point d.pending in
      each-map (λ k. A k × (B k × C k)) IsOwn (λ k o. (o.0, o.1.0, o.1.1)) s.kept
      (each-both A (λ k. B k × C k) s.kept (each-record PointsOnce points-once)
      (each-both B C s.kept (each-record (λ t. (point : ℕ) → found_part d.txns t.txn point ≡ part_at point t.parts) (own-parts d.txns sound.numbers)) stands.reverting))

  fits : (k : Tracked) → IsOwn k → FitsAll k es
  fits k own point = subst (Fits (live_on point k) (pends_on point k)) (sym (on-sorted (number k) point))
      (by-key (number k) point (Fits (live_on point k) (pends_on point k)) (λ _ _. tt)
      (λ l p q o.
      let part = lease-found plant d sound (number k) point l p in
      let live : live_on point k ≡ true = live_there k point part.part (sym (own.1 point) ∙ part.is) part.passes in
      let quiet : pends_on point k ≡ false = own.2 point ∙ found-any (pending_key (number k) point) d.pending q in
      subst (λ b. Fits b (pends_on point k) (of_lease l)) (sym live) (subst (λ b. Fits true b (of_lease l)) (sym quiet) o.fits))
      (λ r p q o.
      let there : pends_on point k ≡ true = own.2 point ∙ some-any (pending_key (number k) point) d.pending r q in
      subst (λ b. Fits (live_on point k) b (of_pending r)) (sym there) (o.fits (live_on point k))))
    where
      live_there : (k : Tracked) (point : ℕ) (part : Part) → part_at point k.transaction.parts ≡ Some part → is_none part.end ≡ true → live_on point k ≡ true
      live_there k point part found none =
          let has = found-has (λ p. p.point == point) (λ (p : Part). Unit {0}) k.transaction.parts part (every k.transaction.parts) found in
          passed-any (λ p. p.point == point) (is_live_on point) k.transaction.parts part found ((λ i. has.1 i && none i))
        where
          every : (ps : List Part) → AllByRecursion (λ p. Unit {0}) ps
          every [] = tt
          every (p ∷ ps) = (tt, every ps)

  fitted : AreFitting s.kept es
  fitted = fitting es s.kept (each-map IsOwn (λ k. FitsAll k es) fits s.kept owns)

  -- what becomes of a part
  part-after : (k : Tracked) → IsOwn k → (part : Part) → part_at part.point k.transaction.parts ≡ Some part → part_last (number k) es part ≡ part_after how d.leases (number k) part
  part-after k own part at =
      let there : found_part d.txns (number k) part.point ≡ Some part = own.1 part.point ∙ at in
      let alike : lease_of_part d.leases (number k) part.point part.priority ≡ find (lease_key (number k) part.point) d.leases =
      found-alike plant d sound (number k) part.point part.priority part there refl in
      let end : end_last (filter (is_on (number k) part.point) es) part.end ≡ end_after how (find (lease_key (number k) part.point) d.leases) part.end =
      ap (λ xs. end_last xs part.end) (on-sorted (number k) part.point)
      ∙ by-key (number k) part.point (λ xs. end_last xs part.end ≡ end_after how (find (lease_key (number k) part.point) d.leases) part.end)
      (λ p q. end-none how part.end ∙ ap (λ f. end_after how f part.end) (sym p))
      (λ l p q o.
      let mine = lease-found plant d sound (number k) part.point l p in
      let same : Some mine.part ≡ Some part = sym mine.is ∙ there in
      let parts : mine.part ≡ part = cc in
      let none : part.end ≡ None = none-is part.end (ap (λ x. is_none x.end) (sym parts) ∙ mine.passes) in
      ap (end_last (of_lease l)) none ∙ o.ends ∙ sym ((λ i. end_after how (p i) (none i))))
      (λ r p q o. o.ends part.end ∙ end-none how part.end ∙ ap (λ f. end_after how f part.end) (sym p)) in
      λ i. record part { end = (end ∙ ap (λ f. end_after how f part.end) (sym alike)) i }

  record-after : (k : Tracked) → IsOwn k → (played_all es k).transaction ≡ record_after how d.leases k.transaction
  record-after k own = transaction-played es k ∙ (λ i. record k.transaction {
    parts = map-alike (part_last (number k) es) (part_after how d.leases (number k)) k.transaction.parts
        (each-map (λ part. part_at part.point k.transaction.parts ≡ Some part) (λ part. part_last (number k) es part ≡ part_after how d.leases (number k) part) (part-after k own) k.transaction.parts (own-points k.transaction.parts own.0)) i;
  })

  -- and of its reversions
  pends-after : (k : Tracked) → IsOwn k → (point : ℕ) → pends_on point (played_all es k) ≡ reverts_on (number k) point pending
  pends-after k own point =
      let txn = number k in
      let left : reverts_on txn point pending ≡ (some_test (lease_key txn point) lease_left (find (lease_key txn point) d.leases) || some_test (pending_key txn point) pending_left (find (pending_key txn point) d.pending)) =
      is.left txn point ∙ (λ i. one-tested (lease_key txn point) lease_left d.leases (lease-once plant d sound txn point) i || one-tested (pending_key txn point) pending_left d.pending (pending-once plant d sound txn point) i) in
      pends-all es k point ∙ ap (λ xs. pends_last xs (pends_on point k)) (on-sorted txn point) ∙ (by-key txn point (λ xs. pends_last xs (pends_on point k) ≡ (some_test (lease_key txn point) lease_left (find (lease_key txn point) d.leases) || some_test (pending_key txn point) pending_left (find (pending_key txn point) d.pending)))
      (λ p q. own.2 point ∙ found-any (pending_key txn point) d.pending q ∙ sym (λ i. some_test (lease_key txn point) lease_left (p i) || some_test (pending_key txn point) pending_left (q i)))
      (λ l p q o. ap (pends_last (of_lease l)) (own.2 point ∙ found-any (pending_key txn point) d.pending q) ∙ o.pends ∙ or_false (lease_left l)
      ∙ sym (λ i. some_test (lease_key txn point) lease_left (p i) || some_test (pending_key txn point) pending_left (q i)))
      (λ r p q o. ap (pends_last (of_pending r)) (own.2 point ∙ some-any (pending_key txn point) d.pending r q) ∙ o.pends
      ∙ sym (λ i. some_test (lease_key txn point) lease_left (p i) || some_test (pending_key txn point) pending_left (q i)))) ∙ sym left
    where
      or_false : (b : Bool) → b ≡ (b || false)
      or_false true = refl
      or_false false = refl

  -- ---- what is over

  abbrev before : ℕ → Bool
  before txn = lives txn (courses d.pending d.leases)

  abbrev after : ℕ → Bool
  after txn = lives txn (courses pending leases)

  abbrev raw : List Tracked
  raw = map (played_all es) s.kept

  over-before : AllByRecursion (λ k. is_over (Some k) ≡ not (before (number k))) s.kept
  over-before =
      let A = λ (k : Tracked). IsOpen d.leases k.transaction in
      let B = λ (k : Tracked). IsLived d.leases k.transaction in
      each-map (λ k. A k × (B k × IsOwn k)) (λ k. is_over (Some k) ≡ not (before (number k))) (λ k o. over-lives k d.pending d.leases o.0 o.1.0 o.1.1.2) s.kept
      (each-both A (λ k. B k × IsOwn k) s.kept
      (each-record (IsOpen d.leases) (each-map (IsTransaction plant d) (IsOpen d.leases) (λ t o. each-map (IsPart plant d.now t.txn d.leases) (λ part. is_none part.end ≡ true → holds d.leases t.txn part.point part.priority ≡ true) (λ part p none. sym p.open_part ∙ none) t.parts o.parts) d.txns sound.txns))
      (each-both B IsOwn s.kept (each-record (IsLived d.leases) (leases-lived d.txns d.leases sound.numbers points-once sound.open_parts)) owns))

  over-after : AllByRecursion (λ k. is_over (Some k) ≡ not (after (number k))) raw
  over-after =
      let R = record_after how d.leases in
      let A = λ (k : Tracked). IsOpen leases (R k.transaction) in
      let B = λ (k : Tracked). IsLived leases (R k.transaction) in
      each-mapped (λ k. is_over (Some k) ≡ not (after (number k))) (played_all es) s.kept
      (each-map (λ k. A k × (B k × IsOwn k)) (λ k. is_over (Some (played_all es k)) ≡ not (after (number (played_all es k))))
      (λ k o.
      let same : R k.transaction ≡ (played_all es k).transaction = sym (record-after k o.1.1) in
      over-lives (played_all es k) pending leases (subst (IsOpen leases) same o.0) (subst (IsLived leases) same o.1.0)
      (λ point. pends-after k o.1.1 point ∙ ap (λ n. reverts_on n point pending) (sym (number-all es k)))) s.kept
      (each-both A (λ k. B k × IsOwn k) s.kept (each-record (λ t. IsOpen leases (R t)) (each-unmapped (IsOpen leases) R d.txns is.opened))
      (each-both B IsOwn s.kept (each-record (λ t. IsLived leases (R t)) (each-unmapped (IsLived leases) R d.txns is.lived)) owns)))

  numbers : Distinct (map number s.kept)
  numbers = subst Distinct (ap (map (λ t. t.txn)) (sym stands.txns) ∙ map-map (λ t. t.txn) (λ k. k.transaction) s.kept) (record-numbers d.txns sound.numbers)

  same-numbers : map number raw ≡ map number s.kept
  same-numbers = map-map number (played_all es) s.kept ∙ map-alike (λ k. number (played_all es k)) number s.kept (every s.kept)
    where
      every : (ks : List Tracked) → AllByRecursion (λ k. number (played_all es k) ≡ number k) ks
      every [] = tt
      every (k ∷ ks) = (number-all es k, every ks)

  abbrev pub over_last : ℕ → Bool
  over_last txn = over_in txn raw

  -- those that become done, by number
  abbrev pub ended : List ℕ
  ended = filter (λ txn. before txn && not (after txn)) (map number s.kept)

  ended-awaited : (txn : ℕ) → member txn ended ≡ (awaits txn es && over_last txn)
  ended-awaited txn =
      let was : over_in txn s.kept ≡ (member txn (map number s.kept) && not (before txn)) = over-numbers (λ n. not (before n)) s.kept over-before txn in
      let is_now : over_last txn ≡ (member txn (map number s.kept) && not (after txn)) =
      over-numbers (λ n. not (after n)) raw over-after txn ∙ ap (λ ns. member txn ns && not (after txn)) same-numbers in
      let runs : over_in txn s.kept ≡ (not (awaits txn es) && over_last txn) = over-fitting txn s.kept es fitted ∙ ap (λ ks. not (awaits txn es) && over_in txn ks) (all_played-each es s.kept) in
      member-filter txn (λ n. before n && not (after n)) (map number s.kept)
      ∙ truth (member txn (map number s.kept)) (before txn) (after txn) (awaits txn es) (over_last txn) is_now (sym was ∙ runs)
    where
      truth : (m b a w o : Bool) → o ≡ (m && not a) → (m && not b) ≡ (not w && o) → ((b && not a) && m) ≡ (w && o)
      truth m b a w o p q = grind (arith)

  -- what is over at the end has nothing left
  pub over-dead : (txn : ℕ) → over_last txn ≡ true → after txn ≡ false
  over-dead txn is_over_now = truth (member txn (map number raw)) (after txn) (sym (over-numbers (λ n. not (after n)) raw over-after txn) ∙ is_over_now)
    where
      truth : (m a : Bool) → (m && not a) ≡ true → a ≡ false
      truth true true p = sym p
      truth true false p = refl
      truth false a p = absurd (cc)

  staged : IsStaged s s.kept
  staged =
      let D = λ (k : Tracked). member (number k) s.done ≡ not (before (number k)) in
      let O = λ (k : Tracked). is_over (Some k) ≡ not (before (number k)) in
      let done : AllByRecursion D s.kept = each-record (λ t. member t.txn s.done ≡ not (before t.txn)) (subst (λ ns. AllByRecursion (λ t. member t.txn ns ≡ not (before t.txn)) d.txns) (sym stands.done) sound.done) in
      record {
        kept = sym (filter-all (stays s.done) s.kept (each-map (λ k. D k × O k) (λ k. stays s.done k ≡ true) (λ k both. (λ i. not (both.1 i) || both.0 i) ∙ either (before (number k))) s.kept (each-both D O s.kept done over-before)));
        over = each-map (λ k. D k × O k) (λ k. member (number k) s.done ≡ true → is_over (Some k) ≡ true) (λ k both there. both.1 ∙ sym both.0 ∙ there) s.kept (each-both D O s.kept done over-before);
        once = subst Distinct (sym stands.done) sound.done_once;
        numbers = numbers;
      }
    where
      either : (b : Bool) → (not (not b) || not b) ≡ true
      either true = refl
      either false = refl

  -- ---- what ends is there to end

  abbrev IsKnown : Telling → Type 0
  IsKnown e = is_end e.happening.told ≡ true → member e.happening.txn (map number s.kept) ≡ true

  known-by : (test : Option End → Bool) (txn point priority : ℕ) → has_part test d.txns txn point priority ≡ true → (e : Telling) → is_on txn point e ≡ true → IsKnown e
  known-by test txn point priority has e on _ = subst (λ k. member k (map number s.kept) ≡ true) (sym (on-txn txn point e on))
      (ap (member txn) (sym (map-map (λ t. t.txn) (λ k. k.transaction) s.kept) ∙ ap (map (λ t. t.txn)) stands.txns) ∙ has-number test d.txns txn point priority has)

  all-known : AllByRecursion IsKnown all
  all-known = each-append IsKnown first ended_all
      (each-map IsAside IsKnown (λ e out end. absurd (end-not e out.0 end)) first is.silent)
      (each-ended IsKnown
      (each-map (λ l. has_part is_none d.txns l.txn l.point l.priority ≡ true) (λ l. (e : Telling) → is_on l.txn l.point e ≡ true → e.happening.owner ≡ l.owner → IsKnown e)
      (λ l has e on _. known-by is_none l.txn l.point l.priority has e on) d.leases sound.open_parts)
      (each-map (λ r. has_part (is_start r.start) d.txns r.txn r.point r.priority ≡ true) (λ r. (e : Telling) → is_on r.txn r.point e ≡ true → e.happening.owner ≡ r.owner → IsKnown e)
      (λ r has e on _. known-by (is_start r.start) r.txn r.point r.priority has e on) d.pending sound.ended_parts))

  pub may-book : CanBookAll s d.processes all
  may-book = can-book es s d.processes s.kept staged (each-map IsOwn (IsReady es) (λ k o. (fits k o, o.0)) s.kept owns) (each-in_order IsKnown told_rank all all-known)

  -- ---- none of it is of the next transaction

  next-fresh : member d.next (map number s.kept) ≡ false
  next-fresh = below-not d.next (map number s.kept) (each-mapped (λ k. k < d.next) number s.kept (each-record (λ t. t.txn < d.next) (each-map (IsTransaction plant d) (λ t. t.txn < d.next) (λ t o. o.given) d.txns sound.txns)))

  pub none-next : (k : Tracked) → number k ≡ d.next → AllByRecursion (IsOther k) es
  none-next k at = each-in_order (IsOther k) told_rank all (each-map IsKnown (IsOther k)
      (λ e known end. ⊎_elim (λ same. absurd (no_way e (known end) (numbers-alike (number k) e.happening.txn same))) (λ apart. apart) (cases_Bool (number k == e.happening.txn))) all all-known)
    where
      no_way : (e : Telling) → member e.happening.txn (map number s.kept) ≡ true → number k ≡ e.happening.txn → ⊥
      no_way e there same = let here : member d.next (map number s.kept) ≡ true = ap (λ n. member n (map number s.kept)) (sym at ∙ same) ∙ there in true-false (sym here ∙ next-fresh)

  pub next-not-done : (k : Tracked) → number k ≡ d.next → member (number k) s.done ≡ false
  next-not-done k at = (λ i. member (at i) (stands.done i)) ∙ below-not d.next d.done (each-map (λ txn. is_kept d.txns txn ≡ true) (λ txn. txn < d.next)
      (λ txn kept. kept-number d.next d.txns txn (each-map (IsTransaction plant d) (λ t. t.txn < d.next) (λ t o. o.given) d.txns sound.txns) kept) d.done sound.done_known)

  -- its record may be begun before all that
  pub begun-before : (k : Tracked) → number k ≡ d.next → booked_all (with_begun k s) d.processes all ≡ books_with k (booked_all s d.processes all)
  begun-before k at = begun-first k es s d.processes (none-next k at) (next-not-done k at)

  pub may-book-begun : (k : Tracked) → number k ≡ d.next → CanBookAll (with_begun k s) d.processes all
  may-book-begun k at = can-begun k es s d.processes (none-next k at) (next-not-done k at) may-book

  -- happenings of one rank are one telling
  pub told-apart : AreApart told_rank all
  told-apart = rising-apart told_rank all es-rising

  -- transactions have nothing left after it that had before
  abbrev pub dead : ℕ → Bool
  dead txn = before txn && not (after txn)

  -- `last` says when a transaction becomes done
  module _ (last : ℕ → ℕ) (so : AreTimely over_last last es) where
    abbrev done : Transaction → Happening
    done t = record { at = last t.txn; txn = t.txn; owner = t.owner; told = Some what.Done }

    abbrev done_of : ℕ → Happening
    done_of txn = record { at = last txn; txn = txn; owner = owner_of d.txns txn; told = Some what.Done }

    -- what is told in the whole group
    abbrev pub group : List Happening
    group = in_order rank (map (λ e. e.happening) all ++ map done (filter (λ t. dead t.txn) d.txns))

    abbrev pub books : Books
    books = fold booked (record { stages = s; processes = d.processes }) es

    weave-group : weave over_last es ≡ group
    weave-group = woven over_last done_of all ended (λ txn. refl) (λ txn. refl) es-rising all-silent es-silent (timely-woven over_last last (owner_of d.txns) es es-owned so)
        (Distinct-filter dead (map number s.kept) numbers) ended-awaited
        ∙ ap (λ hs. in_order rank (map (λ e. e.happening) all ++ hs))
        (by-records done_of done dead (map number s.kept) d.txns (ap (map (λ t. t.txn)) (sym stands.txns) ∙ map-map (λ t. t.txn) (λ k. k.transaction) s.kept)
        (each-map (λ t. t.owner ≡ owner_of d.txns t.txn) (λ t. done_of t.txn ≡ done t) (λ t owned j. record { at = last t.txn; txn = t.txn; owner = sym owned j; told = Some what.Done })
        d.txns (txns-owned plant d sound)))

    by-books : IsBooked books s.done d.processes (weave over_last es) (all_played es s.kept)
    by-books = books-fold over_last s.kept es s d.processes staged fitted es-silent (λ txn. ap (over_in txn) (sym (all_played-each es s.kept)))

    pub told : books.processes ≡ fold tell d.processes group
    told = by-books.processes ∙ ap (fold tell d.processes) weave-group

    pub finished : books.stages.done ≡ fold finish d.done group
    finished = by-books.done ∙ (λ i. fold finish (stands.done i) (weave-group i))

    kept-raw : books.stages.kept ≡ filter (stays books.stages.done) raw
    kept-raw = by-books.staged.kept ∙ ap (filter (stays books.stages.done)) (all_played-each es s.kept)

    pub records : map (λ k. k.transaction) books.stages.kept ≡ kept (courses pending leases) (fold finish d.done group) (map (record_after how d.leases) d.txns)
    records =
        let ds = books.stages.done in
        let keeps = λ (t : Transaction). after t.txn || member t.txn ds in
        ap (map (λ k. k.transaction)) (kept-raw ∙ filter-same (stays ds) (λ k. keeps k.transaction) raw
        (each-map (λ k. is_over (Some k) ≡ not (after (number k))) (λ k. stays ds k ≡ keeps k.transaction) (λ k o. ap (λ b. not b || member (number k) ds) o ∙ ap (λ b. b || member (number k) ds) (twice (after (number k)))) raw over-after))
        ∙ sym (filter-map keeps (λ k. k.transaction) raw)
        ∙ ap (filter keeps) (map-map (λ k. k.transaction) (played_all es) s.kept
        ∙ map-alike (λ k. (played_all es k).transaction) (λ k. record_after how d.leases k.transaction) s.kept (each-map IsOwn (λ k. (played_all es k).transaction ≡ record_after how d.leases k.transaction) record-after s.kept owns)
        ∙ sym (map-map (record_after how d.leases) (λ k. k.transaction) s.kept) ∙ ap (map (record_after how d.leases)) stands.txns)
        ∙ ap (λ ns. kept (courses pending leases) ns (map (record_after how d.leases) d.txns)) finished
      where
        twice : (b : Bool) → not (not b) ≡ b
        twice true = refl
        twice false = refl

    pub reverting : AllByRecursion (λ k. (point : ℕ) → member point k.reverting ≡ reverts_on (number k) point pending) books.stages.kept
    reverting =
        let P = λ (k : Tracked). (point : ℕ) → member point k.reverting ≡ reverts_on (number k) point pending in
        subst (AllByRecursion P) (sym kept-raw) (each-filter P (stays books.stages.done) raw (each-mapped P (played_all es) s.kept
        (each-map IsOwn (λ k. P (played_all es k)) (λ k o point. pends-after k o point ∙ ap (λ n. reverts_on n point pending) (sym (number-all es k))) s.kept owns)))

    -- it comes to a persistent part for which all this is so
    pub comes : (c : Persistent) (tellings : List Telling) → all ≡ tellings → fold tell d.processes group ≡ c.processes → fold finish d.done group ≡ c.done →
        kept (courses pending leases) (fold finish d.done group) (map (record_after how d.leases) d.txns) ≡ c.txns → pending ≡ c.pending → ComesTo c s d.processes tellings
    comes c tellings same processes done_too txns reversions = subst (ComesTo c s d.processes) same (record {
      bookable = record { apart = told-apart; there = may-book; informed = all-informed };
      books = record {
        processes = told ∙ processes;
        stands = record {
          txns = records ∙ txns;
          done = finished ∙ done_too;
          reverting = subst (λ rs. AllByRecursion (λ k. (point : ℕ) → member point k.reverting ≡ reverts_on (number k) point rs) books.stages.kept) reversions reverting;
        };
      };
    })
