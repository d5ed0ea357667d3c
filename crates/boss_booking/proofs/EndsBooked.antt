-- Leases that end before their time, told in order: the books are those of the whole group.
use Rattle.std.proofs.Common.{◌≡◌, ℕ, ◌^◌, ◌<◌, ◌≤◌, ◌==◌, nat_lt, nat_le, List, [], ◌∷◌, ◌++◌, length, Bool, true, false, ◌&&◌, ◌||◌, cond, map, Option, Some, None, refl, ap, sym, ◌∙◌, subst, ⊎_elim, arith, append-nil}
use Rattle.std.specs.List.{filter, flat_map, fold, list_any, AllByRecursion}
use Rattle.std.proofs.lemmas.Bool.{cases_Bool, cond_both}
use Rattle.std.proofs.lemmas.Bool.Decides.{nat_tests}
use Rattle.boss_model.specs.declared.notice.Cause.{Cause}
use Rattle.boss_model.specs.declared.state.Actuator.{Actuator}
use Rattle.boss_model.specs.declared.state.Lease.{Lease}
use Rattle.boss_model.specs.declared.state.Pending.{Pending}
use Rattle.boss_model.specs.Ends.{shortened, shortened_if, end_if, end_leases}
use Rattle.boss_model.specs.Happenings.{Happening, rank, ended, done_at, finish, tell}
use Rattle.boss_model.specs.Order.{in_order}
use Rattle.boss_model.specs.Records.{End, Transaction}
use Rattle.boss_model.specs.Reversions.{end_of, reversion_of, courses}
use Rattle.boss_model.specs.Sound.{Rising, IsLease, IsPending, is_superseded, IsSoundPersistent}
use Rattle.boss_model.specs.State.{Persistent, pending_slot}
use Rattle.boss_model.specs.Time.{under_way, record_after, kept}
use Rattle.boss_stages.specs.Stages.{Stages}
use Rattle.law_time.proofs.Endings.{IsEnding, IsReverting, ending-change, after_ending}
use Rattle.law_soundness.proofs.EndSound.{IsAt, ending-if}
use Rattle.law_time.proofs.Filters.{each-mapped, each-always, any-map, filter-map}
use Rattle.law_time.proofs.GroupSound.{IsChange}
use Rattle.law_time.proofs.Orders.{each-map, each-both, each-append, each-in_order}
use Rattle.law_time.proofs.Slots.{any-in_order, any-append}
use Rattle.boss_booking.specs.Bookable.{ComesTo, IsInformed}
use Rattle.boss_booking.specs.Books.{Telling, StandsFor, is_end, reverts_on}
use Rattle.boss_booking.specs.Gathered.{plain, ended_with, end_tellings, told_rank}
use Rattle.boss_booking.specs.Passed.{IsFirstTold, IsPassed, faulted, nothing}
use Rattle.boss_booking.proofs.Changed.{change-opened, change-lived, any-filter, any-alike, or-turn, steps-last}
use Rattle.boss_booking.proofs.Gathering.{IsAside, IsOfLease, IsOfPending, Outcome, IsGathered, gathered, over_last, dead, group, comes}
use Rattle.law_due.proofs.Keys.{lease_key, pending_key}
use Rattle.boss_booking.proofs.Points.{map-map}
use Rattle.law_due.proofs.Owners.{in-force-known}
use Rattle.boss_booking.proofs.Weaving.{AreTimely, at-once}

first-aside : (why : Cause) (n : ℕ) (d : Persistent) (first : List Happening) → IsFirstTold why n d first → AllByRecursion IsAside (map plain first)
first-aside why n d _ nothing = tt
first-aside why n d _ (faulted point lease found) = ((refl, refl), tt)

first-single : (why : Cause) (n : ℕ) (d : Persistent) (first : List Happening) → IsFirstTold why n d first → Rising told_rank (map plain first)
first-single why n d _ nothing = tt
first-single why n d _ (faulted point lease found) = (tt, tt)

-- a fault is told to the owner of its lease
first-informed : (plant : List Actuator) (d : Persistent) → IsSoundPersistent plant d → (why : Cause) (n : ℕ) (first : List Happening) → IsFirstTold why n d first →
    AllByRecursion (IsInformed (length d.processes)) (map plain first)
first-informed plant d sound why n _ nothing = tt
first-informed plant d sound why n _ (faulted point lease found) = (in-force-known plant d sound point lease found, tt)

-- under way at n
abbrev pub is_way : ℕ → Pending → Bool
is_way n r = nat_le r.start n && nat_lt n (end_of r)

pub own-on : (txn point : ℕ) → ((txn == txn) && (point == point)) ≡ true
own-on txn point = grind (arith, nat_tests)

abbrev pub one_if : {X : Type 0} → Bool → X → List X
one_if b x = cond b (x ∷ []) []

pub one-each : {X Y : Type 0} (test : X → Bool) (f : X → Y) (xs : List X) → flat_map (λ x. one_if (test x) (f x)) xs ≡ map f (filter test xs)
one-each test f [] = refl
one-each test f (x ∷ xs) = cond_both (test x) (x ∷ filter test xs) (filter test xs) (λ ys. one_if (test x) (f x) ++ flat_map (λ z. one_if (test z) (f z)) xs ≡ map f ys)
    (λ is. ap (λ b. one_if b (f x) ++ flat_map (λ z. one_if (test z) (f z)) xs) is ∙ ap (λ ys. f x ∷ ys) (one-each test f xs))
    (λ out. ap (λ b. one_if b (f x) ++ flat_map (λ z. one_if (test z) (f z)) xs) out ∙ one-each test f xs)

abbrev pub no_items : {X Y : Type 0} → X → List Y
no_items x = []

pub no-each : {X Y : Type 0} (xs : List X) → flat_map (no_items {X = X} {Y = Y}) xs ≡ []
no-each [] = refl
no-each {X} {Y} (x ∷ xs) = no-each {X = X} {Y = Y} xs

pub map-append : {X Y : Type 0} (f : X → Y) (xs ys : List X) → map f (xs ++ ys) ≡ map f xs ++ map f ys
map-append f [] ys = refl
map-append f (x ∷ xs) ys = ap (λ zs. f x ∷ zs) (map-append f xs ys)

pub map-plain : (hs : List Happening) → map (λ e. e.happening) (map plain hs) ≡ hs
map-plain [] = refl
map-plain (h ∷ hs) = ap (λ ys. h ∷ ys) (map-plain hs)

-- the transactions that become done are those of the changed records too
pub done-kept : (done : Transaction → Happening) (test : Transaction → Bool) (change : Transaction → Transaction) (txns : List Transaction) →
    map (λ t. done (change t)) (filter (λ t. test (change t)) txns) ≡ map done (filter test (map change txns))
done-kept done test change txns = sym (ap (map done) (filter-map test change txns) ∙ map-map done change (filter (λ t. test (change t)) txns))

module _ (plant : List Actuator) (d : Persistent) (s : Stages) (which : Lease → Bool) (why : Cause) (n : ℕ) (first : List Happening)
    (sound : IsSoundPersistent plant d) (stands : StandsFor s d) (passed : IsPassed n d) (small : n ≤ 2 ^ 60) (reverts : is_superseded why ≡ false) (is_first : IsFirstTold why n d first) where
  at : IsAt n d
  at = record { reached = passed.reached; live = passed.live; running = passed.running }

  abbrev the_end : Lease → Telling
  the_end l = ended_with why (reversion_of (shortened n l))

  abbrev of_lease : Lease → List Telling
  of_lease l = one_if (which l) (the_end l)

  abbrev of_pending : Pending → List Telling
  of_pending = no_items

  abbrev how : Lease → Option End
  how = end_if which why n

  abbrev cut : List Lease
  cut = map (shortened_if which n) d.leases

  abbrev lease_left : Lease → Bool
  lease_left l = is_way n (reversion_of (shortened_if which n l))

  lease-ends : (l : Lease) → IsLease plant d.now l → n < l.until → IsOfLease (how l) (lease_left l) l (of_lease l)
  lease-ends l is more = ⊎_elim
      (λ meant. subst (λ b. IsOfLease (cond b (Some (record { cause = why; at = n })) None) (is_way n (reversion_of (cond b (shortened n l) l))) l (one_if b (the_end l))) (sym meant) (record {
        own = (own-on l.txn l.point, tt);
        owned = (refl, tt);
        rising = (tt, tt);
        fits = (refl, tt);
        ends = refl;
        pends = steps-last plant l.point n l.revert is.reverting ∙ grind (arith, nat_tests);
      }))
      (λ other. subst (λ b. IsOfLease (cond b (Some (record { cause = why; at = n })) None) (is_way n (reversion_of (cond b (shortened n l) l))) l (one_if b (the_end l))) (sym other) (record {
        own = tt;
        owned = tt;
        rising = tt;
        fits = tt;
        ends = refl;
        pends = grind (arith, nat_tests);
      }))
      (cases_Bool (which l))

  pending-stays : (r : Pending) → IsPending plant d.now r → n < end_of r → IsOfPending (is_way n r) r (of_pending r)
  pending-stays r is more =
      let started : r.start ≤ d.now = is.started in
      let reached : d.now ≤ n = at.reached in
      let begun : r.start ≤ n = omega arith in
      record {
        own = tt;
        owned = tt;
        rising = tt;
        fits = λ live. tt;
        ends = λ end. refl;
        pends = grind (arith, nat_tests);
      }

  key-kept : (txn point : ℕ) (l : Lease) → ((reversion_of (shortened_if which n l)).txn == txn) && ((reversion_of (shortened_if which n l)).point == point) ≡ lease_key txn point l
  key-kept txn point l = cond_both (which l) (shortened n l) l (λ (x : Lease). ((x.txn == txn) && (x.point == point)) ≡ lease_key txn point l) (λ _. refl) (λ _. refl)

  left : (txn point : ℕ) → reverts_on txn point (under_way n (courses d.pending cut)) ≡
      (list_any (λ l. lease_key txn point l && lease_left l) d.leases || list_any (λ r. pending_key txn point r && is_way n r) d.pending)
  left txn point =
      let test = λ (r : Pending). pending_key txn point r && is_way n r in
      any-filter (pending_key txn point) (is_way n) (courses d.pending cut)
      ∙ any-in_order test pending_slot (d.pending ++ map reversion_of cut)
      ∙ any-append test d.pending (map reversion_of cut)
      ∙ or-turn (list_any test d.pending) (list_any test (map reversion_of cut))
      ∙ ap (λ b. b || list_any test d.pending) (any-map test reversion_of cut ∙ any-map (λ l. test (reversion_of l)) (shortened_if which n) d.leases
      ∙ any-alike (λ l. test (reversion_of (shortened_if which n l))) (λ l. lease_key txn point l && lease_left l) (λ l. ap (λ b. b && lease_left l) (key-kept txn point l)) d.leases)

  reverting-if : (lease : Lease) → IsReverting (how lease)
  reverting-if lease end is = cond_both (which lease) (Some (record { cause = why; at = n })) None
      (λ e. e ≡ Some end → is_superseded end.cause ≡ false)
      (λ _ e. let same : record { cause = why; at = n } ≡ end = cc in ap (λ x. is_superseded x.cause) (sym same) ∙ reverts) (λ _ e. cc) is

  abbrev changed : Persistent
  changed = after_ending n n (shortened_if which n) how d

  change : IsChange plant changed
  change = ending-change plant d n n (shortened_if which n) how sound at.reached (omega arith) small
      (each-map (λ lease. n < lease.until) (λ lease. IsEnding n lease (shortened_if which n lease) (how lease)) (ending-if which why n) d.leases at.live)
      (each-always (λ lease. IsReverting (how lease)) reverting-if d.leases)
      (each-always (λ c. c.start ≤ n → c.start ≤ n) (λ c early. early) (courses d.pending cut))

  abbrev outcome : Outcome
  outcome = record { first = map plain first; of_lease = of_lease; of_pending = of_pending; how = how; lease_left = lease_left; pending_left = is_way n; pending = changed.pending; leases = changed.leases }

  is : IsGathered d outcome
  is = record {
    silent = first-aside why n d first is_first;
    informed = first-informed plant d sound why n first is_first;
    single = first-single why n d first is_first;
    of_leases = each-map (λ l. IsLease plant d.now l × (n < l.until)) (λ l. IsOfLease (how l) (lease_left l) l (of_lease l)) (λ l both. lease-ends l both.0 both.1) d.leases
        (each-both (IsLease plant d.now) (λ l. n < l.until) d.leases sound.leases at.live);
    of_pendings = each-map (λ r. IsPending plant d.now r × (n < end_of r)) (λ r. IsOfPending (is_way n r) r (of_pending r)) (λ r both. pending-stays r both.0 both.1) d.pending
        (each-both (IsPending plant d.now) (λ r. n < end_of r) d.pending sound.pending at.running);
    left = left;
    opened = change-opened plant changed change;
    lived = change-lived plant changed change;
  }

  abbrev all : List Telling
  all = gathered d outcome

  all-is : all ≡ map plain first ++ end_tellings which why n d.leases
  all-is = (λ i. map plain first ++ (one-each which the_end d.leases i ++ no-each {X = Pending} {Y = Telling} d.pending i)) ∙ ap (λ xs. map plain first ++ xs) (append-nil (end_tellings which why n d.leases))

  -- what is told of a lease is told at n
  abbrev IsNow : Telling → Type 0
  IsNow e = is_end e.happening.told ≡ true → e.happening.at ≡ n

  all-now : AllByRecursion IsNow (map plain first ++ end_tellings which why n d.leases)
  all-now = each-append IsNow (map plain first) (end_tellings which why n d.leases)
      (each-map IsAside IsNow (λ e quiet end. absurd (let out : is_end e.happening.told ≡ false = quiet.0 in cc)) (map plain first) (first-aside why n d first is_first))
      (each-mapped IsNow the_end (filter which d.leases) (each-always (λ l. IsNow (the_end l)) (λ l _. refl) (filter which d.leases)))

  so : AreTimely (over_last plant d s sound stands outcome is) (λ txn. n) (in_order told_rank all)
  so = at-once (over_last plant d s sound stands outcome is) n (in_order told_rank all)
      (each-in_order IsNow told_rank all (subst (AllByRecursion IsNow) (sym all-is) all-now))

  abbrev after : Persistent
  after = end_leases which why n first d

  group-is : group plant d s sound stands outcome is (λ txn. n) so
      ≡ in_order rank ((first ++ map (λ lease. ended why (reversion_of (shortened n lease))) (filter which d.leases))
      ++ map (done_at n) (filter (λ t. dead plant d s sound stands outcome is t.txn) (map (record_after how d.leases) d.txns)))
  group-is = λ i. in_order rank ((ap (map (λ e. e.happening)) all-is ∙ map-append (λ e. e.happening) (map plain first) (end_tellings which why n d.leases)
      ∙ (λ j. map-plain first j ++ map-map (λ e. e.happening) the_end (filter which d.leases) j)) i
      ++ done-kept (done_at n) (λ t. dead plant d s sound stands outcome is t.txn) (record_after how d.leases) d.txns i)

  pub ends-come : ComesTo after s d.processes (map plain first ++ end_tellings which why n d.leases)
  ends-come = comes plant d s sound stands outcome is (λ txn. n) so
      after (map plain first ++ end_tellings which why n d.leases) all-is
      (ap (fold tell d.processes) group-is) (ap (fold finish d.done) group-is)
      (ap (λ hs. kept (courses changed.pending changed.leases) (fold finish d.done hs) (map (record_after how d.leases) d.txns)) group-is) refl
