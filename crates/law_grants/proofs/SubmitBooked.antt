-- What a new transaction takes, told in order: the books are those of the whole group, once its own record is begun.
use Rattle.std.proofs.Common.{◌≡◌, ℕ, ◌<◌, ◌≤◌, ◌==◌, List, [], ◌∷◌, ◌++◌, length, Bool, true, false, not, ◌&&◌, ◌||◌, cond, map, Option, Some, None, is_none, refl, ap, sym, ◌∙◌, subst, ⊎_elim, arith, append-nil}
use Rattle.std.specs.List.{filter, fold, list_any, AllByRecursion}
use Rattle.std.proofs.lemmas.Bool.{cases_Bool, cond_both}
use Rattle.std.proofs.lemmas.Bool.Decides.{nat_tests}
use Rattle.boss_model.specs.declared.command.Policy.{Policy}
use Rattle.boss_model.specs.declared.command.Setting.{Setting}
use Rattle.boss_model.specs.declared.notice.Cause.TheVariants as cause
use Rattle.boss_model.specs.declared.state.Actuator.{Actuator}
use Rattle.boss_model.specs.declared.state.Lease.{Lease}
use Rattle.boss_model.specs.declared.state.Pending.{Pending}
use Rattle.boss_model.specs.Happenings.{Happening, rank, lives, done_at, finish, tell}
use Rattle.boss_model.specs.Lists.{member}
use Rattle.boss_model.specs.Order.{in_order}
use Rattle.boss_model.specs.Records.{End, Transaction}
use Rattle.boss_model.specs.Reversions.{reversion_of, courses}
use Rattle.boss_model.specs.Sound.{Distinct, holds, has_part, number_rank, IsPart, IsTransaction, IsSoundPersistent}
use Rattle.boss_model.specs.State.{Persistent, lease_slot}
use Rattle.boss_model.specs.Submit.{begun, granted, is_taken, superseded, cut, superseded_end, submitted}
use Rattle.boss_model.specs.Time.{lease_of_part, end_after, part_after, record_after, kept}
use Rattle.boss_stages.specs.Stages.{Tracked, Stages, number}
use Rattle.law_time.proofs.Endings.{numbers-same, points-same, part-open-stays}
use Rattle.law_time.proofs.Filters.{filter-append, each-mapped, each-always, any-map}
use Rattle.law_time.proofs.Orders.{each-map, each-both, each-filter, each-passed, each-append, each-in_order}
use Rattle.law_time.proofs.Slots.{any-in_order, any-append, lives-courses, self-found, has-after, Rising-same}
use Rattle.boss_booking.specs.Bookable.{ComesTo, IsInformed}
use Rattle.boss_booking.specs.Books.{Telling, StandsFor, is_end, reverts_on}
use Rattle.boss_booking.specs.Gathered.{plain, replaced_tellings, told_rank, booked_all, AreBooksOf, CanBookAll, with_begun, books_with}
use Rattle.boss_booking.proofs.Changed.{any-filter}
use Rattle.boss_booking.proofs.EndsBooked.{own-on, one_if, one-each, map-append, map-plain, done-kept}
use Rattle.boss_booking.proofs.Gathering.{IsOfLease, IsOfPending, Outcome, IsGathered, gathered, over_last, dead, all-informed, group, told, finished, records, reverting, told-apart, begun-before, may-book-begun}
use Rattle.law_due.proofs.Keys.{PointsOnce, lease_key, pending_key}
use Rattle.law_due.specs.Telling.{AreApart}
use Rattle.boss_booking.proofs.Overs.{IsOpen, IsLived, leases-lived}
use Rattle.boss_booking.proofs.Points.{map-map}
use Rattle.law_due.proofs.Owners.{next-lives-not}
use Rattle.boss_booking.proofs.Weaving.{AreTimely, at-once}

-- ---- parts that stay open

still-held : (gone : Lease → Bool) (how : Lease → Option End) (leases : List Lease) (txn point priority : ℕ) → ((l : Lease) → is_none (how l) ≡ true → gone l ≡ false) →
    holds leases txn point priority ≡ true → is_none (end_after how (lease_of_part leases txn point priority) None) ≡ true → holds (filter (λ l. not (gone l)) leases) txn point priority ≡ true
still-held gone how [] txn point priority stays held free = held
still-held gone how (l ∷ ls) txn point priority stays held free =
    let mine = (l.txn == txn) && ((l.point == point) && (l.priority == priority)) in
    ⊎_elim
    (λ own.
    let here : is_none (how l) ≡ true = ap (λ b. is_none (end_after how (cond b (Some l) (lease_of_part ls txn point priority)) None)) (sym own) ∙ free in
    let out : gone l ≡ false = stays l here in
    ap (λ b. holds (cond (not b) (l ∷ filter (λ x. not (gone x)) ls) (filter (λ x. not (gone x)) ls)) txn point priority) out ∙ ap (λ b. b || holds (filter (λ x. not (gone x)) ls) txn point priority) own)
    (λ other.
    let rest : holds (filter (λ x. not (gone x)) ls) txn point priority ≡ true = still-held gone how ls txn point priority stays (ap (λ b. b || holds ls txn point priority) (sym other) ∙ held)
    (ap (λ b. is_none (end_after how (cond b (Some l) (lease_of_part ls txn point priority)) None)) (sym other) ∙ free) in
    cond_both (not (gone l)) (l ∷ filter (λ x. not (gone x)) ls) (filter (λ x. not (gone x)) ls) (λ xs. holds xs txn point priority ≡ true) (λ _. ap (λ b. b || holds (filter (λ x. not (gone x)) ls) txn point priority) other ∙ rest) (λ _. rest))
    (cases_Bool mine)

open-after : (gone : Lease → Bool) (how : Lease → Option End) (leases : List Lease) (txn point priority : ℕ) (end : Option End) → ((l : Lease) → is_none (how l) ≡ true → gone l ≡ false) →
    is_none end ≡ holds leases txn point priority → is_none (end_after how (lease_of_part leases txn point priority) end) ≡ true → holds (filter (λ l. not (gone l)) leases) txn point priority ≡ true
open-after gone how leases txn point priority (Some end) stays is free = absurd (cc)
open-after gone how leases txn point priority None stays is free = still-held gone how leases txn point priority stays (sym is) free

none-tested : {X : Type 0} (test : X → Bool) (xs : List X) → list_any (λ x. test x && false) xs ≡ false
none-tested test [] = refl
none-tested test (x ∷ xs) = grind (arith, none-tested test xs)

-- ---- the new leases are those of the new transaction

new-others : (owner : ℕ) (policy : Policy) (next n txn : ℕ) (writes : List Setting) → (next == txn) ≡ false → list_any (λ l. l.txn == txn) (granted owner policy next n writes) ≡ false
new-others owner policy next n txn [] apart = refl
new-others owner policy next n txn (w ∷ ws) apart = (λ i. apart i || new-others owner policy next n txn ws apart i)

new-own : (owner : ℕ) (policy : Policy) (next n : ℕ) (writes : List Setting) → 1 ≤ length writes → list_any (λ l. l.txn == next) (granted owner policy next n writes) ≡ true
new-own owner policy next n [] some = absurd (omega arith)
new-own owner policy next n (w ∷ ws) some = ap (λ b. b || list_any (λ l. l.txn == next) (granted owner policy next n ws)) (let self : (next == next) ≡ true = grind (arith, nat_tests) in self)

reverts-none : (txn point : ℕ) (pending : List Pending) → lives txn pending ≡ false → reverts_on txn point pending ≡ false
reverts-none txn point [] none = refl
reverts-none txn point (r ∷ rs) none = grind (arith, reverts-none txn point rs)

lives-filter : (txn : ℕ) (test : Pending → Bool) (pending : List Pending) → lives txn pending ≡ false → lives txn (filter test pending) ≡ false
lives-filter txn test [] none = refl
lives-filter txn test (r ∷ rs) none = cond_both (test r) (r ∷ filter test rs) (filter test rs) (λ xs. lives txn xs ≡ false)
    (λ _. grind (arith, lives-filter txn test rs)) (λ _. lives-filter txn test rs (grind (arith)))

module _ (plant : List Actuator) (d : Persistent) (s : Stages) (owner : ℕ) (policy : Policy) (writes : List Setting) (n : ℕ) (sound : IsSoundPersistent plant d) (stands : StandsFor s d) (some : 1 ≤ length writes) where
  abbrev new : List Lease
  new = granted owner policy d.next n writes

  abbrev pub gone : Lease → Bool
  gone l = is_taken new l.point l.priority

  abbrev pub broken : Pending → Bool
  broken r = is_taken new r.point r.priority

  abbrev how : Lease → Option End
  how = superseded_end new d.next n

  abbrev of_lease : Lease → List Telling
  of_lease l = one_if (gone l) (plain (superseded d.next n l))

  abbrev of_pending : Pending → List Telling
  of_pending r = one_if (broken r) (plain (cut d.next n r))

  abbrev lease_left : Lease → Bool
  lease_left l = false

  abbrev pending_left : Pending → Bool
  pending_left r = not (broken r)

  abbrev rest : List Lease
  rest = filter (λ l. not (gone l)) d.leases

  abbrev leases2 : List Lease
  leases2 = in_order lease_slot (rest ++ new)

  abbrev pending2 : List Pending
  pending2 = filter (λ r. not (broken r)) d.pending

  abbrev R : Transaction → Transaction
  R = record_after how d.leases

  of-lease : (l : Lease) → IsOfLease (how l) (lease_left l) l (of_lease l)
  of-lease l = ⊎_elim
      (λ taken. subst (λ b. IsOfLease (cond b (Some (record { cause = cause.Superseded d.next; at = n })) None) false l (one_if b (plain (superseded d.next n l)))) (sym taken)
      (record { own = (own-on l.txn l.point, tt); owned = (refl, tt); rising = (tt, tt); fits = (refl, tt); ends = refl; pends = refl }))
      (λ free. subst (λ b. IsOfLease (cond b (Some (record { cause = cause.Superseded d.next; at = n })) None) false l (one_if b (plain (superseded d.next n l)))) (sym free)
      (record { own = tt; owned = tt; rising = tt; fits = tt; ends = refl; pends = refl }))
      (cases_Bool (gone l))

  of-pending : (r : Pending) → IsOfPending (pending_left r) r (of_pending r)
  of-pending r = ⊎_elim
      (λ taken. subst (λ b. IsOfPending (not b) r (one_if b (plain (cut d.next n r)))) (sym taken)
      (record { own = (own-on r.txn r.point, tt); owned = (refl, tt); rising = (tt, tt); fits = λ live. (refl, tt); ends = λ end. refl; pends = refl }))
      (λ free. subst (λ b. IsOfPending (not b) r (one_if b (plain (cut d.next n r)))) (sym free)
      (record { own = tt; owned = tt; rising = tt; fits = λ live. tt; ends = λ end. refl; pends = refl }))
      (cases_Bool (broken r))

  free-stays : (l : Lease) → is_none (how l) ≡ true → gone l ≡ false
  free-stays l none = ⊎_elim
      (λ taken. absurd (let e : false ≡ true = ap (λ b. is_none {T = End} (cond b (Some (record { cause = cause.Superseded d.next; at = n })) None)) (sym taken) ∙ none in cc))
      (λ free. free)
      (cases_Bool (gone l))

  -- the lives of old transactions rest on old leases
  lives-old : (txn : ℕ) → (d.next == txn) ≡ false → lives txn (map reversion_of leases2) ≡ lives txn (map reversion_of rest)
  lives-old txn apart =
      any-map (λ c. c.txn == txn) reversion_of leases2
      ∙ any-in_order (λ l. l.txn == txn) lease_slot (rest ++ new)
      ∙ any-append (λ l. l.txn == txn) rest new
      ∙ ap (λ b. list_any (λ l. l.txn == txn) rest || b) (new-others owner policy d.next n txn writes apart)
      ∙ or_false (list_any (λ l. l.txn == txn) rest)
      ∙ sym (any-map (λ c. c.txn == txn) reversion_of rest)
    where
      or_false : (b : Bool) → (b || false) ≡ b
      or_false true = refl
      or_false false = refl

  old-numbers : AllByRecursion (λ t. (d.next == t.txn) ≡ false) (map R d.txns)
  old-numbers = each-mapped (λ t. (d.next == t.txn) ≡ false) R d.txns (each-map (IsTransaction plant d) (λ t. (d.next == t.txn) ≡ false)
      (λ t is. let early : t.txn < d.next = is.given in grind (arith, nat_tests)) d.txns sound.txns)

  open-parts : AllByRecursion (λ l. has_part is_none (map R d.txns) l.txn l.point l.priority ≡ true) rest
  open-parts =
      let O = λ (l : Lease). has_part is_none d.txns l.txn l.point l.priority ≡ true in
      let F = λ (l : Lease). lease_of_part d.leases l.txn l.point l.priority ≡ Some l in
      each-map (λ l. (not (gone l) ≡ true) × (O l × F l)) (λ l. has_part is_none (map R d.txns) l.txn l.point l.priority ≡ true)
      (λ l all. has-after is_none is_none how d.leases d.txns l.txn l.point l.priority
      (λ end is. part-open-stays how d.leases l end all.1.1 (let out : gone l ≡ false = grind (arith) in ap (λ b. cond b (Some (record { cause = cause.Superseded d.next; at = n })) None) out) is) all.1.0)
      rest (each-both (λ l. not (gone l) ≡ true) (λ l. O l × F l) rest (each-passed (λ l. not (gone l) ≡ true) (λ l. not (gone l)) (λ l passed. passed) d.leases)
      (each-filter (λ l. O l × F l) (λ l. not (gone l)) d.leases (each-both O F d.leases sound.open_parts (self-found d.leases sound.lease_slots))))

  abbrev outcome : Outcome
  outcome = record { first = []; of_lease = of_lease; of_pending = of_pending; how = how; lease_left = lease_left; pending_left = pending_left; pending = pending2; leases = leases2 }

  is : IsGathered d outcome
  is = record {
    silent = tt;
    informed = tt;
    single = tt;
    of_leases = each-always (λ l. IsOfLease (how l) (lease_left l) l (of_lease l)) of-lease d.leases;
    of_pendings = each-always (λ r. IsOfPending (pending_left r) r (of_pending r)) of-pending d.pending;
    left = λ txn point. any-filter (pending_key txn point) (λ r. not (broken r)) d.pending
        ∙ ap (λ b. b || list_any (λ r. pending_key txn point r && not (broken r)) d.pending) (sym (none-tested (lease_key txn point) d.leases));
    opened = each-mapped (IsOpen leases2) R d.txns (each-map (IsTransaction plant d) (λ t. IsOpen leases2 (R t))
        (λ t o. each-mapped (λ part. is_none part.end ≡ true → holds leases2 t.txn part.point part.priority ≡ true) (part_after how d.leases t.txn) t.parts
        (each-map (IsPart plant d.now t.txn d.leases) (λ part. is_none (part_after how d.leases t.txn part).end ≡ true → holds leases2 t.txn part.point part.priority ≡ true)
        (λ part p free.
        let test = λ (l : Lease). (l.txn == t.txn) && ((l.point == part.point) && (l.priority == part.priority)) in
        any-in_order test lease_slot (rest ++ new) ∙ any-append test rest new
        ∙ ap (λ b. b || list_any test new) (open-after gone how d.leases t.txn part.point part.priority part.end free-stays p.open_part free)) t.parts o.parts)) d.txns sound.txns);
    lived = each-map (λ t. ((d.next == t.txn) ≡ false) × IsLived rest t) (IsLived leases2) (λ t both alive. both.1 (sym (lives-old t.txn both.0) ∙ alive)) (map R d.txns)
        (each-both (λ t. (d.next == t.txn) ≡ false) (IsLived rest) (map R d.txns) old-numbers
        (leases-lived (map R d.txns) rest (Rising-same number_rank d.txns (map R d.txns) (numbers-same how d.leases d.txns) sound.numbers)
        (each-mapped PointsOnce R d.txns (each-map (IsTransaction plant d) (λ t. PointsOnce (R t)) (λ t o. subst Distinct (sym (points-same how d.leases t.txn t.parts)) o.points) d.txns sound.txns))
        open-parts));
  }

  abbrev all : List Telling
  all = gathered d outcome

  abbrev hs : List Happening
  hs = map (superseded d.next n) (filter gone d.leases) ++ map (cut d.next n) (filter broken d.pending)

  all-is : all ≡ replaced_tellings gone broken d.next n d
  all-is = (λ i. one-each gone (λ l. plain (superseded d.next n l)) d.leases i ++ one-each broken (λ r. plain (cut d.next n r)) d.pending i)
      ∙ (λ i. sym (map-map plain (superseded d.next n) (filter gone d.leases)) i ++ sym (map-map plain (cut d.next n) (filter broken d.pending)) i)
      ∙ sym (map-append plain (map (superseded d.next n) (filter gone d.leases)) (map (cut d.next n) (filter broken d.pending)))

  abbrev IsNow : Telling → Type 0
  IsNow e = is_end e.happening.told ≡ true → e.happening.at ≡ n

  all-now : AllByRecursion IsNow (replaced_tellings gone broken d.next n d)
  all-now = each-mapped IsNow plain hs (each-append (λ h. IsNow (plain h)) (map (superseded d.next n) (filter gone d.leases)) (map (cut d.next n) (filter broken d.pending))
      (each-mapped (λ h. IsNow (plain h)) (superseded d.next n) (filter gone d.leases) (each-always (λ l. IsNow (plain (superseded d.next n l))) (λ l _. refl) (filter gone d.leases)))
      (each-mapped (λ h. IsNow (plain h)) (cut d.next n) (filter broken d.pending) (each-always (λ r. IsNow (plain (cut d.next n r))) (λ r _. refl) (filter broken d.pending))))

  so : AreTimely (over_last plant d s sound stands outcome is) (λ txn. n) (in_order told_rank all)
  so = at-once (over_last plant d s sound stands outcome is) n (in_order told_rank all) (each-in_order IsNow told_rank all (subst (AllByRecursion IsNow) (sym all-is) all-now))

  abbrev the_group : List Happening
  the_group = group plant d s sound stands outcome is (λ txn. n) so

  abbrev dies : Transaction → Bool
  dies t = dead plant d s sound stands outcome is t.txn

  abbrev first : Transaction
  first = begun owner policy d.next writes

  next-not : lives d.next (courses d.pending d.leases) ≡ false
  next-not = next-lives-not plant d sound

  group-is : the_group ≡ in_order rank (hs ++ map (done_at n) (filter dies (map R d.txns ++ first ∷ [])))
  group-is = λ i. in_order rank ((ap (map (λ e. e.happening)) all-is ∙ map-plain hs) i
      ++ (done-kept (done_at n) dies R d.txns
      ∙ ap (map (done_at n)) (sym (filter-append dies (map R d.txns) (first ∷ [])
      ∙ ap (λ b. filter dies (map R d.txns) ++ cond (b && not (lives d.next (courses pending2 leases2))) (first ∷ []) []) next-not
      ∙ append-nil (filter dies (map R d.txns))))) i)

  next-lives : lives d.next (courses pending2 leases2) ≡ true
  next-lives = lives-courses d.next pending2 leases2
      ∙ ap (λ b. lives d.next pending2 || b) (any-map (λ c. c.txn == d.next) reversion_of leases2 ∙ any-in_order (λ l. l.txn == d.next) lease_slot (rest ++ new)
      ∙ any-append (λ l. l.txn == d.next) rest new ∙ ap (λ b. list_any (λ l. l.txn == d.next) rest || b) (new-own owner policy d.next n writes some) ∙ or_true (list_any (λ l. l.txn == d.next) rest))
      ∙ or_true (lives d.next pending2)
    where
      or_true : (b : Bool) → (b || true) ≡ true
      or_true true = refl
      or_true false = refl

  none-pending : lives d.next pending2 ≡ false
  none-pending = lives-filter d.next (λ r. not (broken r)) d.pending (first_false (lives d.next d.pending) (lives d.next (map reversion_of d.leases)) (sym (lives-courses d.next d.pending d.leases) ∙ next-not))
    where
      first_false : (a b : Bool) → (a || b) ≡ false → a ≡ false
      first_false true b none = none
      first_false false b none = refl

  abbrev after : Persistent
  after = submitted owner policy writes n d

  submit-booked : (k : Tracked) → k.transaction ≡ begun owner policy d.next writes → k.reverting ≡ [] → AreBooksOf (books_with k (booked_all s d.processes (replaced_tellings gone broken d.next n d))) after
  submit-booked k is_begun none = subst (λ xs. AreBooksOf (books_with k (booked_all s d.processes xs)) after) all-is (record {
    processes = told plant d s sound stands outcome is (λ txn. n) so ∙ ap (fold tell d.processes) group-is;
    stands = record {
      txns = map-append (λ x. x.transaction) (booked_all s d.processes all).stages.kept (k ∷ [])
          ∙ (λ i. (records plant d s sound stands outcome is (λ txn. n) so
          ∙ ap (λ xs. kept (courses pending2 leases2) (fold finish d.done xs) (map R d.txns)) group-is) i ++ is_begun i ∷ [])
          ∙ sym (filter-append (λ t. lives t.txn (courses pending2 leases2) || member t.txn after.done) (map R d.txns) (first ∷ [])
          ∙ ap (λ b. kept (courses pending2 leases2) after.done (map R d.txns) ++ cond (b || member d.next after.done) (first ∷ []) []) next-lives);
      done = finished plant d s sound stands outcome is (λ txn. n) so ∙ ap (fold finish d.done) group-is;
      reverting =
          let P = λ (x : Tracked). (point : ℕ) → member point x.reverting ≡ reverts_on (number x) point pending2 in
          each-append P (booked_all s d.processes all).stages.kept (k ∷ [])
          (reverting plant d s sound stands outcome is (λ txn. n) so)
          ((λ point. ap (member point) none ∙ sym (ap (λ t. reverts_on t.txn point pending2) is_begun ∙ reverts-none d.next point pending2 none-pending)), tt);
    };
  })

  -- its record may be begun before
  pub slots-come : (k : Tracked) → k.transaction ≡ begun owner policy d.next writes → k.reverting ≡ [] →
      ComesTo after (with_begun k s) d.processes (replaced_tellings gone broken d.next n d)
  slots-come k is_begun none = record {
    bookable = record {
      apart = subst (AreApart told_rank) all-is (told-apart plant d s sound stands outcome is);
      there = subst (CanBookAll (with_begun k s) d.processes) all-is (may-book-begun plant d s sound stands outcome is k (ap (λ t. t.txn) is_begun));
      informed = subst (AllByRecursion (IsInformed (length d.processes))) all-is (all-informed plant d s sound stands outcome is);
    };
    books = subst (λ b. AreBooksOf b after)
        (sym (subst (λ xs. booked_all (with_begun k s) d.processes xs ≡ books_with k (booked_all s d.processes xs)) all-is
        (begun-before plant d s sound stands outcome is k (ap (λ t. t.txn) is_begun))))
        (submit-booked k is_begun none);
  }
