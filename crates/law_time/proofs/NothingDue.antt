-- Where nothing is due, a tick changes nothing.
use Rattle.std.proofs.Common.{◌≡◌, ℕ, ◌<◌, ◌≤◌, nat_lt, nat_le, List, [], ◌∷◌, ◌++◌, true, false, not, ◌&&◌, ◌||◌, map, Option, Some, None, refl, ap, sym, ◌∙◌, subst, arith, append-nil}
use Rattle.std.specs.List.{fold, flat_map, AllByRecursion}
use Rattle.std.proofs.lemmas.Bool.Decides.{nat_tests}
use Rattle.boss_model.specs.declared.command.Step.{Step}
use Rattle.boss_model.specs.declared.state.Actuator.{Actuator}
use Rattle.boss_model.specs.declared.state.Lease.{Lease}
use Rattle.boss_model.specs.declared.state.Pending.{Pending}
use Rattle.boss_model.specs.Happenings.{turned, reverted, happenings, lives, done_last, finish, tell, later}
use Rattle.boss_model.specs.Lists.{member}
use Rattle.boss_model.specs.Order.{in_order}
use Rattle.boss_model.specs.Records.{End, Part, Transaction}
use Rattle.boss_model.specs.Reversions.{turns, end_of, reversion_of, courses}
use Rattle.boss_model.specs.Sound.{IsSoundPersistent, IsLease, IsPending}
use Rattle.boss_model.specs.State.{pending_slot, Persistent}
use Rattle.boss_model.specs.Time.{live, under_way, left, due, kept, lease_of_part, end_after, part_after, record_after, expired, tick_to}
use Rattle.law_time.proofs.Coming.{now_after, quiet}
use Rattle.law_time.proofs.Courses.{end-later}
use Rattle.law_time.proofs.Filters.{filter-append, filter-none, filter-all, filter-map, each-mapped, each-unmapped}
use Rattle.law_time.proofs.Orders.{each-append, each-in_order, each-map, each-both, each-front, each-back, each-unordered, filter-in_order, in_order-Rising}
use Rattle.law_time.proofs.TickLaw.{IsTimed, started-by}

pub sound-timed : (plant : List Actuator) (d : Persistent) → IsSoundPersistent plant d → IsTimed d
sound-timed plant d sound = record {
  started = each-map (IsPending plant d.now) (λ r. r.start ≤ d.now) (λ r is. is.started) d.pending sound.pending;
  slots = sound.slots;
}

-- ---- the ends of reversions

reverted-last : (P : ℕ → Type 0) (r : Pending) (steps : List Step) → AllByRecursion (λ h. P h.at) (reverted r steps) → P r.start → r.steps ≡ steps → P (end_of r)
reverted-last P r [] told start same = subst (λ steps. P (end_of (record r { steps = steps }))) (sym same) start
reverted-last P r (step ∷ steps) told start same = told.0

ends-told : (P : ℕ → Type 0) (cs : List Pending) → AllByRecursion (λ h. P h.at) (flat_map happenings cs) → AllByRecursion (λ c. P (end_of c)) cs
ends-told P [] all = tt
ends-told P (c ∷ cs) all =
    let here : AllByRecursion (λ h. P h.at) (happenings c) = each-front (λ h. P h.at) (happenings c) (flat_map happenings cs) all in (
      reverted-last P c c.steps (each-back (λ h. P h.at) (map (turned c) (turns c.start c.steps)) (reverted c c.steps) here.1) here.0 refl,
      ends-told P cs (each-back (λ h. P h.at) (happenings c) (flat_map happenings cs) all),
    )

-- a reversion that is over by n is over by the last due moment
pub ended-by : (n now : ℕ) (cs : List Pending) (txns : List Transaction) → AllByRecursion (λ c. end_of c ≤ n → end_of c ≤ now_after n now cs txns) cs
ended-by n now cs txns = ends-told (λ t. t ≤ n → t ≤ now_after n now cs txns) cs
    (each-front (λ h. h.at ≤ n → h.at ≤ now_after n now cs txns) (flat_map happenings cs) (map (done_last cs) txns) (quiet n now cs txns))

-- a fact of all reversions is one of those under way, and one of those that leases will start
pub of-pending : (P : Pending → Type 0) (pending : List Pending) (leases : List Lease) → AllByRecursion P (courses pending leases) → AllByRecursion P pending
of-pending P pending leases all = each-front P pending (map reversion_of leases) (each-unordered P pending_slot (pending ++ map reversion_of leases) all)

pub of-leases : (P : Pending → Type 0) (pending : List Pending) (leases : List Lease) → AllByRecursion P (courses pending leases) → AllByRecursion (λ lease. P (reversion_of lease)) leases
of-leases P pending leases all = each-unmapped P reversion_of leases (each-back P pending (map reversion_of leases) (each-unordered P pending_slot (pending ++ map reversion_of leases) all))

-- ---- records

pub found : (P : Lease → Type 0) (leases : List Lease) (txn point priority : ℕ) (end : Option End) (how : Lease → Option End) →
    AllByRecursion (λ lease. how lease ≡ None) leases → end_after how (lease_of_part leases txn point priority) end ≡ end
found P leases txn point priority (Some end) how none = refl
found P [] txn point priority None how none = refl
found P (lease ∷ leases) txn point priority None how none = grind (arith, none.0, found P leases txn point priority None how none.1)

parts-stay : (leases : List Lease) (txn : ℕ) (how : Lease → Option End) (parts : List Part) → AllByRecursion (λ lease. how lease ≡ None) leases →
    map (part_after how leases txn) parts ≡ parts
parts-stay leases txn how [] none = refl
parts-stay leases txn how (part ∷ parts) none =
    λ i. record part { end = found (λ lease. how lease ≡ None) leases txn part.point part.priority part.end how none i } ∷ parts-stay leases txn how parts none i

-- where no lease ends, no record changes
pub records-stay : (leases : List Lease) (how : Lease → Option End) (txns : List Transaction) → AllByRecursion (λ lease. how lease ≡ None) leases →
    map (record_after how leases) txns ≡ txns
records-stay leases how [] none = refl
records-stay leases how (t ∷ ts) none = λ i. record t { parts = parts-stay leases t.txn how t.parts none i } ∷ records-stay leases how ts none i

-- ---- the tick

pub nothing-due : (plant : List Actuator) (d : Persistent) (n : ℕ) → IsSoundPersistent plant d → d.now ≤ n → due n d ≡ [] → tick_to n d ≡ d
nothing-due plant d n sound within none =
    let cs = courses d.pending d.leases in
    let now_same : now_after n d.now cs d.txns ≡ d.now = ap (fold later d.now) none in
    let starts : AllByRecursion (λ c. c.start ≤ n → c.start ≤ d.now) cs = subst (λ t. AllByRecursion (λ c. c.start ≤ n → c.start ≤ t) cs) now_same (started-by n d.now cs d.txns) in
    let ends : AllByRecursion (λ c. end_of c ≤ n → end_of c ≤ d.now) cs = subst (λ t. AllByRecursion (λ c. end_of c ≤ n → end_of c ≤ t) cs) now_same (ended-by n d.now cs d.txns) in
    let S = λ (c : Pending). c.start ≤ n → c.start ≤ d.now in
    let E = λ (c : Pending). end_of c ≤ n → end_of c ≤ d.now in
    let live_all : AllByRecursion (λ lease. n < lease.until) d.leases =
    each-map (λ lease. IsLease plant d.now lease × S (reversion_of lease)) (λ lease. n < lease.until)
    (λ lease both. let alive : d.now < lease.until = both.0.live in let early : lease.until ≤ n → lease.until ≤ d.now = both.1 in grind (arith))
    d.leases (each-both (IsLease plant d.now) (λ lease. S (reversion_of lease)) d.leases sound.leases (of-leases S d.pending d.leases starts)) in
    let running_all : AllByRecursion (λ r. (r.start ≤ n) × (n < end_of r)) d.pending =
    each-map (λ r. IsPending plant d.now r × E r) (λ r. (r.start ≤ n) × (n < end_of r))
    (λ r both. let on : d.now < end_of r = both.0.running in let begun : r.start ≤ d.now = both.0.started in let early : end_of r ≤ n → end_of r ≤ d.now = both.1 in
    (omega arith, grind (arith)))
    d.pending (each-both (IsPending plant d.now) E d.pending sound.pending (of-pending E d.pending d.leases ends)) in
    let leases_same : live n d.leases ≡ d.leases = filter-all (λ lease. nat_lt n lease.until) d.leases
    (each-map (λ lease. n < lease.until) (λ lease. nat_lt n lease.until ≡ true) (λ lease on. grind (arith, nat_tests)) d.leases live_all) in
    let test = λ (r : Pending). nat_le r.start n && nat_lt n (end_of r) in
    let pending_same : under_way n cs ≡ d.pending =
    filter-in_order pending_slot test (d.pending ++ map reversion_of d.leases)
    ∙ ap (in_order pending_slot) (filter-append test d.pending (map reversion_of d.leases)
    ∙ (λ i. filter-all test d.pending (each-map (λ r. (r.start ≤ n) × (n < end_of r)) (λ r. test r ≡ true) (λ r on. let a : r.start ≤ n = on.0 in let b : n < end_of r = on.1 in grind (arith, nat_tests)) d.pending running_all) i
    ++ (filter-map test reversion_of d.leases ∙ ap (map reversion_of) (filter-none (λ lease. test (reversion_of lease)) d.leases
    (each-map (λ lease. n < lease.until) (λ lease. test (reversion_of lease) ≡ false) (λ lease on. grind (arith, nat_tests)) d.leases live_all))) i)
    ∙ append-nil d.pending)
    ∙ in_order-Rising pending_slot d.pending sound.pending_slots in
    let over_all : AllByRecursion (λ c. n < end_of c) cs = each-in_order (λ c. n < end_of c) pending_slot (d.pending ++ map reversion_of d.leases)
    (each-append (λ c. n < end_of c) d.pending (map reversion_of d.leases)
    (each-map (λ r. (r.start ≤ n) × (n < end_of r)) (λ c. n < end_of c) (λ r on. on.1) d.pending running_all)
    (each-mapped (λ c. n < end_of c) reversion_of d.leases (each-map (λ lease. n < lease.until) (λ lease. n < end_of (reversion_of lease))
    (λ lease on. omega (arith, end-later (reversion_of lease))) d.leases live_all))) in
    let left_same : left n cs ≡ cs = filter-all (λ c. nat_lt n (end_of c)) cs
    (each-map (λ c. n < end_of c) (λ c. nat_lt n (end_of c) ≡ true) (λ c on. grind (arith, nat_tests)) cs over_all) in
    let records_same : map (record_after (expired n) d.leases) d.txns ≡ d.txns = records-stay d.leases (expired n) d.txns
    (each-map (λ lease. n < lease.until) (λ lease. expired n lease ≡ None) (λ lease on. grind (arith, nat_tests)) d.leases live_all) in
    let done_same : fold finish d.done (due n d) ≡ d.done = ap (fold finish d.done) none in
    let txns_same : (tick_to n d).txns ≡ d.txns =
    (λ i. kept (left_same i) (done_same i) (records_same i))
    ∙ filter-all (λ t. lives t.txn cs || member t.txn d.done) d.txns
    (each-map (λ t. member t.txn d.done ≡ not (lives t.txn cs)) (λ t. (lives t.txn cs || member t.txn d.done) ≡ true) (λ t done. grind (arith, nat_tests)) d.txns sound.done) in
    λ i. record {
      now = now_same i;
      next = d.next;
      leases = leases_same i;
      pending = pending_same i;
      txns = txns_same i;
      done = done_same i;
      processes = ap (fold tell d.processes) none i;
    }
