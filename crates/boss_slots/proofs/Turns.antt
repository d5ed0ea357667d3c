-- The moments at which the steps of a reversion end, and the last of those up to a moment.
use Rattle.std.proofs.Common.{◌≡◌, ℕ, ◌+◌, ◌<◌, ◌≤◌, max, nat_lt, nat_le, List, [], ◌∷◌, ◌&&◌, Option, Some, None, refl, sym, subst, arith}
use Rattle.std.specs.List.{filter, find, fold, AllByRecursion}
use Rattle.std.proofs.lemmas.Bool.{cond_both}
use Rattle.std.proofs.lemmas.Bool.Decides.{nat_tests}
use Rattle.boss_model.specs.declared.command.Step.{Step}
use Rattle.boss_model.specs.declared.state.Lease.{Lease}
use Rattle.boss_model.specs.declared.state.Pending.{Pending}
use Rattle.boss_model.specs.Reversions.{hold, over, turns, value_from}
use Rattle.law_time.proofs.Orders.{each-map}
use Rattle.law_time.proofs.Courses.{over-later}
use Rattle.law_due.specs.Due.{last_of_lease, last_of_pending}
use Rattle.law_due.specs.Playing.{last_turn}
use Rattle.boss_reversion.specs.Playing.{next_boundary}
use Rattle.boss_slots.specs.Ending.{AreBy, IsLeaseBy, IsPendingBy}
use Rattle.boss_slots.specs.Tables.{IsAwaited}

-- ---- the next turn

turns-above : (start : ℕ) (steps : List Step) → AllByRecursion (λ turn. start ≤ turn) (turns start steps)
turns-above start [] = tt
turns-above start (step ∷ steps) = ((omega arith), each-map (λ turn. start + hold step ≤ turn) (λ turn. start ≤ turn) (λ turn later. omega arith) (turns (start + hold step) steps) (turns-above (start + hold step) steps))

-- the first turn after n is the least of them, and one of the reversion's
pub next-least : (start n next : ℕ) (steps : List Step) → find (λ turn. nat_lt n turn) (turns start steps) ≡ Some next →
    (n < next) × (next ≤ over start steps) × AllByRecursion (λ turn. n < turn → next ≤ turn) (turns start steps)
next-least start n next [] found = cc
next-least start n next (step ∷ steps) found = cond_both (nat_lt n (start + hold step)) (Some (start + hold step)) (find (λ turn. nat_lt n turn) (turns (start + hold step) steps))
    (λ o. o ≡ Some next → (n < next) × (next ≤ over start (step ∷ steps)) × ((n < start + hold step → next ≤ start + hold step) × AllByRecursion (λ turn. n < turn → next ≤ turn) (turns (start + hold step) steps)))
    (λ here is.
    let it : start + hold step ≡ next = cc in
    let late = over-later (start + hold step) steps in (
      (grind (arith, nat_tests)),
      (omega arith),
      (
        (λ _. omega arith),
        each-map (λ turn. start + hold step ≤ turn) (λ turn. n < turn → next ≤ turn) (λ turn later _. omega arith) (turns (start + hold step) steps) (turns-above (start + hold step) steps),
      ),
    ))
    (λ past is. let rest = next-least (start + hold step) n next steps is in (rest.0, rest.1, ((λ after. grind (arith, nat_tests)), rest.2))) found

pub next-none : (start n : ℕ) (steps : List Step) → start ≤ n → find (λ turn. nat_lt n turn) (turns start steps) ≡ None → over start steps ≤ n
next-none start n [] began none = began
next-none start n (step ∷ steps) began none = cond_both (nat_lt n (start + hold step)) (Some (start + hold step)) (find (λ turn. nat_lt n turn) (turns (start + hold step) steps))
    (λ o. o ≡ None → over (start + hold step) steps ≤ n) (λ _ wrong. cc) (λ past rest. next-none (start + hold step) n steps (grind (arith, nat_tests)) rest) none

one-awaited : (n last next t : ℕ) → (t ≤ n → t ≤ last) → (n < t → next ≤ t) → last < t → next ≤ t
one-awaited n last next t early late behind = cond_both {A = ℕ} (nat_le t n) 0 0 (λ _. next ≤ t) (λ up. let x : t ≤ n = grind (arith, nat_tests) in let y = early x in absurd (omega arith)) (λ past. late (grind (arith, nat_tests)))

-- a timer that is set to the first turn after n awaits all that comes after the last turn up to n
pub awaits-next : (n last next : ℕ) (r : Pending) → AreBy n last r.start r.steps → next_boundary r n ≡ Some next → IsAwaited last r (Some next)
awaits-next n last next r by is =
    let least = next-least r.start n next r.steps is in
    (least.1, after (turns r.start r.steps) by least.2)
  where
    after : (ts : List ℕ) → AllByRecursion (λ turn. turn ≤ n → turn ≤ last) ts → AllByRecursion (λ turn. n < turn → next ≤ turn) ts → AllByRecursion (λ turn. last < turn → next ≤ turn) ts
    after [] p q = tt
    after (t ∷ ts) p q = (one-awaited n last next t p.0 q.0, after ts p.1 q.1)

-- ---- the last turn up to n

AreBy-later : (n u v start : ℕ) (steps : List Step) → u ≤ v → AreBy n u start steps → AreBy n v start steps
AreBy-later n u v start steps later by = each-map (λ turn. turn ≤ n → turn ≤ u) (λ turn. turn ≤ n → turn ≤ v) (λ turn early up. let x = early up in omega arith) (turns start steps) by

pub LeaseBy-later : (n u v : ℕ) (o : Option Lease) → u ≤ v → IsLeaseBy n u o → IsLeaseBy n v o
LeaseBy-later n u v None later by = tt
LeaseBy-later n u v (Some lease) later by = λ ended. let x = by ended in let y = x.0 in ((omega arith), AreBy-later n u v lease.until lease.revert later x.1)

pub PendingBy-later : (n u v : ℕ) (o : Option Pending) → u ≤ v → IsPendingBy n u o → IsPendingBy n v o
PendingBy-later n u v None later by = tt
PendingBy-later n u v (Some r) later by = AreBy-later n u v r.start r.steps later by

abbrev greatest : ℕ → ℕ → ℕ → List ℕ → ℕ
greatest m n a ts = fold max a (filter (λ turn. nat_lt m turn && nat_le turn n) ts)

greatest-reaches : (m n a : ℕ) (ts : List ℕ) → m ≤ a → (a ≤ greatest m n a ts) × AllByRecursion (λ turn. turn ≤ n → turn ≤ greatest m n a ts) ts
greatest-reaches m n a [] from = ((omega arith), tt)
greatest-reaches m n a (t ∷ ts) from = cond_both (nat_lt m t && nat_le t n) (t ∷ filter (λ turn. nat_lt m turn && nat_le turn n) ts) (filter (λ turn. nat_lt m turn && nat_le turn n) ts)
    (λ xs. (a ≤ fold max a xs) × ((t ≤ n → t ≤ fold max a xs) × AllByRecursion (λ turn. turn ≤ n → turn ≤ fold max a xs) ts))
    (λ _. let rest = greatest-reaches m n (max a t) ts (omega arith) in let r0 = rest.0 in ((omega arith), ((λ _. omega arith), rest.1)))
    (λ other. let rest = greatest-reaches m n a ts from in let r0 = rest.0 in (r0, ((λ up. grind (arith, nat_tests)), rest.1)))

greatest-least : (m n a u : ℕ) (ts : List ℕ) → a ≤ u → AllByRecursion (λ turn. turn ≤ n → turn ≤ u) ts → greatest m n a ts ≤ u
greatest-least m n a u [] from by = from
greatest-least m n a u (t ∷ ts) from by = cond_both (nat_lt m t && nat_le t n) (t ∷ filter (λ turn. nat_lt m turn && nat_le turn n) ts) (filter (λ turn. nat_lt m turn && nat_le turn n) ts)
    (λ xs. fold max a xs ≤ u)
    (λ yes. let within : t ≤ n = grind (arith, nat_tests) in let x = by.0 within in greatest-least m n (max a t) u ts (omega arith) by.1)
    (λ _. greatest-least m n a u ts from by.1)

pub last_turn-later : (start : ℕ) (steps : List Step) (m n : ℕ) → m ≤ last_turn start steps m n
last_turn-later start steps m n = (greatest-reaches m n m (turns start steps) (omega arith)).0

pub last_turn-by : (start : ℕ) (steps : List Step) (m n : ℕ) → AreBy n (last_turn start steps m n) start steps
last_turn-by start steps m n = (greatest-reaches m n m (turns start steps) (omega arith)).1

pub last_turn-least : (start : ℕ) (steps : List Step) (m n u : ℕ) → m ≤ u → AreBy n u start steps → last_turn start steps m n ≤ u
last_turn-least start steps m n u from by = greatest-least m n m u (turns start steps) from by

pub last_turn-reached : (start : ℕ) (steps : List Step) (m n : ℕ) → m ≤ n → last_turn start steps m n ≤ n
last_turn-reached start steps m n from = last_turn-least start steps m n n from (each-always (turns start steps))
  where
    each-always : (ts : List ℕ) → AllByRecursion (λ turn. turn ≤ n → turn ≤ n) ts
    each-always [] = tt
    each-always (t ∷ ts) = ((λ up. up), each-always ts)

-- ---- of a lease, and of a reversion

pub of_lease-is : (n m : ℕ) (lease : Lease) → lease.until ≤ n → last_of_lease n m lease ≡ last_turn lease.until lease.revert (max m lease.until) n
of_lease-is n m lease ended = cond_both (nat_le lease.until n) (last_turn lease.until lease.revert (max m lease.until) n) m (λ x. x ≡ last_turn lease.until lease.revert (max m lease.until) n) (λ _. refl) (λ wrong. absurd (grind (arith, nat_tests)))

pub of_lease-later : (n m : ℕ) (lease : Lease) → m ≤ last_of_lease n m lease
of_lease-later n m lease = cond_both (nat_le lease.until n) (last_turn lease.until lease.revert (max m lease.until) n) m (λ x. m ≤ x)
    (λ _. omega (arith, last_turn-later lease.until lease.revert (max m lease.until) n)) (λ _. omega arith)

pub of_lease-by : (n m : ℕ) (lease : Lease) → IsLeaseBy n (last_of_lease n m lease) (Some lease)
of_lease-by n m lease ended =
    subst (λ u. (lease.until ≤ u) × AreBy n u lease.until lease.revert) (sym (of_lease-is n m lease ended))
    ((omega (arith, last_turn-later lease.until lease.revert (max m lease.until) n)), last_turn-by lease.until lease.revert (max m lease.until) n)

pub of_lease-least : (n m u : ℕ) (lease : Lease) → m ≤ u → IsLeaseBy n u (Some lease) → last_of_lease n m lease ≤ u
of_lease-least n m u lease from by = cond_both (nat_le lease.until n) (last_turn lease.until lease.revert (max m lease.until) n) m (λ x. x ≤ u)
    (λ ended. let x = by (grind (arith, nat_tests)) in let y = x.0 in last_turn-least lease.until lease.revert (max m lease.until) n u (omega arith) x.1) (λ _. from)

pub of_lease-reached : (n m : ℕ) (lease : Lease) → m ≤ n → last_of_lease n m lease ≤ n
of_lease-reached n m lease from = cond_both (nat_le lease.until n) (last_turn lease.until lease.revert (max m lease.until) n) m (λ x. x ≤ n)
    (λ ended. last_turn-reached lease.until lease.revert (max m lease.until) n (grind (arith, nat_tests))) (λ _. from)

-- ---- of all

pub leases-reach : (n m : ℕ) (ls : List Lease) → (m ≤ fold (last_of_lease n) m ls) × AllByRecursion (λ l. IsLeaseBy n (fold (last_of_lease n) m ls) (Some l)) ls
leases-reach n m [] = ((omega arith), tt)
leases-reach n m (l ∷ ls) =
    let rest = leases-reach n (last_of_lease n m l) ls in
    let r0 = rest.0 in
    ((omega (arith, of_lease-later n m l)), (LeaseBy-later n (last_of_lease n m l) (fold (last_of_lease n) (last_of_lease n m l) ls) (Some l) r0 (of_lease-by n m l), rest.1))

pub leases-least : (n m u : ℕ) (ls : List Lease) → m ≤ u → AllByRecursion (λ l. IsLeaseBy n u (Some l)) ls → fold (last_of_lease n) m ls ≤ u
leases-least n m u [] from by = from
leases-least n m u (l ∷ ls) from by = leases-least n (last_of_lease n m l) u ls (of_lease-least n m u l from by.0) by.1

pub pending-reach : (n m : ℕ) (rs : List Pending) → (m ≤ fold (last_of_pending n) m rs) × AllByRecursion (λ r. IsPendingBy n (fold (last_of_pending n) m rs) (Some r)) rs
pending-reach n m [] = ((omega arith), tt)
pending-reach n m (r ∷ rs) =
    let rest = pending-reach n (last_of_pending n m r) rs in
    let r0 = rest.0 in
    ((omega (arith, last_turn-later r.start r.steps m n)), (PendingBy-later n (last_of_pending n m r) (fold (last_of_pending n) (last_of_pending n m r) rs) (Some r) r0 (last_turn-by r.start r.steps m n), rest.1))

pub pending-least : (n m u : ℕ) (rs : List Pending) → m ≤ u → AllByRecursion (λ r. IsPendingBy n u (Some r)) rs → fold (last_of_pending n) m rs ≤ u
pending-least n m u [] from by = from
pending-least n m u (r ∷ rs) from by = pending-least n (last_of_pending n m r) u rs (last_turn-least r.start r.steps m n u from by.0) by.1

-- ---- values

-- where no step ends after `now` and up to n, the value stays
pub value-stays : (start now m n : ℕ) (steps : List Step) → start ≤ now → now ≤ m → m ≤ n → AllByRecursion (λ turn. now < turn → n < turn) (turns start steps) → value_from start steps m ≡ value_from start steps now
value-stays start now m n [] began later up quiet = refl
value-stays start now m n (step ∷ steps) began later up quiet =
    let first = quiet.0 in
    let rest : start + hold step ≤ now → value_from (start + hold step) steps m ≡ value_from (start + hold step) steps now = λ past. value-stays (start + hold step) now m n steps past later up quiet.1 in
    grind (arith, nat_tests)

-- steps that start at n end no sooner
pub by-start : (n : ℕ) (steps : List Step) → AreBy n n n steps
by-start n steps = each-map (λ turn. n ≤ turn) (λ turn. turn ≤ n → turn ≤ n) (λ turn later up. up) (turns n steps) (turns-above n steps)
