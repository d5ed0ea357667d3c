-- Leases and reversions that take their slots again, and the lists that they then are.
use Rattle.std.proofs.Common.{◌≡◌, ℕ, ◌<◌, ◌≤◌, ◌==◌, nat_lt, List, [], ◌∷◌, ◌++◌, map, Bool, true, false, ◌&&◌, ◌||◌, cond, Option, Some, None, refl, ap, sym, ◌∙◌, subst, inl, inr, arith}
use Rattle.std.specs.Option.{option_or}
use Rattle.std.specs.List.{find, list_any, AllByRecursion}
use Rattle.std.proofs.lemmas.Bool.{cond_both}
use Rattle.std.proofs.lemmas.Bool.Decides.{nat_tests}
use Rattle.std.proofs.lemmas.List.Folds.{find-append}
use Rattle.boss_model.specs.declared.state.Lease.{Lease}
use Rattle.boss_model.specs.declared.state.Pending.{Pending}
use Rattle.boss_model.specs.declared.command.Step.{Step}
use Rattle.boss_model.specs.Order.{comes_before}
use Rattle.boss_model.specs.Reversions.{end_of, turns, reversion_of, courses}
use Rattle.boss_model.specs.Sound.{Rising}
use Rattle.boss_model.specs.State.{lease_slot, pending_slot}
use Rattle.law_soundness.proofs.SubmitSound.{apart-turn, Rising-Pairs, Pairs-unordered, Pairs-cross}
use Rattle.law_time.proofs.Filters.{each-always, each-unmapped, Apart}
use Rattle.law_time.proofs.Orders.{each-map, each-both, in_order-Rising}
use Rattle.law_time.proofs.Slots.{any-append}
use Rattle.law_time.proofs.TickSound.{Pairs}
use Rattle.boss_slots.specs.Ending.{AreBy}
use Rattle.boss_holdings.specs.Held.{AreApart, is_at}
use Rattle.boss_holdings.specs.Putting.{ArePlacedApart, in_place}
use Rattle.boss_slots.specs.declared.tables.Tables.{Tables}
use Rattle.boss_slots.specs.Slots.{all, keep}
use Rattle.boss_slots.specs.Tables.{IsMoved, lease_at, pending_at}
use Rattle.boss_slots.proofs.BySlot.{all-same, all-in_order, found-at, found-new}
use Rattle.boss_slots.proofs.Kept.{one-or-other}

-- ---- one reversion more

pub placed-front : (xs : List Pending) (x : Pending) → ArePlacedApart (xs ++ x ∷ []) → ArePlacedApart xs × (list_any (in_place x.point x.priority) xs ≡ false)
placed-front [] x apart = (tt, refl)
placed-front (y ∷ ys) x apart =
    let rest = placed-front ys x apart.1 in
    let both = any-append (λ (r : Pending). (r.point == y.point) && (r.priority == y.priority)) ys (x ∷ []) in
    let none = apart.0 in let r1 = rest.1 in
    (((grind (arith, nat_tests)), rest.0), (grind (arith, nat_tests)))

none-placed : (xs : List Pending) (p q : ℕ) → list_any (in_place p q) xs ≡ false → AllByRecursion (λ (y : Pending). y.point ≡ p → y.priority ≡ q → ⊥) xs
none-placed [] p q none = tt
none-placed (x ∷ xs) p q none = ((λ one two. let here : ((x.point == p) && (x.priority == q)) ≡ true = grind (arith, nat_tests) in absurd (grind (arith, here))), none-placed xs p q (grind (arith, none)))

-- what was found in no slot but that of the last one
placed-last : (xs : List Pending) (x : Pending) (p q : ℕ) (o : Option Pending) → option_or (find (in_place p q) (xs ++ x ∷ [])) o ≡ option_or (find (in_place p q) xs) (cond (in_place p q x) (Some x) o)
placed-last xs x p q o = ap (λ f. option_or f o) (find-append (in_place p q) xs (x ∷ [])) ∙ joined (find (in_place p q) xs) (in_place p q x)
  where
    joined : (f : Option Pending) (b : Bool) → option_or (option_or f (cond b (Some x) None)) o ≡ option_or f (cond b (Some x) o)
    joined None true = refl
    joined None false = refl
    joined (Some y) b = refl

-- a reversion that goes on is put in
pub going-on : (now after : Tables) (x : Pending) (n : ℕ) → n < end_of x → IsMoved now after x.point x.priority None (keep (λ r. nat_lt n (end_of r)) (Some x)) →
    IsMoved now after x.point x.priority None (Some x)
going-on now after x n running moved =
    let goes : nat_lt n (end_of x) ≡ true = grind (arith, nat_tests) in
    subst (IsMoved now after x.point x.priority None) (ap (λ b. cond b (Some x) None) goes) moved

-- nothing has come of it that has not been seen to
pub seen-to : (n start : ℕ) (steps : List Step) → AreBy n n start steps
seen-to n start steps = each-always (λ turn. turn ≤ n → turn ≤ n) (λ turn by. by) (turns start steps)

module _ (now after : Tables) (xs : List Pending) (x : Pending) (moved : IsMoved now after x.point x.priority None (Some x)) where
  pub places-put : (p q : ℕ) → option_or (find (in_place p q) xs) (pending_at after p q) ≡ option_or (find (in_place p q) (xs ++ x ∷ [])) (pending_at now p q)
  places-put p q = elim (one-or-other x.point x.priority p q) [
    | inl (one, two) ↦
        let here : in_place p q x ≡ true = grind (arith, nat_tests) in
        ap (option_or (find (in_place p q) xs)) (ap (λ a. pending_at after a q) one ∙ ap (pending_at after x.point) two ∙ moved.pending)
        ∙ sym (placed-last xs x p q (pending_at now p q) ∙ ap (λ b. option_or (find (in_place p q) xs) (cond b (Some x) (pending_at now p q))) here)
    | inr differs ↦
        let other : in_place p q x ≡ false = cond_both (in_place p q x) true false (λ b. in_place p q x ≡ b → in_place p q x ≡ false) (λ there _. absurd (differs (grind (arith, nat_tests)) (grind (arith, nat_tests)))) (λ out _. out) (grind arith) in
        ap (option_or (find (in_place p q) xs)) (moved.others p q differs).1
        ∙ sym (placed-last xs x p q (pending_at now p q) ∙ ap (λ b. option_or (find (in_place p q) xs) (cond b (Some x) (pending_at now p q))) other)
  ]

  pub leases-stay : lease_at now x.point x.priority ≡ None → (p q : ℕ) → lease_at after p q ≡ lease_at now p q
  leases-stay none p q = elim (one-or-other x.point x.priority p q) [
    | inl (one, two) ↦ ap (λ a. lease_at after a q) one ∙ ap (lease_at after x.point) two ∙ moved.lease ∙ sym none ∙ sym (ap (λ a. lease_at now a q) one ∙ ap (lease_at now x.point) two)
    | inr differs ↦ (moved.others p q differs).0
  ]

  pub places-clear : (ys : List Pending) → list_any (in_place x.point x.priority) ys ≡ false → AllByRecursion (λ (y : Pending). (lease_at now y.point y.priority ≡ None) × (pending_at now y.point y.priority ≡ None)) ys
      → AllByRecursion (λ (y : Pending). (lease_at after y.point y.priority ≡ None) × (pending_at after y.point y.priority ≡ None)) ys
  places-clear ys none clear =
      each-map (λ (y : Pending). (y.point ≡ x.point → y.priority ≡ x.priority → ⊥) × ((lease_at now y.point y.priority ≡ None) × (pending_at now y.point y.priority ≡ None)))
      (λ (y : Pending). (lease_at after y.point y.priority ≡ None) × (pending_at after y.point y.priority ≡ None))
      (λ y both. let same = moved.others y.point y.priority both.0 in (same.0 ∙ both.1.0, same.1 ∙ both.1.1)) ys
      (each-both (λ (y : Pending). y.point ≡ x.point → y.priority ≡ x.priority → ⊥) (λ (y : Pending). (lease_at now y.point y.priority ≡ None) × (pending_at now y.point y.priority ≡ None)) ys (none-placed ys x.point x.priority none) clear)

-- ---- lists that rise

none-any : {X : Type 0} (test : X → Bool) (xs : List X) → AllByRecursion (λ x. test x ≡ false) xs → list_any test xs ≡ false
none-any test [] all = refl
none-any test (x ∷ xs) all = λ i. all.0 i || none-any test xs all.1 i

pub leases-apart : (xs : List Lease) → Rising lease_slot xs → AreApart xs
leases-apart [] up = tt
leases-apart (x ∷ xs) up = (
  none-any (is_at x.point x.priority) xs (each-map (λ y. comes_before (lease_slot y) (lease_slot x) ≡ false) (λ y. is_at x.point x.priority y ≡ false)
      (λ y after. let later : comes_before (y.point ∷ y.priority ∷ []) (x.point ∷ x.priority ∷ []) ≡ false = after in grind (arith, nat_tests)) xs up.0),
  leases-apart xs up.1,
)

pub pending-apart : (xs : List Pending) → Rising pending_slot xs → ArePlacedApart xs
pending-apart [] up = tt
pending-apart (x ∷ xs) up = (
  none-any (in_place x.point x.priority) xs (each-map (λ y. comes_before (pending_slot y) (pending_slot x) ≡ false) (λ y. in_place x.point x.priority y ≡ false)
      (λ y after. let later : comes_before (y.point ∷ y.priority ∷ []) (x.point ∷ x.priority ∷ []) ≡ false = after in grind (arith, nat_tests)) xs up.0),
  pending-apart xs up.1,
)

-- no lease stands in the slot of a reversion
pub alone : (pending : List Pending) (leases : List Lease) → Rising pending_slot (courses pending leases) → AllByRecursion (λ r. find (is_at r.point r.priority) leases ≡ None) pending
alone pending leases up =
    let R = Apart pending_slot in
    let pairs : Pairs R (pending ++ map reversion_of leases) = Pairs-unordered R (apart-turn pending_slot) pending_slot (pending ++ map reversion_of leases)
    (Rising-Pairs pending_slot (courses pending leases) up) in
    each-map (λ r. AllByRecursion (R r) (map reversion_of leases)) (λ r. find (is_at r.point r.priority) leases ≡ None)
    (λ r apart. none-found (is_at r.point r.priority) leases
    (each-map (λ l. R r (reversion_of l)) (λ l. is_at r.point r.priority l ≡ false) (other r) leases (each-unmapped (R r) reversion_of leases apart)))
    pending (Pairs-cross R pending (map reversion_of leases) pairs)
  where
    none-found : (test : Lease → Bool) (xs : List Lease) → AllByRecursion (λ x. test x ≡ false) xs → find test xs ≡ None
    none-found test [] all = refl
    none-found test (x ∷ xs) all = ap (λ b. cond b (Some x) (find test xs)) all.0 ∙ none-found test xs all.1

    other : (r : Pending) (l : Lease) → Apart pending_slot r (reversion_of l) → is_at r.point r.priority l ≡ false
    other r l apart =
        let differs : (comes_before (r.point ∷ r.priority ∷ []) (l.point ∷ l.priority ∷ []) && comes_before (l.point ∷ l.priority ∷ []) (r.point ∷ r.priority ∷ [])) ≡ false = apart in
        grind (arith, nat_tests)

pub or-none : {X : Type 0} (o : Option X) → option_or o None ≡ o
or-none None = refl
or-none (Some x) = refl

-- what stands in its slot, each item of a list that rises, is this list
pub leases-back : (f : ℕ → ℕ → Option Lease) (points : ℕ) (leases : List Lease) → Rising lease_slot leases →
    AllByRecursion (λ (l : Lease). (l.point < points) × (1 ≤ l.priority) × (l.priority ≤ 16)) leases → ((p q : ℕ) → f p q ≡ find (is_at p q) leases) → all f points ≡ leases
leases-back f points leases up within same =
    let found = λ (p : ℕ) (q : ℕ). find (is_at p q) leases in
    all-same f found points (λ p q _ _ _. same p q)
    ∙ sym (all-in_order (λ (l : Lease). l.point) (λ (l : Lease). l.priority) found points leases (λ p q x is. found-at (λ (l : Lease). l.point) (λ (l : Lease). l.priority) p q leases x is)
    (found-new (λ (l : Lease). l.point) (λ (l : Lease). l.priority) points leases (leases-apart leases up) within))
    ∙ in_order-Rising lease_slot leases up

pub pending-back : (f : ℕ → ℕ → Option Pending) (points : ℕ) (pending : List Pending) → Rising pending_slot pending →
    AllByRecursion (λ (r : Pending). (r.point < points) × (1 ≤ r.priority) × (r.priority ≤ 16)) pending → ((p q : ℕ) → f p q ≡ find (in_place p q) pending) → all f points ≡ pending
pending-back f points pending up within same =
    let found = λ (p : ℕ) (q : ℕ). find (in_place p q) pending in
    all-same f found points (λ p q _ _ _. same p q)
    ∙ sym (all-in_order (λ (r : Pending). r.point) (λ (r : Pending). r.priority) found points pending (λ p q x is. found-at (λ (r : Pending). r.point) (λ (r : Pending). r.priority) p q pending x is)
    (found-new (λ (r : Pending). r.point) (λ (r : Pending). r.priority) points pending (pending-apart pending up) within))
    ∙ in_order-Rising pending_slot pending up
