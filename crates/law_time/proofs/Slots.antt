-- Slots: each is taken once, so the lease of a part is found by its slot; and what holds of all reversions together.
use Rattle.std.proofs.Common.{◌≡◌, ℕ, ◌<◌, ◌==◌, List, [], ◌∷◌, ◌++◌, map, Bool, true, false, ◌&&◌, ◌||◌, cond, Option, Some, refl, ap, sym, ◌∙◌, subst, arith}
use Rattle.std.specs.List.{AllByRecursion, list_any}
use Rattle.std.proofs.lemmas.Bool.{cond_both}
use Rattle.std.proofs.lemmas.Bool.Decides.{nat_tests}
use Rattle.boss_model.specs.declared.state.Lease.{Lease}
use Rattle.boss_model.specs.declared.state.Pending.{Pending}
use Rattle.boss_model.specs.Happenings.{lives}
use Rattle.boss_model.specs.Order.{comes_before, put, in_order}
use Rattle.boss_model.specs.Records.{End, Part, Transaction}
use Rattle.boss_model.specs.Reversions.{reversion_of, courses}
use Rattle.boss_model.specs.Sound.{Rising, holds, has_part, is_kept}
use Rattle.boss_model.specs.State.{lease_slot, pending_slot}
use Rattle.boss_model.specs.Time.{lease_of_part, end_after, part_after, record_after}
use Rattle.law_time.proofs.Orders.{each-map, each-append, each-in_order}
use Rattle.law_time.proofs.Filters.{each-mapped}

-- ---- order depends on ranks alone

put-ranks : {X : Type 0} (rank : X → List ℕ) (x : X) (ys : List X) → map rank (put rank x ys) ≡ put (λ r. r) (rank x) (map rank ys)
put-ranks rank x [] = refl
put-ranks rank x (y ∷ ys) = cond_both (comes_before (rank x) (rank y)) (x ∷ y ∷ ys) (y ∷ put rank x ys)
    (λ zs. map rank zs ≡ cond (comes_before (rank x) (rank y)) (rank x ∷ rank y ∷ map rank ys) (rank y ∷ put (λ r. r) (rank x) (map rank ys)))
    (λ first. rw first refl) (λ behind. rw behind (ap (λ zs. rank y ∷ zs) (put-ranks rank x ys)))

in_order-ranks : {X : Type 0} (rank : X → List ℕ) (xs : List X) → map rank (in_order rank xs) ≡ in_order (λ r. r) (map rank xs)
in_order-ranks rank [] = refl
in_order-ranks rank (x ∷ xs) = put-ranks rank x (in_order rank xs) ∙ ap (put (λ r. r) (rank x)) (in_order-ranks rank xs)

later-ranks : {X : Type 0} (rank : X → List ℕ) (r : List ℕ) (xs : List X) → AllByRecursion (λ y. comes_before (rank y) r ≡ false) xs →
    AllByRecursion (λ y. comes_before y r ≡ false) (map rank xs)
later-ranks rank r [] all = tt
later-ranks rank r (x ∷ xs) all = (all.0, later-ranks rank r xs all.1)

ranks-later : {X : Type 0} (rank : X → List ℕ) (r : List ℕ) (xs : List X) → AllByRecursion (λ y. comes_before y r ≡ false) (map rank xs) →
    AllByRecursion (λ y. comes_before (rank y) r ≡ false) xs
ranks-later rank r [] all = tt
ranks-later rank r (x ∷ xs) all = (all.0, ranks-later rank r xs all.1)

Rising-ranks : {X : Type 0} (rank : X → List ℕ) (xs : List X) → Rising rank xs → Rising (λ r. r) (map rank xs)
Rising-ranks rank [] rising = tt
Rising-ranks rank (x ∷ xs) rising = (later-ranks rank (rank x) xs rising.0, Rising-ranks rank xs rising.1)

ranks-Rising : {X : Type 0} (rank : X → List ℕ) (xs : List X) → Rising (λ r. r) (map rank xs) → Rising rank xs
ranks-Rising rank [] rising = tt
ranks-Rising rank (x ∷ xs) rising = (ranks-later rank (rank x) xs rising.0, ranks-Rising rank xs rising.1)

-- lists of the same ranks are both in strict order or neither
pub Rising-same : {X : Type 0} (rank : X → List ℕ) (xs ys : List X) → map rank xs ≡ map rank ys → Rising rank xs → Rising rank ys
Rising-same rank xs ys same rising = ranks-Rising rank ys (subst (Rising (λ r. r)) same (Rising-ranks rank xs rising))

pub Rising-in_order-same : {X : Type 0} (rank : X → List ℕ) (xs ys : List X) → map rank xs ≡ map rank ys → Rising rank (in_order rank xs) → Rising rank (in_order rank ys)
Rising-in_order-same rank xs ys same rising = Rising-same rank (in_order rank xs) (in_order rank ys)
    (in_order-ranks rank xs ∙ ap (in_order (λ r. r)) same ∙ sym (in_order-ranks rank ys)) rising

-- ---- members

any-put : {X : Type 0} (test : X → Bool) (rank : X → List ℕ) (x : X) (ys : List X) → list_any test (put rank x ys) ≡ (test x || list_any test ys)
any-put test rank x [] = refl
any-put test rank x (y ∷ ys) = cond_both (comes_before (rank x) (rank y)) (x ∷ y ∷ ys) (y ∷ put rank x ys)
    (λ zs. list_any test zs ≡ (test x || (test y || list_any test ys))) (λ _. refl) (λ _. grind (arith, any-put test rank x ys))

pub any-in_order : {X : Type 0} (test : X → Bool) (rank : X → List ℕ) (xs : List X) → list_any test (in_order rank xs) ≡ list_any test xs
any-in_order test rank [] = refl
any-in_order test rank (x ∷ xs) = any-put test rank x (in_order rank xs) ∙ ap (λ b. test x || b) (any-in_order test rank xs)

pub any-append : {X : Type 0} (test : X → Bool) (xs ys : List X) → list_any test (xs ++ ys) ≡ (list_any test xs || list_any test ys)
any-append test [] ys = refl
any-append test (x ∷ xs) ys = grind (arith, any-append test xs ys)

-- a transaction lives by its reversions under way, or by its leases
pub lives-courses : (txn : ℕ) (pending : List Pending) (leases : List Lease) →
    lives txn (courses pending leases) ≡ (lives txn pending || lives txn (map reversion_of leases))
lives-courses txn pending leases = any-in_order (λ c. c.txn == txn) pending_slot (pending ++ map reversion_of leases) ∙ any-append (λ c. c.txn == txn) pending (map reversion_of leases)

-- ---- leases that differ in their ends alone

-- the same lease, but for its end
abbrev pub IsSameLease : Lease → Lease → Type 0
IsSameLease lease after = after ≡ record lease { until = after.until }

module _ (f : Lease → Lease) where
  abbrev pub SameLeases : List Lease → Type 0
  SameLeases leases = AllByRecursion (λ lease. IsSameLease lease (f lease)) leases

  pub slots-same : (leases : List Lease) → SameLeases leases → map lease_slot leases ≡ map lease_slot (map f leases)
  slots-same [] same = refl
  slots-same (lease ∷ leases) same = λ i. lease_slot (sym same.0 i) ∷ slots-same leases same.1 i

  pub course_slots-same : (pending : List Pending) (leases : List Lease) → SameLeases leases →
      map pending_slot (pending ++ map reversion_of leases) ≡ map pending_slot (pending ++ map reversion_of (map f leases))
  course_slots-same [] [] same = refl
  course_slots-same [] (lease ∷ leases) same = λ i. pending_slot (reversion_of (sym same.0 i)) ∷ course_slots-same [] leases same.1 i
  course_slots-same (r ∷ rs) leases same = ap (λ xs. pending_slot r ∷ xs) (course_slots-same rs leases same)

  pub lives-same : (txn : ℕ) (leases : List Lease) → SameLeases leases → lives txn (map reversion_of (map f leases)) ≡ lives txn (map reversion_of leases)
  lives-same txn [] same = refl
  lives-same txn (lease ∷ leases) same =
      let t : (f lease).txn ≡ lease.txn = ap (λ l. l.txn) same.0 in λ i. (t i == txn) || lives-same txn leases same.1 i

-- what holds of all reversions, from the two sorts of them
pub to-courses : (P : Pending → Type 0) (pending : List Pending) (leases : List Lease) → AllByRecursion P pending → AllByRecursion (λ lease. P (reversion_of lease)) leases →
    AllByRecursion P (courses pending leases)
to-courses P pending leases p q = each-in_order P pending_slot (pending ++ map reversion_of leases) (each-append P pending (map reversion_of leases) p (each-mapped P reversion_of leases q))

-- ---- the lease of a slot

-- no later lease holds the slot of an earlier one
pub none-later : (lease : Lease) (leases : List Lease) (txn point priority : ℕ) → AllByRecursion (λ y. comes_before (lease_slot y) (lease_slot lease) ≡ false) leases →
    lease.point ≡ point → lease.priority ≡ priority → holds leases txn point priority ≡ false
none-later lease [] txn point priority later p q = refl
none-later lease (y ∷ ys) txn point priority later p q =
    let rest : holds ys txn point priority ≡ false = none-later lease ys txn point priority later.1 p q in
    let first : comes_before (y.point ∷ y.priority ∷ []) (lease.point ∷ lease.priority ∷ []) ≡ false = later.0 in
    grind (arith, nat_tests)

-- each lease is found by its transaction and slot
pub self-found : (leases : List Lease) → Rising lease_slot leases → AllByRecursion (λ lease. lease_of_part leases lease.txn lease.point lease.priority ≡ Some lease) leases
self-found [] rising = tt
self-found (x ∷ xs) rising = (
  grind (arith, nat_tests),
  each-map (λ y. (comes_before (lease_slot y) (lease_slot x) ≡ false) × (lease_of_part xs y.txn y.point y.priority ≡ Some y))
      (λ y. lease_of_part (x ∷ xs) y.txn y.point y.priority ≡ Some y)
      (λ y both. let later : comes_before (y.point ∷ y.priority ∷ []) (x.point ∷ x.priority ∷ []) ≡ false = both.0 in
      let there : lease_of_part xs y.txn y.point y.priority ≡ Some y = both.1 in grind (arith, nat_tests))
      xs (pairs xs rising.0 (self-found xs rising.1)),
)
  where
    pairs : (ys : List Lease) → AllByRecursion (λ y. comes_before (lease_slot y) (lease_slot x) ≡ false) ys →
        AllByRecursion (λ y. lease_of_part xs y.txn y.point y.priority ≡ Some y) ys →
        AllByRecursion (λ y. (comes_before (lease_slot y) (lease_slot x) ≡ false) × (lease_of_part xs y.txn y.point y.priority ≡ Some y)) ys
    pairs [] p q = tt
    pairs (y ∷ ys) p q = ((p.0, q.0), pairs ys p.1 q.1)

-- ---- records

pub kept-after : (how : Lease → Option End) (leases : List Lease) (txns : List Transaction) (txn : ℕ) → is_kept (map (record_after how leases) txns) txn ≡ is_kept txns txn
kept-after how leases [] txn = refl
kept-after how leases (t ∷ ts) txn = ap (λ b. (t.txn == txn) || b) (kept-after how leases ts txn)

-- the part in a slot, before and after
has-part-after : (test after : Option End → Bool) (how : Lease → Option End) (leases : List Lease) (parts : List Part) (txn point priority : ℕ) →
    ((end : Option End) → test end ≡ true → after (end_after how (lease_of_part leases txn point priority) end) ≡ true) →
    list_any (λ part. (part.point == point) && ((part.priority == priority) && test part.end)) parts ≡ true →
    list_any (λ part. (part.point == point) && ((part.priority == priority) && after part.end)) (map (part_after how leases txn) parts) ≡ true
has-part-after test after how leases [] txn point priority turns has = has
has-part-after test after how leases (part ∷ parts) txn point priority turns has =
    cond_both ((part.point == point) && ((part.priority == priority) && test part.end)) true false
    (λ b. ((part.point == point) && ((part.priority == priority) && test part.end)) ≡ b →
    list_any (λ p. (p.point == point) && ((p.priority == priority) && after p.end)) (map (part_after how leases txn) (part ∷ parts)) ≡ true)
    (λ yes _.
    let p : part.point ≡ point = grind (arith, nat_tests) in
    let q : part.priority ≡ priority = grind (arith, nat_tests) in
    let turned : after (end_after how (lease_of_part leases txn part.point part.priority) part.end) ≡ true =
    subst (λ k. after (end_after how (lease_of_part leases txn k part.priority) part.end) ≡ true) (sym p)
    (subst (λ k. after (end_after how (lease_of_part leases txn point k) part.end) ≡ true) (sym q) (turns part.end (grind (arith)))) in
    grind (arith, nat_tests))
    (λ no _. let rest : list_any (λ p. (p.point == point) && ((p.priority == priority) && after p.end)) (map (part_after how leases txn) parts) ≡ true =
    has-part-after test after how leases parts txn point priority turns (grind (arith)) in
    grind (arith)) (grind arith)

pub has-after : (test after : Option End → Bool) (how : Lease → Option End) (leases : List Lease) (txns : List Transaction) (txn point priority : ℕ) →
    ((end : Option End) → test end ≡ true → after (end_after how (lease_of_part leases txn point priority) end) ≡ true) →
    has_part test txns txn point priority ≡ true → has_part after (map (record_after how leases) txns) txn point priority ≡ true
has-after test after how leases [] txn point priority turns has = has
has-after test after how leases (t ∷ ts) txn point priority turns has =
    cond_both ((t.txn == txn) && list_any (λ part. (part.point == point) && ((part.priority == priority) && test part.end)) t.parts) true false
    (λ b. ((t.txn == txn) && list_any (λ part. (part.point == point) && ((part.priority == priority) && test part.end)) t.parts) ≡ b →
    has_part after (map (record_after how leases) (t ∷ ts)) txn point priority ≡ true)
    (λ yes _.
    let same : txn ≡ t.txn = grind (arith, nat_tests) in
    let here : list_any (λ part. (part.point == point) && ((part.priority == priority) && test part.end)) t.parts ≡ true = grind (arith) in
    let turned : list_any (λ part. (part.point == point) && ((part.priority == priority) && after part.end)) (map (part_after how leases t.txn) t.parts) ≡ true =
    subst (λ k. list_any (λ part. (part.point == point) && ((part.priority == priority) && after part.end)) (map (part_after how leases k) t.parts) ≡ true) same
    (has-part-after test after how leases t.parts txn point priority turns here) in
    grind (arith, nat_tests))
    (λ no _. let rest : has_part after (map (record_after how leases) ts) txn point priority ≡ true = has-after test after how leases ts txn point priority turns (grind (arith)) in
    grind (arith)) (grind arith)

-- a part that there is belongs to a transaction that was numbered
pub has-number : (test : Option End → Bool) (next : ℕ) (txns : List Transaction) (txn point priority : ℕ) → AllByRecursion (λ t. t.txn < next) txns →
    has_part test txns txn point priority ≡ true → txn < next
has-number test next [] txn point priority below has = cc
has-number test next (t ∷ ts) txn point priority below has =
    let here : t.txn < next = below.0 in
    cond_both (t.txn == txn) true false (λ b. (t.txn == txn) ≡ b → txn < next) (λ is _. grind (arith, nat_tests))
    (λ other _. has-number test next ts txn point priority below.1 (grind (arith))) (grind arith)
