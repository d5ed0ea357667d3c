-- How many leases, reversions and records there can be: each slot is taken once, and each record has a slot or is one of the done.
use Rattle.std.proofs.Common.{◌≡◌, ℕ, ◌+◌, ◌-◌, ◌*◌, ◌<◌, ◌≤◌, ◌==◌, List, [], ◌∷◌, ◌++◌, length, map, true, false, not, ◌||◌, refl, ap, sym, ◌∙◌, subst, arith, length-append}
use Rattle.std.specs.List.{AllByRecursion}
use Rattle.std.proofs.lemmas.Bool.{cond_both}
use Rattle.std.proofs.lemmas.Bool.Decides.{nat_tests}
use Rattle.std.proofs.lemmas.List.{length-map}
use Rattle.boss_model.specs.declared.state.Actuator.{Actuator}
use Rattle.boss_model.specs.declared.state.Pending.{Pending}
use Rattle.boss_model.specs.Happenings.{lives}
use Rattle.boss_model.specs.Limits.{done_kept, most_points}
use Rattle.boss_model.specs.Lists.{member, without}
use Rattle.boss_model.specs.Order.{comes_before, put, in_order}
use Rattle.boss_model.specs.Records.{Transaction}
use Rattle.boss_model.specs.Reversions.{reversion_of, courses}
use Rattle.boss_model.specs.Sound.{Rising, Distinct, number_rank, IsLease, IsPending, IsSoundPersistent}
use Rattle.boss_model.specs.State.{pending_slot, Persistent}
use Rattle.boss_model.proofs.Members.{member-append, member-without, length-le_from_Distinct}
use Rattle.law_time.proofs.Orders.{each-map, each-both}
use Rattle.law_time.proofs.Places.{each-member, member-each}
use Rattle.law_time.proofs.Filters.{each-mapped}
use Rattle.law_time.proofs.Slots.{to-courses}
use Rattle.law_time.proofs.TickSound.{known-courses}
use Rattle.boss_model.specs.Plants.{IsPlant}
use Rattle.law_spelling.specs.Ranges.{IsLevel, most_slots}
use Rattle.law_spelling.proofs.Values.{level-of}

-- ---- slots

length-put : {X : Type 0} (order : X → List ℕ) (x : X) (ys : List X) → length (put order x ys) ≡ length ys + 1
length-put order x [] = refl
length-put order x (y ∷ ys) = cond_both (comes_before (order x) (order y)) (x ∷ y ∷ ys) (y ∷ put order x ys) (λ zs. length zs ≡ length (y ∷ ys) + 1)
    (λ _. omega arith) (λ _. omega (arith, length-put order x ys))

length-in_order : {X : Type 0} (order : X → List ℕ) (xs : List X) → length (in_order order xs) ≡ length xs
length-in_order order [] = refl
length-in_order order (x ∷ xs) = omega (arith, length-put order x (in_order order xs), length-in_order order xs)

-- a slot as one number
abbrev slot : Pending → ℕ
slot c = c.point * 16 + (c.priority - 1)

apart : (p q r s : ℕ) → 1 ≤ q → q ≤ 16 → 1 ≤ s → s ≤ 16 → comes_before (r ∷ s ∷ []) (p ∷ q ∷ []) ≡ false → (r * 16 + (s - 1) == p * 16 + (q - 1)) ≡ false
apart p q r s q1 q2 s1 s2 later = grind (arith, nat_tests)

other-slots : (c : Pending) (cs : List Pending) → IsLevel c.priority → AllByRecursion (λ x. IsLevel x.priority) cs → AllByRecursion (λ x. comes_before (pending_slot x) (pending_slot c) ≡ false) cs →
    member (slot c) (map slot cs) ≡ false
other-slots c [] here levels later = refl
other-slots c (x ∷ xs) here levels later =
    let one : (slot x == slot c) ≡ false = apart c.point c.priority x.point x.priority here.0 here.1 levels.0.0 levels.0.1 later.0 in
    grind (arith, other-slots c xs here levels.1 later.1)

distinct-slots : (cs : List Pending) → AllByRecursion (λ x. IsLevel x.priority) cs → Rising pending_slot cs → Distinct (map slot cs)
distinct-slots [] levels rising = tt
distinct-slots (c ∷ cs) levels rising = (other-slots c cs levels.0 levels.1 rising.0, distinct-slots cs levels.1 rising.1)

levels : (plant : List Actuator) (d : Persistent) → IsSoundPersistent plant d → AllByRecursion (λ c. IsLevel c.priority) (courses d.pending d.leases)
levels plant d sound = to-courses (λ c. IsLevel c.priority) d.pending d.leases
    (each-map (IsPending plant d.now) (λ r. IsLevel r.priority) (λ r is. level-of r.priority is.level) d.pending sound.pending)
    (each-map (IsLease plant d.now) (λ l. IsLevel l.priority) (λ l is. level-of l.priority is.level) d.leases sound.leases)

length-courses : (d : Persistent) → length (courses d.pending d.leases) ≡ length d.pending + length d.leases
length-courses d = length-in_order pending_slot (d.pending ++ map reversion_of d.leases) ∙ length-append d.pending (map reversion_of d.leases) ∙ ap (λ k. length d.pending + k) (length-map d.leases reversion_of)

pub few-slots : (plant : List Actuator) (d : Persistent) → IsPlant plant → IsSoundPersistent plant d → length d.pending + length d.leases ≤ most_slots
few-slots plant d whole sound =
    let cs = courses d.pending d.leases in
    let room = 16 * most_points in
    let few : length plant ≤ most_points = whole.few in
    let within : AllByRecursion (λ n. n < room) (map slot cs) = each-mapped (λ n. n < room) slot cs
    (each-map (λ c. (c.point < length plant) × IsLevel c.priority) (λ c. slot c < room)
    (λ c both. let known : c.point < length plant = both.0 in let most : c.priority ≤ 16 = both.1.1 in omega arith) cs
    (each-both (λ c. c.point < length plant) (λ c. IsLevel c.priority) cs (known-courses plant d sound) (levels plant d sound))) in
    let many : length (map slot cs) ≤ room = length-le_from_Distinct (map slot cs) room (distinct-slots cs (levels plant d sound) sound.slots)
    (λ n there. member-each (λ k. k < room) n (map slot cs) within there) in
    omega (arith, length-map cs slot, length-courses d)

-- ---- records

-- numbers that each stand once, all of them among some others, are no more than these
less-without : (n : ℕ) (xs : List ℕ) → member n xs ≡ true → length (without n xs) < length xs
less-without n [] there = cc
less-without n (x ∷ xs) there =
    cond_both (x == n) true false (λ b. (x == n) ≡ b → length (without n (x ∷ xs)) < length (x ∷ xs))
    (λ is _. let rest : length (without n xs) ≤ length xs = no-more n xs in grind (arith))
    (λ other _. let rest : length (without n xs) < length xs = less-without n xs (grind (arith)) in grind (arith)) (grind (arith))
  where
    no-more : (n : ℕ) (ys : List ℕ) → length (without n ys) ≤ length ys
    no-more n [] = omega arith
    no-more n (y ∷ ys) = cond_both (not (y == n)) (y ∷ without n ys) (without n ys) (λ zs. length zs ≤ length (y ∷ ys)) (λ _. omega (arith, no-more n ys)) (λ _. omega (arith, no-more n ys))

pub few-among : (ns xs : List ℕ) → Distinct ns → AllByRecursion (λ n. member n xs ≡ true) ns → length ns ≤ length xs
few-among [] xs once among = omega arith
few-among (n ∷ ns) xs once among =
    let rest : AllByRecursion (λ k. member k (without n xs) ≡ true) ns = each-member (λ k. member k (without n xs) ≡ true) ns (λ k there.
    let inside : member k xs ≡ true = member-each (λ j. member j xs ≡ true) k ns among.1 there in
    cond_both (k == n) true false (λ b. (k == n) ≡ b → member k (without n xs) ≡ true)
    (λ is _. let same : k ≡ n = grind (arith, nat_tests) in let out : member k ns ≡ false = subst (λ j. member j ns ≡ false) (sym same) once.0 in cc)
    (λ other _. member-without k n xs ∙ grind (arith)) (grind (arith))) in
    let fewer : length ns ≤ length (without n xs) = few-among ns (without n xs) once.1 rest in
    omega (arith, less-without n xs among.0)

other-numbers : (t : Transaction) (ts : List Transaction) → AllByRecursion (λ u. comes_before (number_rank u) (number_rank t) ≡ false) ts → member t.txn (map (λ u. u.txn) ts) ≡ false
other-numbers t [] later = refl
other-numbers t (u ∷ us) later =
    let one : comes_before (u.txn ∷ []) (t.txn ∷ []) ≡ false = later.0 in
    grind (arith, nat_tests, other-numbers t us later.1)

distinct-numbers : (ts : List Transaction) → Rising number_rank ts → Distinct (map (λ t. t.txn) ts)
distinct-numbers [] rising = tt
distinct-numbers (t ∷ ts) rising = (other-numbers t ts rising.0, distinct-numbers ts rising.1)

lives-member : (txn : ℕ) (cs : List Pending) → lives txn cs ≡ member txn (map (λ c. c.txn) cs)
lives-member txn [] = refl
lives-member txn (c ∷ cs) = ap (λ b. (c.txn == txn) || b) (lives-member txn cs)

pub few-records : (plant : List Actuator) (d : Persistent) → IsPlant plant → IsSoundPersistent plant d → length d.txns ≤ most_slots + done_kept
few-records plant d whole sound =
    let cs = courses d.pending d.leases in
    let numbers = map (λ (c : Pending). c.txn) cs in
    let N = λ (n : ℕ). member n (numbers ++ d.done) ≡ true in
    let among : AllByRecursion N (map (λ t. t.txn) d.txns) = each-mapped N (λ (t : Transaction). t.txn) d.txns
    (each-map (λ t. member t.txn d.done ≡ not (lives t.txn cs)) (λ t. N t.txn)
    (λ t done. let same : lives t.txn cs ≡ member t.txn numbers = lives-member t.txn cs in member-append t.txn numbers d.done ∙ grind (arith)) d.txns sound.done) in
    let many : length (map (λ (t : Transaction). t.txn) d.txns) ≤ length (numbers ++ d.done) = few-among (map (λ t. t.txn) d.txns) (numbers ++ d.done) (distinct-numbers d.txns sound.numbers) among in
    let few_done : length d.done ≤ done_kept = sound.few_done in
    omega (arith, length-map d.txns (λ (t : Transaction). t.txn), length-append numbers d.done, length-map cs (λ (c : Pending). c.txn), length-courses d, few-slots plant d whole sound)
