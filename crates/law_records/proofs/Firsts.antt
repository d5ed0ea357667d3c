-- The first end among some leases, and the lookups that find it.
use Rattle.std.proofs.Common.{◌≡◌, ℕ, zero, suc, ◌+◌, ◌<◌, ◌≤◌, ◌==◌, nat_lt, List, [], ◌∷◌, map, Bool, true, false, ◌&&◌, ◌||◌, cond, Option, Some, None, is_some, refl, ap, sym, ◌∙◌, arith}
use Rattle.std.specs.Option.{option_map, option_map_or}
use Rattle.std.specs.List.{filter, cons_option, list_any, range_with_len, AllByRecursion}
use Rattle.std.proofs.lemmas.Bool.Decides.{nat_tests}
use Rattle.boss_model.specs.declared.state.Lease.{Lease}
use Rattle.boss_model.specs.Lists.{member}
use Rattle.boss_model.specs.Order.{lesser, least}
use Rattle.boss_model.specs.Sound.{Rising}
use Rattle.boss_model.specs.State.{lease_slot}
use Rattle.boss_model.specs.Submit.{first_until}
use Rattle.law_time.proofs.Filters.{any-map, each-always}
use Rattle.law_time.proofs.Orders.{each-map}
use Rattle.law_effects.specs.Early.{slot_lease}
use Rattle.law_effects.proofs.Changed.{and-true}
use Rattle.law_effects.proofs.Lasting.{any-filter, or-true}
use Rattle.law_records.specs.Slots.{Slot, in_slots, untils_at, soonest}
use Rattle.law_records.proofs.Lookups.{any-alike, any-none, any-at}

-- ---- tests of pairs

pub any-or : {X : Type 0} (f g : X → Bool) (xs : List X) → list_any (λ x. f x || g x) xs ≡ (list_any f xs || list_any g xs)
any-or f g [] = refl
any-or f g (x ∷ xs) = grind (arith, any-or f g xs)

-- whether some pair passes does not depend on which list one goes through first
pub any-swap : {X Y : Type 0} (test : X → Y → Bool) (xs : List X) (ys : List Y) →
    list_any (λ x. list_any (test x) ys) xs ≡ list_any (λ y. list_any (λ x. test x y) xs) ys
any-swap test [] ys = sym (any-none (λ y. false) ys (each-always (λ y. false ≡ false) (λ y. refl) ys))
any-swap test (x ∷ xs) ys = ap (λ b. list_any (test x) ys || b) (any-swap test xs ys) ∙ sym (any-or (test x) (λ y. list_any (λ z. test z y) xs) ys)

pub any-and : {X : Type 0} (b : Bool) (f : X → Bool) (xs : List X) → list_any (λ x. b && f x) xs ≡ (b && list_any f xs)
any-and true f xs = refl
any-and false f xs = any-none (λ x. false) xs (each-always (λ x. false ≡ false) (λ x. refl) xs)

-- ---- the least of some moments

least-below : (n : ℕ) (ns : List ℕ) → member n ns ≡ true → (m : ℕ) × (soonest ns ≡ Some m) × (m ≤ n)
least-below n [] there = absurd (cc (sym there))
least-below n (k ∷ ks) there = by (k == n) refl (soonest ks) refl (least-below n ks)
  where
    by : (here : Bool) → (k == n) ≡ here → (rest : Option ℕ) → soonest ks ≡ rest →
        (member n ks ≡ true → (m : ℕ) × (soonest ks ≡ Some m) × (m ≤ n)) → (m : ℕ) × (soonest (k ∷ ks) ≡ Some m) × (m ≤ n)
    by true is None none later =
        let same : k ≡ n = grind (arith, nat_tests) in (k, ap (λ f. Some (lesser (λ (u : ℕ). u) k f)) none, omega (arith))
    by true is (Some j) some later =
        let same : k ≡ n = grind (arith, nat_tests) in
        (lesser (λ (u : ℕ). u) k (Some j), ap (λ f. Some (lesser (λ (u : ℕ). u) k f)) some, grind (arith, nat_tests))
    by false is rest found later =
        let r = later (grind (arith)) in
        (lesser (λ (u : ℕ). u) k (Some r.0), ap (λ f. Some (lesser (λ (u : ℕ). u) k f)) r.1, (let less : r.0 ≤ n = r.2 in grind (arith, nat_tests)))

least-member : (ns : List ℕ) (m : ℕ) → soonest ns ≡ Some m → member m ns ≡ true
least-member [] m found = absurd (cc)
least-member (k ∷ ks) m found = by (soonest ks) refl found (least-member ks)
  where
    by : (rest : Option ℕ) → soonest ks ≡ rest → Some (lesser (λ (u : ℕ). u) k rest) ≡ Some m → ((j : ℕ) → soonest ks ≡ Some j → member j ks ≡ true) → member m (k ∷ ks) ≡ true
    by None none is later = let same : k ≡ m = cc in grind (arith, nat_tests)
    by (Some j) some is later = choose (nat_lt j k) refl
      where
        choose : (b : Bool) → nat_lt j k ≡ b → member m (k ∷ ks) ≡ true
        choose true less =
            let chosen : lesser (λ (u : ℕ). u) k (Some j) ≡ j = ap (λ b. cond b j k) less in
            let same : j ≡ m = (let both : Some j ≡ Some m = ap Some (sym chosen) ∙ is in cc) in
            or-true (k == m) (member m ks) (ap (λ u. member u ks) (sym same) ∙ later j some)
        choose false more =
            let chosen : lesser (λ (u : ℕ). u) k (Some j) ≡ k = ap (λ b. cond b j k) more in
            let same : k ≡ m = (let both : Some k ≡ Some m = ap Some (sym chosen) ∙ is in cc) in
            grind (arith, nat_tests)

-- lists of the same members have the same least
pub least-same : (ms ns : List ℕ) → ((u : ℕ) → member u ms ≡ member u ns) → soonest ms ≡ soonest ns
least-same ms ns same = by (soonest ms) refl (soonest ns) refl
  where
    by : (x : Option ℕ) → soonest ms ≡ x → (y : Option ℕ) → soonest ns ≡ y → soonest ms ≡ soonest ns
    by None a None b = a ∙ sym b
    by (Some m) a y b =
        let first = least-below m ns (sym (same m) ∙ least-member ms m a) in
        let second = least-below first.0 ms (same first.0 ∙ least-member ns first.0 first.1) in
        let one : second.0 ≡ m = (let both : Some second.0 ≡ Some m = sym second.1 ∙ a in cc) in
        let p : first.0 ≤ m = first.2 in
        let q : second.0 ≤ first.0 = second.2 in
        let both : m ≡ first.0 = omega (arith) in
        a ∙ ap Some both ∙ sym first.1
    by None a (Some n) b =
        let first = least-below n ms (same n ∙ least-member ns n b) in
        (let clash : false ≡ true = ap is_some (sym a ∙ first.1) in absurd (cc))

-- ---- the ends of leases

keyed : (leases : List Lease) → option_map (λ l. l.until) (least (λ l. l.until) leases) ≡ soonest (map (λ l. l.until) leases)
keyed [] = refl
keyed (l ∷ ls) = by (least (λ k. k.until) ls) refl (keyed ls)
  where
    by : (rest : Option Lease) → least (λ k. k.until) ls ≡ rest → option_map (λ k. k.until) (least (λ k. k.until) ls) ≡ soonest (map (λ k. k.until) ls) →
        option_map (λ k. k.until) (Some (lesser (λ k. k.until) l (least (λ k. k.until) ls))) ≡ Some (lesser (λ (u : ℕ). u) l.until (soonest (map (λ k. k.until) ls)))
    by None none same =
        ap (λ f. Some (lesser (λ (k : Lease). k.until) l f).until) none
        ∙ ap (λ f. Some (lesser (λ (u : ℕ). u) l.until f)) (sym (ap (option_map (λ (k : Lease). k.until)) none) ∙ same)
    by (Some k) some same =
        ap (λ f. Some (lesser (λ (k : Lease). k.until) l f).until) some ∙ choose (nat_lt k.until l.until)
        ∙ ap (λ f. Some (lesser (λ (u : ℕ). u) l.until f)) (sym (ap (option_map (λ (k : Lease). k.until)) some) ∙ same)
      where
        choose : (b : Bool) → Some (cond b k l).until ≡ Some (cond b k.until l.until)
        choose true = refl
        choose false = refl

first-of : (leases : List Lease) → first_until leases ≡ option_map_or (λ (u : ℕ). u) (soonest (map (λ l. l.until) leases)) 0
first-of leases = by (least (λ l. l.until) leases) ∙ ap (λ f. option_map_or (λ (u : ℕ). u) f 0) (keyed leases)
  where
    by : (found : Option Lease) → option_map_or (λ l. l.until) found 0 ≡ option_map_or (λ (u : ℕ). u) (option_map (λ l. l.until) found) 0
    by None = refl
    by (Some l) = refl

untils-member : (u : ℕ) (leases : List Lease) (slots : List Slot) →
    member u (untils_at leases slots) ≡ list_any (λ slot. option_map_or (λ l. l.until == u) (slot_lease leases slot.0 slot.1) false) slots
untils-member u leases [] = refl
untils-member u leases (slot ∷ slots) = by (slot_lease leases slot.0 slot.1) (untils-member u leases slots)
  where
    by : (found : Option Lease) → member u (untils_at leases slots) ≡ list_any (λ s. option_map_or (λ l. l.until == u) (slot_lease leases s.0 s.1) false) slots →
        member u (cons_option (option_map (λ l. l.until) found) (untils_at leases slots))
        ≡ (option_map_or (λ l. l.until == u) found false || list_any (λ s. option_map_or (λ l. l.until == u) (slot_lease leases s.0 s.1) false) slots)
    by None rest = rest
    by (Some l) rest = ap (λ b. (l.until == u) || b) rest

-- a test of some lease in the slots is a test over the slots
pub any-slots : (g : Lease → Bool) (leases : List Lease) → Rising lease_slot leases → (slots : List Slot) →
    list_any (λ slot. option_map_or g (slot_lease leases slot.0 slot.1) false) slots ≡ list_any (λ l. g l && in_slots slots l) leases
any-slots g leases rising slots =
    any-alike (λ slot. option_map_or g (slot_lease leases slot.0 slot.1) false) (λ slot. list_any (λ l. g l && ((l.point == slot.0) && (l.priority == slot.1))) leases) slots
    (each-always _ (λ slot. sym (any-at g slot.0 slot.1 leases rising)) slots)
    ∙ any-swap (λ slot l. g l && ((l.point == slot.0) && (l.priority == slot.1))) slots leases
    ∙ any-alike (λ l. list_any (λ slot. g l && ((l.point == slot.0) && (l.priority == slot.1))) slots) (λ l. g l && in_slots slots l) leases
    (each-always _ (λ l. any-and (g l) (λ slot. (l.point == slot.0) && (l.priority == slot.1)) slots) leases)

pub first-by : (which : Lease → Bool) (slots : List Slot) (leases : List Lease) → Rising lease_slot leases → AllByRecursion (λ l. which l ≡ in_slots slots l) leases →
    first_until (filter which leases) ≡ option_map_or (λ (u : ℕ). u) (soonest (untils_at leases slots)) 0
first-by which slots leases rising agree = first-of (filter which leases)
    ∙ ap (λ f. option_map_or (λ (u : ℕ). u) f 0) (least-same (map (λ l. l.until) (filter which leases)) (untils_at leases slots)
    (λ u. any-map (λ other. other == u) (λ l. l.until) (filter which leases)
    ∙ any-filter (λ l. l.until == u) which leases
    ∙ any-alike (λ l. which l && (l.until == u)) (λ l. (l.until == u) && in_slots slots l) leases
    (each-map (λ l. which l ≡ in_slots slots l) (λ l. (which l && (l.until == u)) ≡ ((l.until == u) && in_slots slots l)) (λ l is. grind (arith)) leases agree)
    ∙ sym (any-slots (λ l. l.until == u) leases rising slots)
    ∙ sym (untils-member u leases slots)))

-- ---- the slots of a point

in-range : (n start many : ℕ) → start ≤ n → n < start + many → list_any (λ q. n == q) (range_with_len start many) ≡ true
in-range n start zero least below = absurd (omega (arith))
in-range n start (suc many) least below = by (n == start) refl (λ more. in-range n (start + 1) many more (omega (arith)))
  where
    by : (here : Bool) → (n == start) ≡ here → (start + 1 ≤ n → list_any (λ q. n == q) (range_with_len (start + 1) many) ≡ true) →
        (here || list_any (λ q. n == q) (range_with_len (start + 1) many)) ≡ true
    by true is rest = refl
    by false is rest = rest (grind (arith, nat_tests))

pub row-any : (g : Lease → Bool) (point : ℕ) (leases : List Lease) → Rising lease_slot leases → AllByRecursion (λ l. (1 ≤ l.priority) × (l.priority ≤ 16)) leases →
    list_any (λ l. g l && (l.point == point)) leases ≡ list_any (λ q. option_map_or g (slot_lease leases point q) false) (range_with_len 1 16)
row-any g point leases rising levels =
    let row = range_with_len 1 16 in
    sym (any-alike (λ q. option_map_or g (slot_lease leases point q) false) (λ q. list_any (λ l. g l && ((l.point == point) && (l.priority == q))) leases) row
    (each-always _ (λ q. sym (any-at g point q leases rising)) row)
    ∙ any-swap (λ q l. g l && ((l.point == point) && (l.priority == q))) row leases
    ∙ any-alike (λ l. list_any (λ q. g l && ((l.point == point) && (l.priority == q))) row) (λ l. g l && (l.point == point)) leases
    (each-map (λ l. (1 ≤ l.priority) × (l.priority ≤ 16)) (λ l. list_any (λ q. g l && ((l.point == point) && (l.priority == q))) row ≡ (g l && (l.point == point)))
    (λ l level. any-and (g l) (λ q. (l.point == point) && (l.priority == q)) row
    ∙ ap (λ b. g l && b) (any-and (l.point == point) (λ q. l.priority == q) row ∙ ap (λ b. (l.point == point) && b) (in-range l.priority 1 16 level.0 (omega (arith, level.1)))
    ∙ and-true (l.point == point))) leases levels))
