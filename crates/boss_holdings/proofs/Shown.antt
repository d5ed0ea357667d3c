-- What a point shows where its slots are as they were, and how many there are of all.
use Rattle.std.proofs.Common.{◌≡◌, ℕ, ℤ, ◌+◌, ◌*◌, ◌<◌, ◌≤◌, List, [], ◌∷◌, ◌++◌, length, get_or, set, Bool, true, false, Some, None, refl, ap, sym, ◌∙◌, inl, inr, arith}
use Rattle.std.specs.Option.{option_map, option_or}
use Rattle.std.specs.List.{filter, find, flat_map, AllByRecursion}
use Rattle.std.proofs.lemmas.Bool.{cases_eq, cond_both}
use Rattle.std.proofs.lemmas.Bool.Decides.{nat_tests}
use Rattle.std.proofs.lemmas.List.{get_or-set_other, get_or-set_same, length-append, length-map}
use Rattle.boss_model.specs.declared.notice.Cause.{Cause}
use Rattle.boss_model.specs.declared.state.Lease.{Lease}
use Rattle.boss_model.specs.declared.state.Pending.{Pending}
use Rattle.boss_model.specs.Order.{least}
use Rattle.boss_model.specs.Submit.{cut, is_taken, superseded}
use Rattle.boss_model.specs.Reversions.{reversion_of}
use Rattle.boss_model.specs.Target.{in_force, playing, value_of}
use Rattle.law_time.proofs.Filters.{few-filter}
use Rattle.boss_booking.specs.Gathered.{end_tellings, ended_with, plain}
use Rattle.boss_model.specs.Ends.{shortened}
use Rattle.boss_slots.specs.Slots.{all}
use Rattle.boss_holdings.specs.Held.{is_at}
use Rattle.boss_slots.specs.Tables.{IsKept, IsTimed, lease_at, pending_at}
use Rattle.boss_slots.specs.Ending.{IsClearing, dues, left_untaken, told_cut, told_taken, untaken}
use Rattle.boss_slots.specs.declared.tables.Tables.{Tables}
use Rattle.boss_slots.proofs.BySlot.{each-unall, few-both, filter-point_same, map-all}
use Rattle.boss_slots.proofs.Ended.{ending-begins}
use Rattle.boss_slots.proofs.Kept.{lease-placed, lease-within, not-both, pending-placed, pending-within}

pub shown-same : (first now : Tables) (default : ℤ) (p m : ℕ) → IsKept first → IsKept now → length now.arrays.items ≡ length first.arrays.items → ((q : ℕ) → (lease_at now p q ≡ lease_at first p q) × (pending_at now p q ≡ pending_at first p q)) →
    value_of default m (in_force (all (lease_at now) (length now.arrays.items)) p) (playing (all (pending_at now) (length now.arrays.items)) p)
    ≡ value_of default m (in_force (all (lease_at first) (length first.arrays.items)) p) (playing (all (pending_at first) (length first.arrays.items)) p)
shown-same first now default p m k k' points same =
    let at = length first.arrays.items in
    let leases : in_force (all (lease_at now) (length now.arrays.items)) p ≡ in_force (all (lease_at first) at) p =
    ap (λ c. in_force (all (lease_at now) c) p) points ∙ ap (least (λ (l : Lease). l.priority)) (filter-point_same (λ (l : Lease). l.point) (λ (l : Lease). l.priority) (lease_at first) (lease_at now) at p (lease-placed first k) (lease-placed now k') (λ q. (same q).0)) in
    let pending : playing (all (pending_at now) (length now.arrays.items)) p ≡ playing (all (pending_at first) at) p =
    ap (λ c. playing (all (pending_at now) c) p) points ∙ ap (least (λ (r : Pending). r.priority)) (filter-point_same (λ (r : Pending). r.point) (λ (r : Pending). r.priority) (pending_at first) (pending_at now) at p (pending-placed first k) (pending-placed now k') (λ q. (same q).1)) in
    rw (leases, pending) refl

pub lease-each : (P : Lease → Type 0) (t : Tables) → IsKept t → AllByRecursion P (all (lease_at t) (length t.arrays.items)) → (p q : ℕ) (l : Lease) → lease_at t p q ≡ Some l → P l
lease-each P t k every p q l is = let in-it = lease-within t k p q l is in each-unall P (lease_at t) (length t.arrays.items) every p q l in-it.0 in-it.1 in-it.2 is

pub pending-each : (P : Pending → Type 0) (t : Tables) → IsKept t → AllByRecursion P (all (pending_at t) (length t.arrays.items)) → (p q : ℕ) (r : Pending) → pending_at t p q ≡ Some r → P r
pending-each P t k every p q r is = let in-it = pending-within t k p q r is in each-unall P (pending_at t) (length t.arrays.items) every p q r in-it.0 in-it.1 in-it.2 is

pub few-ended : (which : Lease → Bool) (why : Cause) (n : ℕ) (ls : List Lease) → length (end_tellings which why n ls) ≤ length ls
few-ended which why n ls = omega (arith, few-filter which ls, length-map (filter which ls) (λ lease. ended_with why (reversion_of (shortened n lease))))

pub few-slots : (t : Tables) → IsKept t → length (all (lease_at t) (length t.arrays.items)) + length (all (pending_at t) (length t.arrays.items)) ≤ 16 * length t.arrays.items
few-slots t k =
    let at = length t.arrays.items in
    omega (
      arith,
      few-both (pending_at t) (λ p q. option_map reversion_of (lease_at t p q)) (λ p q. option_or (pending_at t p q) (option_map reversion_of (lease_at t p q))) at (λ p q. refl)
          (λ p q. elim (not-both t k p q) [ inl none ↦ inl none | inr none ↦ inr (ap (option_map reversion_of) none) ]),
      ap length (map-all reversion_of (lease_at t) at),
      length-map (all (lease_at t) at) reversion_of,
    )

-- ---- slots that are taken

few-taken : (new : List Lease) (by n : ℕ) (ls : List Lease) → length (flat_map (told_taken new by n) ls) ≤ length ls
few-taken new by n [] = omega arith
few-taken new by n (l ∷ ls) = cond_both (is_taken new l.point l.priority) (plain (superseded by n l) ∷ []) [] (λ zs. length (zs ++ flat_map (told_taken new by n) ls) ≤ length (l ∷ ls))
    (λ _. omega (arith, few-taken new by n ls)) (λ _. omega (arith, few-taken new by n ls))

few-cut : (new : List Lease) (by n : ℕ) (rs : List Pending) → length (flat_map (told_cut new by n) rs) ≤ length rs
few-cut new by n [] = omega arith
few-cut new by n (r ∷ rs) = cond_both (is_taken new r.point r.priority) (plain (cut by n r) ∷ []) [] (λ zs. length (zs ++ flat_map (told_cut new by n) rs) ≤ length (r ∷ rs))
    (λ _. omega (arith, few-cut new by n rs)) (λ _. omega (arith, few-cut new by n rs))

pub clearing-first : (new : List Lease) (by n : ℕ) (t : Tables) (most : ℕ) (marks : List Bool) → IsKept t → IsTimed n t → length marks ≡ length t.arrays.items
    → length (all (lease_at t) (length t.arrays.items)) + length (all (pending_at t) (length t.arrays.items)) ≤ most → IsClearing new by n t t [] [] most marks marks
unfolding dues
clearing-first new by n t most marks kept timed flags room = record {
  ending = ending-begins (untaken new) (left_untaken new) (told_taken new by n) (told_cut new by n) t [] marks;
  kept = kept;
  timed = timed;
  flags = flags;
  room = omega (
    arith,
    few-taken new by n (all (lease_at t) (length t.arrays.items)),
    few-cut new by n (all (pending_at t) (length t.arrays.items)),
    length-append (flat_map (told_taken new by n) (all (lease_at t) (length t.arrays.items))) (flat_map (told_cut new by n) (all (pending_at t) (length t.arrays.items))),
  );
}

pub set-stays : (marks : List Bool) (p a : ℕ) → p < length marks → get_or marks a false ≡ true → get_or (set marks p true) a false ≡ true
set-stays marks p a within there = elim (cases_eq a p) [
  | inl is ↦ ap (λ k. get_or (set marks p true) k false) is ∙ get_or-set_same marks p true false within
  | inr differs ↦ get_or-set_other marks p a true false differs ∙ there
]

-- a point that is not touched has no new lease
pub none-new : (new : List Lease) (marks : List Bool) (p q : ℕ) → AllByRecursion (λ lease. get_or marks lease.point false ≡ true) new → get_or marks p false ≡ false → find (is_at p q) new ≡ None
none-new [] marks p q every unset = refl
none-new (x ∷ xs) marks p q every unset =
    let rest = none-new xs marks p q every.1 unset in
    cond_both (is_at p q x) (Some x) (find (is_at p q) xs) (λ o. o ≡ None)
    (λ here. let is : x.point ≡ p = grind (arith, nat_tests) in let there : get_or marks p false ≡ true = ap (λ k. get_or marks k false) (sym is) ∙ every.0 in absurd (cc)) (λ _. rest)
