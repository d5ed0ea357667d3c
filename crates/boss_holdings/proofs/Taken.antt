-- New leases take their slots: what one slot that is cleared or filled leaves of the whole, and the whole at the end, in lists.
use Rattle.std.proofs.Common.{◌≡◌, ◌⊎◌, ℕ, zero, suc, ◌+◌, ◌<◌, ◌≤◌, ◌==◌, List, [], ◌∷◌, ◌++◌, length, map, set, get_or, take, Bool, true, false, not, ◌&&◌, cond, Option, Some, None, refl, ap, sym, ◌∙◌, subst, inl, inr, append-nil, arith}
use Rattle.std.specs.Option.{option_to_list, option_or}
use Rattle.std.specs.List.{filter, find, flat_map, AllByRecursion}
use Rattle.std.specs.List.Sorted.{IsPermutation}
use Rattle.std.proofs.lemmas.Bool.{cond_both}
use Rattle.std.proofs.lemmas.Bool.Decides.{nat_tests}
use Rattle.std.proofs.lemmas.List.{length-append, length-set}
use Rattle.std.proofs.lemmas.List.Folds.{find-append}
use Rattle.std.proofs.lemmas.List.Sorted.{IsPermutation-sym, IsPermutation-trans, IsPermutation-append_left, IsPermutation-append_comm, length_permutation}
use Rattle.boss_model.specs.declared.state.Lease.{Lease}
use Rattle.boss_model.specs.declared.state.Pending.{Pending}
use Rattle.boss_model.specs.Order.{in_order}
use Rattle.boss_model.specs.State.{lease_slot}
use Rattle.boss_model.specs.Submit.{cut, is_taken, superseded}
use Rattle.law_time.proofs.Orders.{each-both, each-map}
use Rattle.law_time.proofs.Slots.{any-append}
use Rattle.boss_booking.specs.Books.{Telling}
use Rattle.boss_booking.specs.Gathered.{plain}
use Rattle.boss_slots.specs.Slots.{all, keep}
use Rattle.boss_holdings.specs.Held.{AreApart, is_at}
use Rattle.boss_slots.specs.Tables.{IsKept, IsMoved, IsTimed, lease_at, pending_at}
use Rattle.boss_slots.specs.Ending.{IsClearing, dues, left_untaken, replaced_at, told_cut, told_taken, untaken}
use Rattle.boss_slots.specs.declared.tables.Tables.{Tables}
use Rattle.boss_slots.proofs.BySlot.{all-both, all-swapped, all-in_order, all-same, each-all, filter-all_slots, found-new, keep-all}
use Rattle.boss_slots.proofs.Kept.{lease-placed, one-or-other, pending-placed}
use Rattle.boss_slots.proofs.Gathers.{flat_map-append}
use Rattle.boss_slots.proofs.Ended.{dues-moved, ending-more, of_slot}

-- ---- new leases, each of another slot

pub apart-front : (xs : List Lease) (x : Lease) → AreApart (xs ++ x ∷ []) → AreApart xs × (is_taken xs x.point x.priority ≡ false)
apart-front [] x apart = (tt, refl)
apart-front (y ∷ ys) x apart =
    let rest = apart-front ys x apart.1 in
    let both = any-append (λ (lease : Lease). (lease.point == y.point) && (lease.priority == y.priority)) ys (x ∷ []) in
    let none = apart.0 in let r1 = rest.1 in
    (((grind (arith, nat_tests)), rest.0), (grind (arith, nat_tests)))

pub none-taken : (xs : List Lease) (p q : ℕ) → is_taken xs p q ≡ false → AllByRecursion (λ (y : Lease). y.point ≡ p → y.priority ≡ q → ⊥) xs
none-taken [] p q none = tt
none-taken (x ∷ xs) p q none = ((λ one two. let here : ((x.point == p) && (x.priority == q)) ≡ true = grind (arith, nat_tests) in absurd (grind (arith, here))), none-taken xs p q (grind (arith, none)))

-- what was found in no slot but that of the last one
pub found-last : (xs : List Lease) (x : Lease) (p q : ℕ) (o : Option Lease) → option_or (find (is_at p q) (xs ++ x ∷ [])) o ≡ option_or (find (is_at p q) xs) (cond (is_at p q x) (Some x) o)
found-last xs x p q o = ap (λ f. option_or f o) (find-append (is_at p q) xs (x ∷ [])) ∙ joined (find (is_at p q) xs) (is_at p q x)
  where
    joined : (f : Option Lease) (b : Bool) → option_or (option_or f (cond b (Some x) None)) o ≡ option_or f (cond b (Some x) o)
    joined None true = refl
    joined None false = refl
    joined (Some y) b = refl

module _ (now after : Tables) (xs : List Lease) (x : Lease) (moved : IsMoved now after x.point x.priority (Some x) None) where
  pub leases-put : (p q : ℕ) → option_or (find (is_at p q) xs) (lease_at after p q) ≡ option_or (find (is_at p q) (xs ++ x ∷ [])) (lease_at now p q)
  leases-put p q = elim (one-or-other x.point x.priority p q) [
    | inl (one, two) ↦
        let here : is_at p q x ≡ true = grind (arith, nat_tests) in
        ap (option_or (find (is_at p q) xs)) (ap (λ a. lease_at after a q) one ∙ ap (lease_at after x.point) two ∙ moved.lease)
        ∙ sym (found-last xs x p q (lease_at now p q) ∙ ap (λ b. option_or (find (is_at p q) xs) (cond b (Some x) (lease_at now p q))) here)
    | inr differs ↦
        let other : is_at p q x ≡ false = cond_both (is_at p q x) true false (λ b. is_at p q x ≡ b → is_at p q x ≡ false) (λ there _. absurd (differs (grind (arith, nat_tests)) (grind (arith, nat_tests)))) (λ out _. out) (grind arith) in
        ap (option_or (find (is_at p q) xs)) (moved.others p q differs).0
        ∙ sym (found-last xs x p q (lease_at now p q) ∙ ap (λ b. option_or (find (is_at p q) xs) (cond b (Some x) (lease_at now p q))) other)
  ]

  pub pending-put : pending_at now x.point x.priority ≡ None → (p q : ℕ) → pending_at after p q ≡ pending_at now p q
  pending-put none p q = elim (one-or-other x.point x.priority p q) [
    | inl (one, two) ↦ ap (λ a. pending_at after a q) one ∙ ap (pending_at after x.point) two ∙ moved.pending ∙ sym none ∙ sym (ap (λ a. pending_at now a q) one ∙ ap (pending_at now x.point) two)
    | inr differs ↦ (moved.others p q differs).1
  ]

  pub clear-put : (ys : List Lease) → is_taken ys x.point x.priority ≡ false → AllByRecursion (λ (y : Lease). (lease_at now y.point y.priority ≡ None) × (pending_at now y.point y.priority ≡ None)) ys
      → AllByRecursion (λ (y : Lease). (lease_at after y.point y.priority ≡ None) × (pending_at after y.point y.priority ≡ None)) ys
  clear-put ys none clear =
      each-map (λ (y : Lease). (y.point ≡ x.point → y.priority ≡ x.priority → ⊥) × ((lease_at now y.point y.priority ≡ None) × (pending_at now y.point y.priority ≡ None)))
      (λ (y : Lease). (lease_at after y.point y.priority ≡ None) × (pending_at after y.point y.priority ≡ None))
      (λ y both. let same = moved.others y.point y.priority both.0 in (same.0 ∙ both.1.0, same.1 ∙ both.1.1)) ys
      (each-both (λ (y : Lease). y.point ≡ x.point → y.priority ≡ x.priority → ⊥) (λ (y : Lease). (lease_at now y.point y.priority ≡ None) × (pending_at now y.point y.priority ≡ None)) ys (none-taken ys x.point x.priority none) clear)

-- ---- a slot is cleared

taken-tells : (new : List Lease) (by n p q : ℕ) (lo : Option Lease) (po : Option Pending) → is_taken new p q ≡ true → ((l : Lease) → lo ≡ Some l → (l.point ≡ p) × (l.priority ≡ q)) → ((r : Pending) → po ≡ Some r → (r.point ≡ p) × (r.priority ≡ q)) →
    of_slot (told_taken new by n) lo ++ of_slot (told_cut new by n) po ≡ replaced_at by n lo po ++ []
taken-tells new by n p q None None there lp pp = refl
taken-tells new by n p q (Some l) None there lp pp =
    let at = lp l refl in let yes' : is_taken new l.point l.priority ≡ true = ap (λ a. is_taken new a l.priority) at.0 ∙ ap (is_taken new p) at.1 ∙ there in rw yes' refl
taken-tells new by n p q None (Some r) there lp pp =
    let at = pp r refl in let yes' : is_taken new r.point r.priority ≡ true = ap (λ a. is_taken new a r.priority) at.0 ∙ ap (is_taken new p) at.1 ∙ there in rw yes' refl
taken-tells new by n p q (Some l) (Some r) there lp pp =
    let at = lp l refl in let yes' : is_taken new l.point l.priority ≡ true = ap (λ a. is_taken new a l.priority) at.0 ∙ ap (is_taken new p) at.1 ∙ there in
    let at' = pp r refl in let yes'' : is_taken new r.point r.priority ≡ true = ap (λ a. is_taken new a r.priority) at'.0 ∙ ap (is_taken new p) at'.1 ∙ there in rw (yes', yes'') refl

untaken-none : (new : List Lease) (p q : ℕ) (lo : Option Lease) → is_taken new p q ≡ true → ((l : Lease) → lo ≡ Some l → (l.point ≡ p) × (l.priority ≡ q)) → keep (untaken new) None ≡ keep (untaken new) lo
untaken-none new p q None there lp = refl
untaken-none new p q (Some l) there lp = let at = lp l refl in let yes' : is_taken new l.point l.priority ≡ true = ap (λ a. is_taken new a l.priority) at.0 ∙ ap (is_taken new p) at.1 ∙ there in rw yes' refl

untaken-gone : (new : List Lease) (p q : ℕ) (lo : Option Lease) (po : Option Pending) → is_taken new p q ≡ true → ((r : Pending) → po ≡ Some r → (r.point ≡ p) × (r.priority ≡ q)) → left_untaken new None None ≡ left_untaken new lo po
untaken-gone new p q lo None there pp = refl
untaken-gone new p q lo (Some r) there pp = let at = pp r refl in let yes' : is_taken new r.point r.priority ≡ true = ap (λ a. is_taken new a r.priority) at.0 ∙ ap (is_taken new p) at.1 ∙ there in rw yes' refl

module _ (new : List Lease) (by n : ℕ) (first now after : Tables) (said_before said : List Telling) (most : ℕ) (marks_before marks : List Bool) (p q : ℕ)
    (o : IsClearing new by n first now said_before said most marks_before marks) (there : is_taken new p q ≡ true) (within : p < length now.arrays.items) (low : 1 ≤ q) (high : q ≤ 16)
    (moved : IsMoved now after p q None None) where
  its-tells : of_slot (told_taken new by n) (lease_at now p q) ++ of_slot (told_cut new by n) (pending_at now p q) ≡ replaced_at by n (lease_at now p q) (pending_at now p q) ++ []
  its-tells = taken-tells new by n p q (lease_at now p q) (pending_at now p q) there (lease-placed now o.kept p q) (pending-placed now o.kept p q)

  counted : length (dues (told_taken new by n) (told_cut new by n) now) ≡ length (replaced_at by n (lease_at now p q) (pending_at now p q)) + length (dues (told_taken new by n) (told_cut new by n) after)
  counted = sym (length_permutation (dues (told_taken new by n) (told_cut new by n) now) (replaced_at by n (lease_at now p q) (pending_at now p q) ++ dues (told_taken new by n) (told_cut new by n) after)
      (dues-moved (told_taken new by n) (told_cut new by n) now after p q None None (replaced_at by n (lease_at now p q) (pending_at now p q)) moved within low high its-tells))
      ∙ length-append (replaced_at by n (lease_at now p q) (pending_at now p q)) (dues (told_taken new by n) (told_cut new by n) after)

  pub clearing-more : IsKept after → IsTimed n after → IsClearing new by n first after said_before (said ++ replaced_at by n (lease_at now p q) (pending_at now p q)) most marks_before (set marks p true)
  clearing-more kept timed = record {
    ending = ending-more (untaken new) (left_untaken new) (told_taken new by n) (told_cut new by n) first now after said_before said marks_before marks p q None None (replaced_at by n (lease_at now p q) (pending_at now p q))
        o.ending moved within low high o.flags its-tells (untaken-none new p q (lease_at now p q) there (lease-placed now o.kept p q)) (untaken-gone new p q (lease_at now p q) (pending_at now p q) there (pending-placed now o.kept p q));
    kept = kept;
    timed = timed;
    flags = length-set marks p true ∙ o.flags ∙ sym moved.points;
    room = omega (arith, o.room, counted, length-append said (replaced_at by n (lease_at now p q) (pending_at now p q)));
  }

-- what stands in a slot that is taken has room to be told
pub clearing-room : (new : List Lease) (by n : ℕ) (first now : Tables) (said_before said : List Telling) (most : ℕ) (marks_before marks : List Bool) (p q : ℕ)
    → IsClearing new by n first now said_before said most marks_before marks → is_taken new p q ≡ true → p < length now.arrays.items → 1 ≤ q → q ≤ 16 → length said + length (replaced_at by n (lease_at now p q) (pending_at now p q)) ≤ most
unfolding dues
clearing-room new by n first now said_before said most marks_before marks p q o there within low high =
    let leases = all-swapped (lease_at now) (λ a b. cond ((a == p) && (b == q)) None (lease_at now a b)) (length now.arrays.items) p q within low high (λ a b differs. grind (arith, nat_tests)) in
    let pending = all-swapped (pending_at now) (λ a b. cond ((a == p) && (b == q)) None (pending_at now a b)) (length now.arrays.items) p q within low high (λ a b differs. grind (arith, nat_tests)) in
    let one = at-least (told_taken new by n) (all (lease_at now) (length now.arrays.items)) leases.front (lease_at now p q) leases.back leases.before in
    let two = at-least (told_cut new by n) (all (pending_at now) (length now.arrays.items)) pending.front (pending_at now p q) pending.back pending.before in
    let tells = ap length (taken-tells new by n p q (lease_at now p q) (pending_at now p q) there (lease-placed now o.kept p q) (pending-placed now o.kept p q)) in
    omega (
      arith,
      o.room,
      one,
      two,
      tells,
      length-append (of_slot (told_taken new by n) (lease_at now p q)) (of_slot (told_cut new by n) (pending_at now p q)),
      length-append (replaced_at by n (lease_at now p q) (pending_at now p q)) [],
      length-append (flat_map (told_taken new by n) (all (lease_at now) (length now.arrays.items))) (flat_map (told_cut new by n) (all (pending_at now) (length now.arrays.items))),
    )
  where
    at-least : {X : Type 0} (t : X → List Telling) (xs front : List X) (o' : Option X) (back : List X) → xs ≡ front ++ (option_to_list o' ++ back) → length (of_slot t o') ≤ length (flat_map t xs)
    at-least t xs front o' back split =
        omega (
          arith,
          ap (λ zs. length (flat_map t zs)) split,
          ap length (flat_map-append t front (option_to_list o' ++ back)),
          length-append (flat_map t front) (flat_map t (option_to_list o' ++ back)),
          ap length (flat_map-append t (option_to_list o') back),
          length-append (of_slot t o') (flat_map t back),
        )

-- ---- slots that were seen

pub each-take-more : {X : Type 0} (P : X → Type 0) (xs : List X) (i : ℕ) (x : X) → i < length xs → x ≡ get_or xs i x → AllByRecursion P (take i xs) → P x → AllByRecursion P (take (i + 1) xs)
each-take-more P [] i x within is every here = absurd (omega arith)
each-take-more P (y ∷ ys) zero x within is every here = (subst P is here, tt)
each-take-more P (y ∷ ys) (suc i) x within is every here =
    let next : suc i + 1 ≡ suc (i + 1) = omega arith in
    subst (λ k. AllByRecursion P (take k (y ∷ ys))) (sym next) (every.0, each-take-more P ys i x (omega arith) is every.1 here)

pub each-got : {X : Type 0} (P : X → Type 0) (xs : List X) (i : ℕ) (x : X) → AllByRecursion P xs → i < length xs → x ≡ get_or xs i x → P x
each-got P [] i x every within is = absurd (omega arith)
each-got P (y ∷ ys) zero x every within is = subst P (sym is) every.0
each-got P (y ∷ ys) (suc i) x every within is = each-got P ys i x every.1 (omega arith) is

pub taken-item : (xs : List Lease) (i : ℕ) (x : Lease) → i < length xs → x ≡ get_or xs i x → is_taken xs x.point x.priority ≡ true
taken-item [] i x within is = absurd (omega arith)
taken-item (y ∷ ys) zero x within is = let one : y.point ≡ x.point = ap (λ (z : Lease). z.point) (sym is) in let two : y.priority ≡ x.priority = ap (λ (z : Lease). z.priority) (sym is) in grind (arith, nat_tests)
taken-item (y ∷ ys) (suc i) x within is = let rest = taken-item ys i x (omega arith) is in grind (arith, rest)

-- an empty slot stays empty as another one is cleared
pub none-moved : (now after : Tables) (p q a b : ℕ) → IsMoved now after p q None None → (lease_at now a b ≡ None) × (pending_at now a b ≡ None) → (lease_at after a b ≡ None) × (pending_at after a b ≡ None)
none-moved now after p q a b moved none = elim (one-or-other p q a b) [
  | inl (one, two) ↦ (ap (λ x. lease_at after x b) one ∙ ap (lease_at after p) two ∙ moved.lease, ap (λ x. pending_at after x b) one ∙ ap (pending_at after p) two ∙ moved.pending)
  | inr differs ↦ ((moved.others a b differs).0 ∙ none.0, (moved.others a b differs).1 ∙ none.1)
]

-- ---- the whole at the end

module _ (new : List Lease) (by n : ℕ) (first mid after : Tables) (said : List Telling) (most : ℕ) (marks_before marks : List Bool) (k : IsKept first) (o : IsClearing new by n first mid [] said most marks_before marks) (k' : IsKept after)
    (clear : AllByRecursion (λ lease. (lease_at mid lease.point lease.priority ≡ None) × (pending_at mid lease.point lease.priority ≡ None)) new) (apart : AreApart new)
    (within : AllByRecursion (λ lease. (lease.point < length first.arrays.items) × (1 ≤ lease.priority) × (lease.priority ≤ 16)) new)
    (leases : (p q : ℕ) → lease_at after p q ≡ option_or (find (is_at p q) new) (lease_at mid p q)) (pending : (p q : ℕ) → pending_at after p q ≡ pending_at mid p q) (points : length after.arrays.items ≡ length mid.arrays.items) where
  clear-at : (xs : List Lease) (p q : ℕ) → AllByRecursion (λ lease. (lease_at mid lease.point lease.priority ≡ None) × (pending_at mid lease.point lease.priority ≡ None)) xs → is_taken xs p q ≡ true → (lease_at mid p q ≡ None) × (pending_at mid p q ≡ None)
  clear-at [] p q every there = absurd (cc)
  clear-at (x ∷ xs) p q every there = cond_both ((x.point == p) && (x.priority == q)) true false (λ b. ((x.point == p) && (x.priority == q)) ≡ b → (lease_at mid p q ≡ None) × (pending_at mid p q ≡ None))
      (λ here _.
      let one : x.point ≡ p = grind (arith, nat_tests) in let two : x.priority ≡ q = grind (arith, nat_tests) in
      (ap (λ a. lease_at mid a q) (sym one) ∙ ap (lease_at mid x.point) (sym two) ∙ every.0.0, ap (λ a. pending_at mid a q) (sym one) ∙ ap (pending_at mid x.point) (sym two) ∙ every.0.1))
      (λ other _. clear-at xs p q every.1 (grind (arith, other))) (grind arith)

  not-taken : (p q : ℕ) (l : Lease) → lease_at mid p q ≡ Some l → is_taken new l.point l.priority ≡ false
  not-taken p q l is = cond_both (is_taken new l.point l.priority) true false (λ b. is_taken new l.point l.priority ≡ b → is_taken new l.point l.priority ≡ false)
      (λ there _. let at = lease-placed mid o.kept p q l is in let none = (clear-at new l.point l.priority clear there).0 in
      let here : lease_at mid p q ≡ None = ap (λ a. lease_at mid a q) (sym at.0) ∙ ap (lease_at mid l.point) (sym at.1) ∙ none in absurd (cc)) (λ other _. other) (grind arith)

  not-cut : (p q : ℕ) (r : Pending) → pending_at mid p q ≡ Some r → is_taken new r.point r.priority ≡ false
  not-cut p q r is = cond_both (is_taken new r.point r.priority) true false (λ b. is_taken new r.point r.priority ≡ b → is_taken new r.point r.priority ≡ false)
      (λ there _. let at = pending-placed mid o.kept p q r is in let none = (clear-at new r.point r.priority clear there).1 in
      let here : pending_at mid p q ≡ None = ap (λ a. pending_at mid a q) (sym at.0) ∙ ap (pending_at mid r.point) (sym at.1) ∙ none in absurd (cc)) (λ other _. other) (grind arith)

  mid-leases : (p q : ℕ) → lease_at mid p q ≡ keep (untaken new) (lease_at first p q)
  mid-leases p q = sym (keep-all (untaken new) (lease_at mid p q) (λ l is. rw (not-taken p q l is) refl)) ∙ o.ending.leases p q

  mid-pending : (p q : ℕ) → pending_at mid p q ≡ keep (λ r. not (is_taken new r.point r.priority)) (pending_at first p q)
  mid-pending p q = sym (keep-all (λ r. not (is_taken new r.point r.priority)) (pending_at mid p q) (λ r is. rw (not-cut p q r is) refl)) ∙ o.ending.pending p q

  pub taken-pending : all (pending_at after) (length after.arrays.items) ≡ filter (λ r. not (is_taken new r.point r.priority)) (all (pending_at first) (length first.arrays.items))
  taken-pending =
      ap (all (pending_at after)) (points ∙ o.ending.points)
      ∙ all-same (pending_at after) (λ p q. keep (λ r. not (is_taken new r.point r.priority)) (pending_at first p q)) (length first.arrays.items) (λ p q _ _ _. pending p q ∙ mid-pending p q)
      ∙ sym (filter-all_slots (λ r. not (is_taken new r.point r.priority)) (pending_at first) (length first.arrays.items))

  find-taken : (xs : List Lease) (p q : ℕ) (x : Lease) → find (is_at p q) xs ≡ Some x → is_taken xs p q ≡ true
  find-taken [] p q x is = absurd (cc)
  find-taken (y ∷ ys) p q x is = cond_both (is_at p q y) (Some y) (find (is_at p q) ys) (λ f. f ≡ Some x → is_taken (y ∷ ys) p q ≡ true) (λ here _. grind (arith, here)) (λ other there. let rest = find-taken ys p q x there in grind (arith, rest)) is

  or-none : (f : Option Lease) (p q : ℕ) → find (is_at p q) new ≡ f → (f ≡ None) ⊎ (keep (untaken new) (lease_at first p q) ≡ None)
  or-none None p q is = inl refl
  or-none (Some x) p q is = inr (sym (mid-leases p q) ∙ (clear-at new p q clear (find-taken new p q x is)).0)

  pub taken-leases : all (lease_at after) (length after.arrays.items) ≡ in_order lease_slot (filter (λ l. not (is_taken new l.point l.priority)) (all (lease_at first) (length first.arrays.items)) ++ new)
  taken-leases =
      let at = length first.arrays.items in
      let kept-leases = all (λ p q. keep (untaken new) (lease_at first p q)) at in
      let same = points ∙ o.ending.points in
      let both : IsPermutation (all (λ p q. find (is_at p q) new) at ++ kept-leases) (all (lease_at after) at) =
      all-both (λ p q. find (is_at p q) new) (λ p q. keep (untaken new) (lease_at first p q)) (lease_at after) at (λ p q. leases p q ∙ ap (option_or (find (is_at p q) new)) (mid-leases p q)) (λ p q. or-none (find (is_at p q) new) p q refl) in
      let mine : IsPermutation (all (λ p q. find (is_at p q) new) at) new = found-new (λ (l : Lease). l.point) (λ (l : Lease). l.priority) at new apart within in
      let moved : IsPermutation (all (lease_at after) at) (kept-leases ++ new) =
      IsPermutation-trans (all (lease_at after) at) (all (λ p q. find (is_at p q) new) at ++ kept-leases) (kept-leases ++ new) (IsPermutation-sym (all (λ p q. find (is_at p q) new) at ++ kept-leases) (all (lease_at after) at) both)
      (IsPermutation-trans (all (λ p q. find (is_at p q) new) at ++ kept-leases) (new ++ kept-leases) (kept-leases ++ new) (IsPermutation-append_left kept-leases (all (λ p q. find (is_at p q) new) at) new mine) (IsPermutation-append_comm new kept-leases)) in
      ap (all (lease_at after)) same
      ∙ sym (all-in_order (λ (l : Lease). l.point) (λ (l : Lease). l.priority) (lease_at after) at (kept-leases ++ new) (lease-placed after k') moved)
      ∙ ap (λ xs. in_order lease_slot (xs ++ new)) (sym (filter-all_slots (untaken new) (lease_at first) at))

  told-of : (ls : List Lease) (rs : List Pending) → flat_map (told_taken new by n) ls ++ flat_map (told_cut new by n) rs
      ≡ map plain (map (superseded by n) (filter (λ l. is_taken new l.point l.priority) ls) ++ map (cut by n) (filter (λ r. is_taken new r.point r.priority) rs))
  told-of [] [] = refl
  told-of [] (r ∷ rs) = cond_both (is_taken new r.point r.priority) (r ∷ filter (λ r. is_taken new r.point r.priority) rs) (filter (λ r. is_taken new r.point r.priority) rs)
      (λ xs. told_cut new by n r ++ flat_map (told_cut new by n) rs ≡ map plain (map (cut by n) xs)) (λ there. rw there (ap (λ zs. plain (cut by n r) ∷ zs) (told-of [] rs))) (λ other. rw other (told-of [] rs))
  told-of (l ∷ ls) rs = cond_both (is_taken new l.point l.priority) (l ∷ filter (λ l. is_taken new l.point l.priority) ls) (filter (λ l. is_taken new l.point l.priority) ls)
      (λ xs. (told_taken new by n l ++ flat_map (told_taken new by n) ls) ++ flat_map (told_cut new by n) rs ≡ map plain (map (superseded by n) xs ++ map (cut by n) (filter (λ r. is_taken new r.point r.priority) rs)))
      (λ there. rw there (ap (λ zs. plain (superseded by n l) ∷ zs) (told-of ls rs))) (λ other. rw other (told-of ls rs))

  none-of : (ls : List Lease) (rs : List Pending) → AllByRecursion (λ l. is_taken new l.point l.priority ≡ false) ls → AllByRecursion (λ r. is_taken new r.point r.priority ≡ false) rs → flat_map (told_taken new by n) ls ++ flat_map (told_cut new by n) rs ≡ []
  none-of [] [] a b = refl
  none-of [] (r ∷ rs) a b = rw b.0 (none-of [] rs a b.1)
  none-of (l ∷ ls) rs a b = rw a.0 (none-of ls rs a.1 b)

  pub taken-told : IsPermutation (map plain (map (superseded by n) (filter (λ l. is_taken new l.point l.priority) (all (lease_at first) (length first.arrays.items))) ++ map (cut by n) (filter (λ r. is_taken new r.point r.priority) (all (pending_at first) (length first.arrays.items))))) said
  unfolding dues
  taken-told =
      subst (λ zs. IsPermutation zs said) (told-of (all (lease_at first) (length first.arrays.items)) (all (pending_at first) (length first.arrays.items)))
      (subst (λ zs. IsPermutation (dues (told_taken new by n) (told_cut new by n) first) zs)
      (ap (λ zs. said ++ zs) (none-of (all (lease_at mid) (length mid.arrays.items)) (all (pending_at mid) (length mid.arrays.items))
      (each-all (λ l. is_taken new l.point l.priority ≡ false) (lease_at mid) (length mid.arrays.items) (λ p q l _ _ _ is. not-taken p q l is))
      (each-all (λ r. is_taken new r.point r.priority ≡ false) (pending_at mid) (length mid.arrays.items) (λ p q r _ _ _ is. not-cut p q r is))) ∙ append-nil said)
      o.ending.told)
