-- Time passes slot by slot: what a lease or a reversion whose timer went off leaves of the whole.
use Rattle.std.proofs.Common.{◌≡◌, ◌≢◌, ℕ, ◌+◌, ◌*◌, ◌<◌, ◌≤◌, ◌==◌, nat_lt, nat_le, List, [], ◌∷◌, ◌++◌, length, map, set, get_or, Bool, true, false, ◌&&◌, cond, Option, Some, None, count_by, refl, ap, sym, ◌∙◌, subst, inl, inr, append-nil, arith}
use Rattle.std.specs.Option.{option_to_list, option_or}
use Rattle.std.specs.List.{flat_map}
use Rattle.std.proofs.lemmas.Bool.{cond_both}
use Rattle.std.proofs.lemmas.Bool.Decides.{nat_tests}
use Rattle.std.proofs.lemmas.List.{get_or_past, length-set, length-append}
use Rattle.std.proofs.lemmas.List.Sums.{sum_by-set}
use Rattle.std.proofs.lemmas.List.Sorted.{length_permutation}
use Rattle.boss_model.specs.declared.state.Lease.{Lease}
use Rattle.boss_model.specs.declared.state.Pending.{Pending}
use Rattle.boss_model.specs.Happenings.{reverted}
use Rattle.boss_model.specs.Reversions.{end_of, reversion_of}
use Rattle.boss_booking.specs.Books.{Telling}
use Rattle.law_due.specs.Due.{last_of_lease}
use Rattle.boss_booking.specs.Gathered.{lease_tellings, pending_tellings, plain}
use Rattle.law_due.specs.Playing.{IsEndable, IsPlayable, last_turn}
use Rattle.boss_slots.specs.Slots.{all, keep}
use Rattle.boss_slots.specs.Tables.{IsAwaited, IsBy, IsKept, IsMoved, IsTimed, lease_at, number, pending_at}
use Rattle.boss_slots.specs.Ending.{AreBy, IsAllBy, IsLeaseBy, IsPassable, IsPassing, IsPendingBy, dues, is_due, left_at, outlives}
use Rattle.boss_slots.specs.declared.tables.Tables.{Tables}
use Rattle.boss_slots.proofs.Gathers.{flat_map-append}
use Rattle.boss_slots.proofs.BySlot.{all-swapped}
use Rattle.boss_slots.proofs.Kept.{kept-retimed, lease-of_key, number-key, one-or-other, pending-of_key, pending-within, lease-within}
use Rattle.boss_slots.proofs.Ended.{dues-moved, ending-begins, ending-more, moved-moved, of_slot, unset}
use Rattle.boss_slots.proofs.Turns.{LeaseBy-later, PendingBy-later, of_lease-by, of_lease-later, of_lease-least, of_lease-reached, last_turn-by, last_turn-later, last_turn-least, last_turn-reached}

-- ---- tests of timers

-- a timer that was due and goes, or goes off after n, is one less that is due
pub fewer-due : (n key : ℕ) (timers : List (Option ℕ)) (to : Option ℕ) → IsBy n (get_or timers key None) → is_due n to ≡ false → count_by (is_due n) (set timers key to) < count_by (is_due n) timers
fewer-due n key timers to due later =
    let was : is_due n (get_or timers key None) ≡ true = was-due (get_or timers key None) due in
    let within : key < length timers = in-list (get_or timers key None) refl due in
    omega (arith, sum_by-set (λ t. cond (is_due n t) 1 0) timers key to None within, ap (λ b. cond {A = ℕ} b 1 0) was, ap (λ b. cond {A = ℕ} b 1 0) later)
  where
    was-due : (t : Option ℕ) → IsBy n t → is_due n t ≡ true
    was-due None by = absurd by
    was-due (Some timer) by = grind (arith, nat_tests)

    in-list : (t : Option ℕ) → get_or timers key None ≡ t → IsBy n t → key < length timers
    in-list None is by = absurd by
    in-list (Some timer) is by = grind (arith, get_or_past)

-- one that is set to go off after n is none more
pub no-more-due : (n key : ℕ) (timers : List (Option ℕ)) (to : Option ℕ) → key < length timers → is_due n to ≡ false → count_by (is_due n) (set timers key to) ≤ count_by (is_due n) timers
no-more-due n key timers to within later =
    omega (arith, sum_by-set (λ t. cond (is_due n t) 1 0) timers key to None within, ap (λ b. cond {A = ℕ} b 1 0) later)

-- ---- what a slot has to tell

lease-silent : (n : ℕ) (l : Lease) → nat_le l.until n ≡ false → lease_tellings n l ≡ []
lease-silent n l lives = rw lives refl

pub pending-silent : (n : ℕ) (r : Pending) → n < end_of r → pending_tellings n r ≡ []
pending-silent n r runs = cond_both (nat_le (end_of r) n) (reverted r r.steps) [] (λ hs. map plain hs ≡ []) (λ wrong. absurd (grind (arith, nat_tests))) (λ _. refl)

pub left-silent : (n : ℕ) (r : Pending) → of_slot (pending_tellings n) (keep (λ x. nat_lt n (end_of x)) (Some r)) ≡ []
left-silent n r = cond_both (nat_lt n (end_of r)) (Some r) None (λ o. of_slot (pending_tellings n) o ≡ []) (λ runs. append-nil (pending_tellings n r) ∙ pending-silent n r (grind (arith, nat_tests))) (λ _. refl)

-- ---- a slot is taken up

module _ (n began last reached : ℕ) (now after : Tables) (said : List Telling) (most : ℕ) (marks : List Bool) (p q : ℕ) (lo : Option Lease) (po : Option Pending) (w : List Telling)
    (s : IsPassable n last now said most marks) (kept : IsKept after) (timed : IsTimed reached after)
    (moved : IsMoved now after p q lo po) (within : p < length now.arrays.items) (low : 1 ≤ q) (high : q ≤ 16) (later : last ≤ reached) (up : reached ≤ n)
    (tells : of_slot (lease_tellings n) (lease_at now p q) ++ of_slot (pending_tellings n) (pending_at now p q) ≡ w ++ (of_slot (lease_tellings n) lo ++ of_slot (pending_tellings n) po))
    (endable : (lease : Lease) → lo ≡ Some lease → IsEndable lease) (playable : (r : Pending) → po ≡ Some r → IsPlayable r × (r.start ≤ n)) where
  lease-same : (P : Lease → Type 0) → ((lease : Lease) → lo ≡ Some lease → P lease) → ((a b : ℕ) (lease : Lease) → lease_at now a b ≡ Some lease → P lease) → (a b : ℕ) (lease : Lease) → lease_at after a b ≡ Some lease → P lease
  lease-same P here there a b lease is = elim (one-or-other p q a b) [
    | inl (one, two) ↦ here lease (sym moved.lease ∙ sym (ap (λ k. lease_at after k b) one ∙ ap (lease_at after p) two) ∙ is)
    | inr differs ↦ there a b lease (sym (moved.others a b differs).0 ∙ is)
  ]

  pending-same : (P : Pending → Type 0) → ((r : Pending) → po ≡ Some r → P r) → ((a b : ℕ) (r : Pending) → pending_at now a b ≡ Some r → P r) → (a b : ℕ) (r : Pending) → pending_at after a b ≡ Some r → P r
  pending-same P here there a b r is = elim (one-or-other p q a b) [
    | inl (one, two) ↦ here r (sym moved.pending ∙ sym (ap (λ k. pending_at after k b) one ∙ ap (pending_at after p) two) ∙ is)
    | inr differs ↦ there a b r (sym (moved.others a b differs).1 ∙ is)
  ]

  pub passable-more : IsPassable n reached after (said ++ w) most (set marks p true)
  passable-more = record {
    kept = kept;
    timed = timed;
    reached = up;
    endable = lease-same IsEndable endable s.endable;
    playable = pending-same (λ r. IsPlayable r × (r.start ≤ n)) playable s.playable;
    flags = length-set marks p true ∙ s.flags ∙ sym moved.points;
    room = omega (
      arith,
      s.room,
      length-append said w,
      length-append w (dues (lease_tellings n) (pending_tellings n) after),
      length_permutation (dues (lease_tellings n) (pending_tellings n) now) (w ++ dues (lease_tellings n) (pending_tellings n) after) (dues-moved (lease_tellings n) (pending_tellings n) now after p q lo po w moved within low high tells),
    );
  }

  module _ (first : Tables) (said_before : List Telling) (marks_before : List Bool) (e : IsPassing n began last first now said_before said marks_before marks)
      (stayed : keep (outlives n) lo ≡ keep (outlives n) (lease_at now p q)) (leaves : left_at n lo po ≡ left_at n (lease_at now p q) (pending_at now p q))
      (back : (u : ℕ) → reached ≤ u → IsLeaseBy n u lo → IsPendingBy n u po → IsLeaseBy n u (lease_at now p q) × IsPendingBy n u (pending_at now p q))
      (on : (u : ℕ) → last ≤ u → IsLeaseBy n u (lease_at now p q) → IsPendingBy n u (pending_at now p q) → (reached ≤ u) × IsLeaseBy n u lo × IsPendingBy n u po)
      (others : (a b : ℕ) → a ≢ p → 1 ≤ b → b ≤ 16 → get_or after.timers (16 * length after.arrays.items + number a b) None ≡ get_or now.timers (16 * length now.arrays.items + number a b) None)
      (inside : (a b : ℕ) (r : Pending) → pending_at now a b ≡ Some r → (1 ≤ b) × (b ≤ 16)) where
    all-back : (u : ℕ) → reached ≤ u → IsAllBy n u after → IsAllBy n u now
    all-back u from every a b = elim (one-or-other p q a b) [
      | inl (one, two) ↦
          let here = every p q in
          let x = back u from (subst (IsLeaseBy n u) moved.lease here.0) (subst (IsPendingBy n u) moved.pending here.1) in
          (subst (IsLeaseBy n u) (sym (ap (λ k. lease_at now k b) one ∙ ap (lease_at now p) two)) x.0, subst (IsPendingBy n u) (sym (ap (λ k. pending_at now k b) one ∙ ap (pending_at now p) two)) x.1)
      | inr differs ↦ (subst (IsLeaseBy n u) (moved.others a b differs).0 (every a b).0, subst (IsPendingBy n u) (moved.others a b differs).1 (every a b).1)
    ]

    all-on : (u : ℕ) → last ≤ u → IsAllBy n u now → (reached ≤ u) × IsAllBy n u after
    all-on u from every =
        let x = on u from (every p q).0 (every p q).1 in (
          x.0,
          λ a b. elim (one-or-other p q a b) [
            | inl (one, two) ↦
                (subst (IsLeaseBy n u) (sym (ap (λ k. lease_at after k b) one ∙ ap (lease_at after p) two ∙ moved.lease)) x.1, subst (IsPendingBy n u) (sym (ap (λ k. pending_at after k b) one ∙ ap (pending_at after p) two ∙ moved.pending)) x.2)
            | inr differs ↦ (subst (IsLeaseBy n u) (sym (moved.others a b differs).0) (every a b).0, subst (IsPendingBy n u) (sym (moved.others a b differs).1) (every a b).1)
          ],
        )

    pub passing-more : IsPassing n began reached first after said_before (said ++ w) marks_before (set marks p true)
    passing-more = record {
      ending = ending-more (outlives n) (left_at n) (lease_tellings n) (pending_tellings n) first now after said_before said marks_before marks p q lo po w e.ending moved within low high s.flags tells stayed leaves;
      later = let early = e.later in omega arith;
      covered = λ u from every. e.covered u (omega arith) (all-back u from every);
      least = λ u from every. let x = e.least u from every in all-on u x.0 x.1;
      waiting = λ a none b r is.
          let was = unset (outlives n) (left_at n) (lease_tellings n) (pending_tellings n) first now after said_before said marks_before marks p q lo po w e.ending moved within low high s.flags tells stayed leaves a none in
          let before : pending_at now a b ≡ Some r = sym (moved.others a b (λ is' _. was.0 is')).1 ∙ is in
          let at = inside a b r before in
          subst (IsAwaited began r) (sym (others a b was.0 at.0 at.1)) (e.waiting a was.1 b r before);
    }

-- ---- a lease that has ended

pub ended-tells : (n : ℕ) (l : Lease) → of_slot (lease_tellings n) (Some l) ++ of_slot (pending_tellings n) None ≡ lease_tellings n l ++ (of_slot (lease_tellings n) None ++ of_slot (pending_tellings n) (keep (λ x. nat_lt n (end_of x)) (Some (reversion_of l))))
ended-tells n l = append-nil (lease_tellings n l ++ []) ∙ ap (λ zs. lease_tellings n l ++ zs) (sym (left-silent n (reversion_of l)))

pub ended-stays : (n : ℕ) (l : Lease) → l.until ≤ n → keep (outlives n) None ≡ keep (outlives n) (Some l)
ended-stays n l ended = cond_both (nat_lt n l.until) (Some l) None (λ o. None ≡ o) (λ wrong. absurd (grind (arith, nat_tests))) (λ _. refl)

pub twice : {X : Type 0} (test : X → Bool) (o : Option X) → keep test (option_or (keep test o) None) ≡ keep test o
twice test None = refl
twice test (Some x) = cond_both (test x) (Some x) None (λ r. keep test (option_or r None) ≡ r) (λ yes. rw yes refl) (λ _. refl)

pub ended-leaves : (n : ℕ) (l : Lease) → l.until ≤ n → left_at n None (keep (λ x. nat_lt n (end_of x)) (Some (reversion_of l))) ≡ left_at n (Some l) None
ended-leaves n l ended =
    let yes : nat_le l.until n ≡ true = grind (arith, nat_tests) in
    rw yes (twice (λ x. nat_lt n (end_of x)) (Some (reversion_of l)))

-- what is kept of an item, where P holds of the item or is nothing to show
pub by-kept : (n u : ℕ) (r : Pending) → AreBy n u r.start r.steps → IsPendingBy n u (keep (λ x. nat_lt n (end_of x)) (Some r))
by-kept n u r by = cond_both (nat_lt n (end_of r)) (Some r) None (IsPendingBy n u) (λ _. by) (λ _. tt)

-- ---- a reversion whose step has ended

pub passed-leaves : (n : ℕ) (r : Pending) → left_at n None (keep (λ x. nat_lt n (end_of x)) (Some r)) ≡ left_at n None (Some r)
passed-leaves n r = twice (λ x. nat_lt n (end_of x)) (Some r)

pub passed-tells : (n : ℕ) (r : Pending) → of_slot (lease_tellings n) None ++ of_slot (pending_tellings n) (Some r) ≡ pending_tellings n r ++ (of_slot (lease_tellings n) None ++ of_slot (pending_tellings n) (keep (λ x. nat_lt n (end_of x)) (Some r)))
passed-tells n r = append-nil (pending_tellings n r) ∙ sym (ap (λ zs. pending_tellings n r ++ zs) (left-silent n r) ∙ append-nil (pending_tellings n r))

-- ---- the whole of one turn

module _ (n last : ℕ) (t0 t1 t2 : Tables) (key : ℕ) (l : Lease) (said : List Telling) (most : ℕ) (marks : List Bool) (s : IsPassable n last t0 said most marks)
    (there : get_or t0.leases key None ≡ Some l) (ended : l.until ≤ n) (m1 : IsMoved t0 t1 l.point l.priority None None) where
  slot-of : (lease_at t0 l.point l.priority ≡ Some l) × (pending_at t0 l.point l.priority ≡ None)
  slot-of = lease-of_key t0 key l s.kept there

  pub slot-in : (l.point < length t0.arrays.items) × (1 ≤ l.priority) × (l.priority ≤ 16)
  slot-in = lease-within t0 s.kept l.point l.priority l slot-of.0

  pub lease-endable : IsEndable l
  lease-endable = s.endable l.point l.priority l slot-of.0

  pub lease-room : length said + length (lease_tellings n l) ≤ most
  lease-room =
      let at = slot-in in
      let tells : of_slot (lease_tellings n) (lease_at t0 l.point l.priority) ++ of_slot (pending_tellings n) (pending_at t0 l.point l.priority) ≡ lease_tellings n l ++ [] = rw (slot-of.0, slot-of.1) (append-nil (lease_tellings n l ++ [])) in
      omega (
        arith,
        s.room,
        length-append (lease_tellings n l) (dues (lease_tellings n) (pending_tellings n) t1),
        length_permutation (dues (lease_tellings n) (pending_tellings n) t0) (lease_tellings n l ++ dues (lease_tellings n) (pending_tellings n) t1)
            (dues-moved (lease_tellings n) (pending_tellings n) t0 t1 l.point l.priority None None (lease_tellings n l) m1 at.0 at.1 at.2 tells),
      )

  module _ (kept : IsKept t2) (timed : IsTimed (last_of_lease n last l) t2) (m2 : IsMoved t1 t2 l.point l.priority None (keep (λ r. nat_lt n (end_of r)) (Some (reversion_of l)))) where
    both-moved : IsMoved t0 t2 l.point l.priority None (keep (λ r. nat_lt n (end_of r)) (Some (reversion_of l)))
    both-moved = moved-moved t0 t1 t2 l.point l.priority None None None (keep (λ r. nat_lt n (end_of r)) (Some (reversion_of l))) m1 m2

    lease-tells : of_slot (lease_tellings n) (lease_at t0 l.point l.priority) ++ of_slot (pending_tellings n) (pending_at t0 l.point l.priority)
        ≡ lease_tellings n l ++ (of_slot (lease_tellings n) None ++ of_slot (pending_tellings n) (keep (λ r. nat_lt n (end_of r)) (Some (reversion_of l))))
    lease-tells = rw (slot-of.0, slot-of.1) (ended-tells n l)

    then-playable : (r : Pending) → keep (λ x. nat_lt n (end_of x)) (Some (reversion_of l)) ≡ Some r → IsPlayable r × (r.start ≤ n)
    then-playable r is = cond_both (nat_lt n (end_of (reversion_of l))) (Some (reversion_of l)) None (λ o. o ≡ Some r → IsPlayable r × (r.start ≤ n))
        (λ _ same. let it : reversion_of l ≡ r = cc in subst (λ (x : Pending). IsPlayable x × (x.start ≤ n)) it (lease-endable, ended)) (λ _ wrong. absurd (cc)) is

    pub passable-lease : IsPassable n (last_of_lease n last l) t2 (said ++ lease_tellings n l) most (set marks l.point true)
    passable-lease = let at = slot-in in
        passable-more n 0 last (last_of_lease n last l) t0 t2 said most marks l.point l.priority None (keep (λ r. nat_lt n (end_of r)) (Some (reversion_of l))) (lease_tellings n l)
        s kept timed both-moved at.0 at.1 at.2 (of_lease-later n last l) (of_lease-reached n last l s.reached) lease-tells (λ lease wrong. absurd (cc)) then-playable

    pub passing-lease : (began : ℕ) (first : Tables) (said_before : List Telling) (marks_before : List Bool) → IsPassing n began last first t0 said_before said marks_before marks
        → ((a b : ℕ) → a ≢ l.point → 1 ≤ b → b ≤ 16 → get_or t2.timers (16 * length t2.arrays.items + number a b) None ≡ get_or t0.timers (16 * length t0.arrays.items + number a b) None)
        → IsPassing n began (last_of_lease n last l) first t2 said_before (said ++ lease_tellings n l) marks_before (set marks l.point true)
    passing-lease began first said_before marks_before e others = let at = slot-in in let here = slot-of in
        passing-more n began last (last_of_lease n last l) t0 t2 said most marks l.point l.priority None (keep (λ r. nat_lt n (end_of r)) (Some (reversion_of l))) (lease_tellings n l)
        s kept timed both-moved at.0 at.1 at.2 (of_lease-later n last l) (of_lease-reached n last l s.reached) lease-tells (λ lease wrong. absurd (cc)) then-playable
        first said_before marks_before e
        (ended-stays n l ended ∙ ap (keep (outlives n)) (sym here.0))
        (ended-leaves n l ended ∙ sym (ap (λ o. left_at n o (pending_at t0 l.point l.priority)) here.0 ∙ ap (left_at n (Some l)) here.1))
        (λ u from _ _. (subst (IsLeaseBy n u) (sym here.0) (LeaseBy-later n (last_of_lease n last l) u (Some l) from (of_lease-by n last l)), subst (IsPendingBy n u) (sym here.1) tt))
        (λ u from by _. let mine = subst (IsLeaseBy n u) here.0 by in (of_lease-least n last u l from mine, tt, by-kept n u (reversion_of l) (mine ended).1))
        others
        (λ a b r is. let inside = pending-within t0 s.kept a b r is in (inside.1, inside.2))

module _ (n last : ℕ) (t0 t2 : Tables) (key : ℕ) (r : Pending) (said : List Telling) (most : ℕ) (marks : List Bool) (s : IsPassable n last t0 said most marks)
    (there : get_or t0.pending.items key None ≡ Some r) where
  turn-of : (lease_at t0 r.point r.priority ≡ None) × (pending_at t0 r.point r.priority ≡ Some r)
  turn-of = pending-of_key t0 key r s.kept there

  pub turn-in : (r.point < length t0.arrays.items) × (1 ≤ r.priority) × (r.priority ≤ 16)
  turn-in = pending-within t0 s.kept r.point r.priority r turn-of.1

  pub turn-playable : IsPlayable r × (r.start ≤ n)
  turn-playable = s.playable r.point r.priority r turn-of.1

  turn-tells : of_slot (lease_tellings n) (lease_at t0 r.point r.priority) ++ of_slot (pending_tellings n) (pending_at t0 r.point r.priority)
      ≡ pending_tellings n r ++ (of_slot (lease_tellings n) None ++ of_slot (pending_tellings n) (keep (λ x. nat_lt n (end_of x)) (Some r)))
  turn-tells = rw (turn-of.0, turn-of.1) (passed-tells n r)

  pub pending-room' : length said + length (pending_tellings n r) ≤ most
  unfolding dues
  pending-room' =
      let at = turn-in in
      let gone = all-swapped (pending_at t0) (λ a b. cond ((a == r.point) && (b == r.priority)) None (pending_at t0 a b)) (length t0.arrays.items) r.point r.priority at.0 at.1 at.2 (λ a b differs. grind (arith, nat_tests)) in
      omega (arith, s.room, told-within (length t0.arrays.items) gone.front gone.back (gone.before ∙ ap (λ o. gone.front ++ (option_to_list o ++ gone.back)) turn-of.1))
    where
      told-within : (points : ℕ) (front back : List Pending) → all (pending_at t0) points ≡ front ++ (r ∷ back) → length (pending_tellings n r) ≤ length (flat_map (lease_tellings n) (all (lease_at t0) points) ++ flat_map (pending_tellings n) (all (pending_at t0) points))
      told-within points front back is =
          omega (
            arith,
            length-append (flat_map (lease_tellings n) (all (lease_at t0) points)) (flat_map (pending_tellings n) (all (pending_at t0) points)),
            ap (λ xs. length (flat_map (pending_tellings n) xs)) is,
            ap length (flat_map-append (pending_tellings n) front (r ∷ back)),
            length-append (flat_map (pending_tellings n) front) (pending_tellings n r ++ flat_map (pending_tellings n) back),
            length-append (pending_tellings n r) (flat_map (pending_tellings n) back),
          )

  module _ (kept : IsKept t2) (timed : IsTimed (last_turn r.start r.steps last n) t2) (m2 : IsMoved t0 t2 r.point r.priority None (keep (λ x. nat_lt n (end_of x)) (Some r))) where
    still-playable : (x : Pending) → keep (λ y. nat_lt n (end_of y)) (Some r) ≡ Some x → IsPlayable x × (x.start ≤ n)
    still-playable x is = cond_both (nat_lt n (end_of r)) (Some r) None (λ o. o ≡ Some x → IsPlayable x × (x.start ≤ n))
        (λ _ same. let it : r ≡ x = cc in subst (λ (y : Pending). IsPlayable y × (y.start ≤ n)) it turn-playable) (λ _ wrong. absurd (cc)) is

    pub passable-pending : IsPassable n (last_turn r.start r.steps last n) t2 (said ++ pending_tellings n r) most (set marks r.point true)
    passable-pending = let at = turn-in in
        passable-more n 0 last (last_turn r.start r.steps last n) t0 t2 said most marks r.point r.priority None (keep (λ x. nat_lt n (end_of x)) (Some r)) (pending_tellings n r)
        s kept timed m2 at.0 at.1 at.2 (last_turn-later r.start r.steps last n) (last_turn-reached r.start r.steps last n s.reached) turn-tells (λ lease wrong. absurd (cc)) still-playable

    pub passing-pending : (began : ℕ) (first : Tables) (said_before : List Telling) (marks_before : List Bool) → IsPassing n began last first t0 said_before said marks_before marks
        → ((a b : ℕ) → a ≢ r.point → 1 ≤ b → b ≤ 16 → get_or t2.timers (16 * length t2.arrays.items + number a b) None ≡ get_or t0.timers (16 * length t0.arrays.items + number a b) None)
        → IsPassing n began (last_turn r.start r.steps last n) first t2 said_before (said ++ pending_tellings n r) marks_before (set marks r.point true)
    passing-pending began first said_before marks_before e others = let at = turn-in in let here = turn-of in
        passing-more n began last (last_turn r.start r.steps last n) t0 t2 said most marks r.point r.priority None (keep (λ x. nat_lt n (end_of x)) (Some r)) (pending_tellings n r)
        s kept timed m2 at.0 at.1 at.2 (last_turn-later r.start r.steps last n) (last_turn-reached r.start r.steps last n s.reached) turn-tells (λ lease wrong. absurd (cc)) still-playable
        first said_before marks_before e
        (ap (keep (outlives n)) (sym here.0))
        (passed-leaves n r ∙ sym (ap (λ o. left_at n o (pending_at t0 r.point r.priority)) here.0 ∙ ap (left_at n None) here.1))
        (λ u from _ _. (subst (IsLeaseBy n u) (sym here.0) tt, subst (IsPendingBy n u) (sym here.1) (PendingBy-later n (last_turn r.start r.steps last n) u (Some r) from (last_turn-by r.start r.steps last n))))
        (λ u from _ by. let mine = subst (IsPendingBy n u) here.1 by in (last_turn-least r.start r.steps last n u from mine, tt, by-kept n u r mine))
        others
        (λ a b x is. let inside = pending-within t0 s.kept a b x is in (inside.1, inside.2))

-- ---- a timer alone

module _ (n last : ℕ) (t : Tables) (timers : List (Option ℕ)) (said : List Telling) (most : ℕ) (marks : List Bool) (s : IsPassable n last t said most marks)
    (same : length timers ≡ length t.timers) (timed : IsTimed last (record t { timers = timers })) where
  pub passable-retimed : IsPassable n last (record t { timers = timers }) said most marks
  unfolding lease_at pending_at dues
  passable-retimed = record {
    kept = kept-retimed t timers s.kept same;
    timed = timed;
    reached = s.reached;
    endable = s.endable;
    playable = s.playable;
    flags = s.flags;
    room = s.room;
  }

  pub passing-retimed : (began : ℕ) (first : Tables) (said_before : List Telling) (marks_before : List Bool) → IsPassing n began last first t said_before said marks_before marks
      → ((p q : ℕ) (r : Pending) → pending_at t p q ≡ Some r → get_or timers (16 * length t.arrays.items + number p q) None ≡ get_or t.timers (16 * length t.arrays.items + number p q) None)
      → IsPassing n began last first (record t { timers = timers }) said_before said marks_before marks
  unfolding lease_at pending_at dues
  passing-retimed began first said_before marks_before e waits = record {
    ending = record {
      points = e.ending.points;
      leases = e.ending.leases;
      pending = e.ending.pending;
      told = e.ending.told;
      flags = e.ending.flags;
      touched = e.ending.touched;
      untouched = e.ending.untouched;
    };
    later = e.later;
    covered = e.covered;
    least = e.least;
    waiting = λ p none q r is. subst (IsAwaited began r) (sym (waits p q r is)) (e.waiting p none q r is);
  }

pub passing-begins : (n now : ℕ) (first : Tables) (said : List Telling) (marks : List Bool) → IsKept first → IsTimed now first → IsPassing n now now first first said said marks marks
passing-begins n now first said marks kept timed = record {
  ending = ending-begins (outlives n) (left_at n) (lease_tellings n) (pending_tellings n) first said marks;
  later = omega arith;
  covered = λ u from every. every;
  least = λ u from every. (from, every);
  waiting = λ p none q r is. timed.turn (number p q) r (number-key first p q r kept is);
}
