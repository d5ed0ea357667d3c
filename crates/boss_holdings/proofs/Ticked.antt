-- Time has passed: what stands then, what was told, and what the last due moment was, in lists.
use Rattle.std.proofs.Common.{◌≡◌, ◌⊎◌, ℕ, ℤ, ◌+◌, ◌*◌, ◌<◌, ◌≤◌, ◌==◌, nat_lt, nat_le, List, [], ◌∷◌, ◌++◌, length, map, get_or, Bool, true, false, ◌&&◌, cond, Option, Some, None, refl, ap, sym, ◌∙◌, subst, inl, inr, append-nil, arith}
use Rattle.std.specs.Option.{option_map, option_or}
use Rattle.std.specs.List.{filter, flat_map, fold, AllByRecursion}
use Rattle.std.specs.List.Sorted.{IsPermutation}
use Rattle.std.proofs.lemmas.Bool.{cond_both}
use Rattle.std.proofs.lemmas.Bool.Decides.{nat_tests}
use Rattle.std.proofs.lemmas.List.{length-append}
use Rattle.boss_model.specs.declared.state.Lease.{Lease}
use Rattle.boss_model.specs.declared.state.Pending.{Pending}
use Rattle.boss_model.specs.Order.{in_order, least}
use Rattle.boss_model.specs.Reversions.{courses, end_of, reversion_of, turns, value_at}
use Rattle.boss_model.specs.State.{pending_slot}
use Rattle.boss_model.specs.Target.{in_force, playing, value_of}
use Rattle.boss_model.specs.Time.{live, under_way}
use Rattle.boss_model.specs.Happenings.{reverted}
use Rattle.boss_model.specs.declared.command.Step.{Step}
use Rattle.boss_model.specs.declared.notice.Cause.TheVariants as cause
use Rattle.std.proofs.lemmas.List.Sorted.{IsPermutation-sym}
use Rattle.law_time.proofs.Orders.{each-filter, each-map, each-passed, least-of}
use Rattle.boss_booking.specs.Books.{Telling}
use Rattle.law_due.specs.Due.{last_of_lease, last_of_pending}
use Rattle.boss_booking.specs.Gathered.{ended_with, lease_tellings, pending_tellings, plain}
use Rattle.law_due.specs.Playing.{IsEndable, IsPlayable}
use Rattle.boss_slots.specs.Slots.{all, keep}
use Rattle.boss_slots.specs.Tables.{IsAwaited, IsBy, IsKept, IsTimed, lease_at, number, pending_at}
use Rattle.boss_slots.specs.Ending.{IsAllBy, IsLeaseBy, IsPassable, IsPassing, IsPendingBy, dues, is_due, left_at, outlives}
use Rattle.boss_slots.specs.declared.tables.Tables.{Tables}
use Rattle.boss_slots.proofs.BySlot.{IsPlaced, all-both, all-in_order, all-same, each-all, each-unall, filter-all_slots, filter-point_same, keep-all, map-all}
use Rattle.boss_slots.proofs.Kept.{lease-key, lease-placed, lease-within, not-both, number-key, pending-placed, pending-within}
use Rattle.boss_holdings.proofs.Passed.{pending-silent}
use Rattle.boss_slots.proofs.Turns.{LeaseBy-later, leases-least, leases-reach, pending-least, pending-reach, value-stays}

-- ---- lists of reversions, slot by slot

-- what is under way of reversions of some slots and of those that leases of others leave
pub under_way-slots : (n points : ℕ) (g h : ℕ → ℕ → Option Pending) (f : ℕ → ℕ → Option Lease) → IsPlaced (λ (r : Pending). r.point) (λ (r : Pending). r.priority) g → IsPlaced (λ (l : Lease). l.point) (λ (l : Lease). l.priority) f
    → ((p q : ℕ) → (g p q ≡ None) ⊎ (f p q ≡ None)) → ((p q : ℕ) → keep (λ r. nat_le r.start n && nat_lt n (end_of r)) (option_or (g p q) (option_map reversion_of (f p q))) ≡ h p q)
    → under_way n (courses (all g points) (all f points)) ≡ all h points
under_way-slots n points g h f placed-g placed-f apart is =
    ap (λ xs. under_way n (in_order pending_slot (all g points ++ xs))) (map-all reversion_of f points)
    ∙ ap (under_way n) (all-in_order (λ (r : Pending). r.point) (λ (r : Pending). r.priority) (λ p q. option_or (g p q) (option_map reversion_of (f p q))) points (all g points ++ all (λ p q. option_map reversion_of (f p q)) points) placed
    (IsPermutation-sym (all g points ++ all (λ p q. option_map reversion_of (f p q)) points) (all (λ p q. option_or (g p q) (option_map reversion_of (f p q))) points)
    (all-both g (λ p q. option_map reversion_of (f p q)) (λ p q. option_or (g p q) (option_map reversion_of (f p q))) points (λ p q. refl) (λ p q. elim (apart p q) [ inl none ↦ inl none | inr none ↦ inr (ap (option_map reversion_of) none) ]))))
    ∙ filter-all_slots (λ r. nat_le r.start n && nat_lt n (end_of r)) (λ p q. option_or (g p q) (option_map reversion_of (f p q))) points
    ∙ all-same (λ p q. keep (λ r. nat_le r.start n && nat_lt n (end_of r)) (option_or (g p q) (option_map reversion_of (f p q)))) h points (λ p q _ _ _. is p q)
  where
    of-both : (a : Option Pending) (b : Option Lease) (p q : ℕ) (r : Pending) → ((x : Pending) → a ≡ Some x → (x.point ≡ p) × (x.priority ≡ q)) → ((x : Lease) → b ≡ Some x → (x.point ≡ p) × (x.priority ≡ q)) →
        option_or a (option_map reversion_of b) ≡ Some r → (r.point ≡ p) × (r.priority ≡ q)
    of-both None None p q r ga fb same = absurd (cc)
    of-both None (Some l) p q r ga fb same = let it : reversion_of l ≡ r = cc in subst (λ (x : Pending). (x.point ≡ p) × (x.priority ≡ q)) it (fb l refl)
    of-both (Some x) b p q r ga fb same = let it : x ≡ r = cc in subst (λ (y : Pending). (y.point ≡ p) × (y.priority ≡ q)) it (ga x refl)

    placed : IsPlaced (λ (r : Pending). r.point) (λ (r : Pending). r.priority) (λ p q. option_or (g p q) (option_map reversion_of (f p q)))
    placed p q r same = of-both (g p q) (f p q) p q r (placed-g p q) (placed-f p q) same

-- ---- one slot at the end

left-after : (n : ℕ) (lo : Option Lease) (po : Option Pending) → ((l : Lease) → lo ≡ Some l → n < l.until) → ((r : Pending) → po ≡ Some r → n < end_of r) → left_at n lo po ≡ po
left-after n None None live runs = refl
left-after n (Some l) None live runs =
    let x = live l refl in let none : nat_le l.until n ≡ false = grind (arith, nat_tests) in rw none refl
left-after n lo (Some r) live runs = let x = runs r refl in let yes : nat_lt n (end_of r) ≡ true = grind (arith, nat_tests) in rw yes refl

-- what is left in a slot is what is under way there
left-under_way : (n : ℕ) (lo : Option Lease) (po : Option Pending) → ((r : Pending) → po ≡ Some r → r.start ≤ n) → keep (λ r. nat_le r.start n && nat_lt n (end_of r)) (option_or po (option_map reversion_of lo)) ≡ left_at n lo po
left-under_way n None None started = refl
left-under_way n (Some l) None started = cond_both (nat_le l.until n) (Some l) None
    (λ o. cond (nat_le l.until n && nat_lt n (end_of (reversion_of l))) (Some (reversion_of l)) None ≡ keep (λ r. nat_lt n (end_of r)) (option_or None (option_map reversion_of o)))
    (λ yes. rw yes refl) (λ none. rw none refl)
left-under_way n lo (Some r) started = let x = started r refl in let yes : nat_le r.start n ≡ true = grind (arith, nat_tests) in rw yes refl

-- ---- the whole at the end

module _ (n began last : ℕ) (first now : Tables) (said_before said : List Telling) (most : ℕ) (marks_before marks : List Bool) (k : IsKept first)
    (s : IsPassable n last now said most marks) (e : IsPassing n began last first now said_before said marks_before marks)
    (none : (slot : ℕ) → is_due n (get_or now.timers slot None) ≡ false) (began-up : began ≤ n)
    (started : (p q : ℕ) (r : Pending) → pending_at first p q ≡ Some r → r.start ≤ began) where
  after-all : (slot moment : ℕ) → IsBy moment (get_or now.timers slot None) → n < moment
  after-all slot moment by = late (get_or now.timers slot None) (none slot) by
    where
      late : (t : Option ℕ) → is_due n t ≡ false → IsBy moment t → n < moment
      late None quiet by' = absurd by'
      late (Some timer) quiet by' = grind (arith, nat_tests)

  live-now : (p q : ℕ) (l : Lease) → lease_at now p q ≡ Some l → n < l.until
  live-now p q l is = let at = lease-key now p q l is in after-all at.0 l.until (s.timed.until at.0 l at.2)

  awaited-now : (p q : ℕ) (r : Pending) → pending_at now p q ≡ Some r → IsAwaited last r (get_or now.timers (16 * length now.arrays.items + number p q) None)
  awaited-now p q r is = s.timed.turn (number p q) r (number-key now p q r s.kept is)

  by-end : (r : Pending) (from : ℕ) (t : Option ℕ) → IsAwaited from r t → IsBy (end_of r) t
  by-end r from None awaited = awaited
  by-end r from (Some timer) awaited = awaited.0

  runs-now : (p q : ℕ) (r : Pending) → pending_at now p q ≡ Some r → n < end_of r
  runs-now p q r is = after-all (16 * length now.arrays.items + number p q) (end_of r) (by-end r last (get_or now.timers (16 * length now.arrays.items + number p q) None) (awaited-now p q r is))

  -- no step ends after `from` and up to n
  quiet : (r : Pending) (from : ℕ) (t : Option ℕ) → is_due n t ≡ false → IsAwaited from r t → AllByRecursion (λ turn. from < turn → n < turn) (turns r.start r.steps)
  quiet r from None silent awaited = absurd awaited
  quiet r from (Some timer) silent awaited = each-map (λ turn. from < turn → timer ≤ turn) (λ turn. from < turn → n < turn) (λ turn late after. let x = late after in grind (arith, nat_tests)) (turns r.start r.steps) awaited.1

  pub ticked-leases : all (lease_at now) (length now.arrays.items) ≡ live n (all (lease_at first) (length first.arrays.items))
  ticked-leases =
      ap (all (lease_at now)) e.ending.points
      ∙ all-same (lease_at now) (λ p q. keep (outlives n) (lease_at first p q)) (length first.arrays.items)
      (λ p q _ _ _. sym (keep-all (outlives n) (lease_at now p q) (λ l is. let x = live-now p q l is in grind (arith, nat_tests))) ∙ e.ending.leases p q)
      ∙ sym (filter-all_slots (outlives n) (lease_at first) (length first.arrays.items))

  pub ticked-pending : all (pending_at now) (length now.arrays.items) ≡ under_way n (courses (all (pending_at first) (length first.arrays.items)) (all (lease_at first) (length first.arrays.items)))
  ticked-pending =
      ap (all (pending_at now)) e.ending.points
      ∙ sym (under_way-slots n (length first.arrays.items) (pending_at first) (pending_at now) (lease_at first) (pending-placed first k) (lease-placed first k) (not-both first k)
      (λ p q. left-under_way n (lease_at first p q) (pending_at first p q) (λ r is. let x = started p q r is in omega arith)
      ∙ sym (e.ending.pending p q) ∙ left-after n (lease_at now p q) (pending_at now p q) (live-now p q) (runs-now p q)))

  none-left : (t : Lease → List Telling) (u : Pending → List Telling) (ls : List Lease) (rs : List Pending) → AllByRecursion (λ l. t l ≡ []) ls → AllByRecursion (λ r. u r ≡ []) rs → flat_map t ls ++ flat_map u rs ≡ []
  none-left t u [] [] a b = refl
  none-left t u [] (r ∷ rs) a b = rw b.0 (none-left t u [] rs a b.1)
  none-left t u (l ∷ ls) rs a b = rw a.0 (none-left t u ls rs a.1 b)

  pub ticked-told : IsPermutation (said_before ++ dues (lease_tellings n) (pending_tellings n) first) said
  unfolding dues
  ticked-told =
      subst (λ zs. IsPermutation (said_before ++ dues (lease_tellings n) (pending_tellings n) first) zs)
      (ap (λ zs. said ++ zs) (none-left (lease_tellings n) (pending_tellings n) (all (lease_at now) (length now.arrays.items)) (all (pending_at now) (length now.arrays.items))
      (each-all (λ l. lease_tellings n l ≡ []) (lease_at now) (length now.arrays.items) (λ p q l _ _ _ is. let x = live-now p q l is in let out : nat_le l.until n ≡ false = grind (arith, nat_tests) in rw out refl))
      (each-all (λ r. pending_tellings n r ≡ []) (pending_at now) (length now.arrays.items) (λ p q r _ _ _ is. pending-silent n r (runs-now p q r is))))
      ∙ append-nil said)
      e.ending.told

  all-by : IsAllBy n last now
  all-by p q = (of-lease (lease_at now p q) refl, of-pending (pending_at now p q) refl)
    where
      of-lease : (o : Option Lease) → lease_at now p q ≡ o → IsLeaseBy n last (lease_at now p q)
      of-lease None is = subst (IsLeaseBy n last) (sym is) tt
      of-lease (Some l) is = subst (IsLeaseBy n last) (sym is) (λ ended. let x = live-now p q l is in absurd (omega arith))

      of-pending : (o : Option Pending) → pending_at now p q ≡ o → IsPendingBy n last (pending_at now p q)
      of-pending None is = subst (IsPendingBy n last) (sym is) tt
      of-pending (Some r) is = subst (IsPendingBy n last) (sym is)
          (each-map (λ turn. last < turn → n < turn) (λ turn. turn ≤ n → turn ≤ last) (λ turn late up. cond_both {A = ℕ} (nat_lt last turn) 0 0 (λ _. turn ≤ last)
          (λ behind. let y : last < turn = grind (arith, nat_tests) in let x = late y in absurd (omega arith)) (λ early. grind (arith, nat_tests)))
          (turns r.start r.steps) (quiet r last (get_or now.timers (16 * length now.arrays.items + number p q) None) (none (16 * length now.arrays.items + number p q)) (awaited-now p q r is)))

  ls : List Lease
  ls = all (lease_at first) (length first.arrays.items)

  pub ticked-last : last ≡ fold (last_of_pending n) (fold (last_of_lease n) began (all (lease_at first) (length first.arrays.items))) (all (pending_at first) (length first.arrays.items))
  ticked-last =
      let at = length first.arrays.items in
      let mid = fold (last_of_lease n) began (all (lease_at first) at) in
      let end = fold (last_of_pending n) mid (all (pending_at first) at) in
      let one = leases-reach n began (all (lease_at first) at) in
      let two = pending-reach n mid (all (pending_at first) at) in
      let first-by = e.covered last (omega arith) all-by in
      let low : end ≤ last = pending-least n mid last (all (pending_at first) at)
      (leases-least n began last (all (lease_at first) at) e.later (each-all (λ l. IsLeaseBy n last (Some l)) (lease_at first) at (λ p q l _ _ _ is. subst (IsLeaseBy n last) is (first-by p q).0)))
      (each-all (λ r. IsPendingBy n last (Some r)) (pending_at first) at (λ p q r _ _ _ is. subst (IsPendingBy n last) is (first-by p q).1)) in
      let early = one.0 in let late = two.0 in
      let reach : IsAllBy n end first = λ p q. (of-lease' end p q late one.1, of-pending' end p q two.1) in
      let high : last ≤ end = (e.least end (omega arith) reach).0 in
      omega arith
    where
      of-lease' : (end p q : ℕ) → fold (last_of_lease n) began (all (lease_at first) (length first.arrays.items)) ≤ end
          → AllByRecursion (λ l. IsLeaseBy n (fold (last_of_lease n) began (all (lease_at first) (length first.arrays.items))) (Some l)) (all (lease_at first) (length first.arrays.items)) → IsLeaseBy n end (lease_at first p q)
      of-lease' end p q late every = by (lease_at first p q) refl
        where
          by : (o : Option Lease) → lease_at first p q ≡ o → IsLeaseBy n end (lease_at first p q)
          by None is = subst (IsLeaseBy n end) (sym is) tt
          by (Some l) is = let in-it = lease-within first k p q l is in
              subst (IsLeaseBy n end) (sym is) (LeaseBy-later n (fold (last_of_lease n) began (all (lease_at first) (length first.arrays.items))) end (Some l) late
              (each-unall (λ x. IsLeaseBy n (fold (last_of_lease n) began (all (lease_at first) (length first.arrays.items))) (Some x)) (lease_at first) (length first.arrays.items) every p q l in-it.0 in-it.1 in-it.2 is))

      of-pending' : (end p q : ℕ) → AllByRecursion (λ r. IsPendingBy n end (Some r)) (all (pending_at first) (length first.arrays.items)) → IsPendingBy n end (pending_at first p q)
      of-pending' end p q every = by (pending_at first p q) refl
        where
          by : (o : Option Pending) → pending_at first p q ≡ o → IsPendingBy n end (pending_at first p q)
          by None is = subst (IsPendingBy n end) (sym is) tt
          by (Some r) is = let in-it = pending-within first k p q r is in
              subst (IsPendingBy n end) (sym is) (each-unall (λ x. IsPendingBy n end (Some x)) (pending_at first) (length first.arrays.items) every p q r in-it.0 in-it.1 in-it.2 is)

  -- ---- a point that was not touched

  pub ticked-untouched : (default : ℤ) (p m : ℕ) → get_or marks p false ≡ false → began ≤ m → m ≤ n →
      value_of default m (in_force (all (lease_at now) (length now.arrays.items)) p) (playing (all (pending_at now) (length now.arrays.items)) p)
      ≡ value_of default began (in_force (all (lease_at first) (length first.arrays.items)) p) (playing (all (pending_at first) (length first.arrays.items)) p)
  ticked-untouched default p m unset from up =
      let at = length first.arrays.items in
      let leases : in_force (all (lease_at now) (length now.arrays.items)) p ≡ in_force (all (lease_at first) at) p =
      ap (λ c. in_force (all (lease_at now) c) p) e.ending.points ∙ ap (least (λ (l : Lease). l.priority)) (filter-point_same (λ (l : Lease). l.point) (λ (l : Lease). l.priority) (lease_at first) (lease_at now) at p (lease-placed first k) (lease-placed now s.kept) (λ q. (e.ending.untouched p unset q).0)) in
      let pending : playing (all (pending_at now) (length now.arrays.items)) p ≡ playing (all (pending_at first) at) p =
      ap (λ c. playing (all (pending_at now) c) p) e.ending.points ∙ ap (least (λ (r : Pending). r.priority)) (filter-point_same (λ (r : Pending). r.point) (λ (r : Pending). r.priority) (pending_at first) (pending_at now) at p (pending-placed first k) (pending-placed now s.kept) (λ q. (e.ending.untouched p unset q).1)) in
      rw (leases, pending) (at-moments (in_force (all (lease_at first) at) p) (playing (all (pending_at first) at) p) (λ r is. steady r (of-slot r is)))
    where
      steady : (r : Pending) → (q : ℕ) × (pending_at now p q ≡ Some r) → value_at r m ≡ value_at r began
      steady r (q, is) =
          let before : pending_at first p q ≡ Some r = sym (e.ending.untouched p unset q).1 ∙ is in
          value-stays r.start began m n r.steps (started p q r before) from up
          (quiet r began (get_or now.timers (16 * length now.arrays.items + number p q) None) (none (16 * length now.arrays.items + number p q)) (e.waiting p unset q r is))

      at-moments : (lo : Option Lease) (po : Option Pending) → ((r : Pending) → po ≡ Some r → value_at r m ≡ value_at r began) → value_of default m lo po ≡ value_of default began lo po
      at-moments (Some l) po same = refl
      at-moments None (Some r) same = rw (same r refl) refl
      at-moments None None same = refl

      of-slot : (r : Pending) → playing (all (pending_at first) (length first.arrays.items)) p ≡ Some r → (q : ℕ) × (pending_at now p q ≡ Some r)
      of-slot r is =
          least-of (λ x. (x.point ≡ p) → (q : ℕ) × (pending_at now p q ≡ Some x)) (λ (x : Pending). x.priority) (filter (λ x. x.point == p) (all (pending_at first) (length first.arrays.items))) r
          (each-filter (λ x. (x.point ≡ p) → (q : ℕ) × (pending_at now p q ≡ Some x)) (λ x. x.point == p) (all (pending_at first) (length first.arrays.items))
          (each-all (λ x. (x.point ≡ p) → (q : ℕ) × (pending_at now p q ≡ Some x)) (pending_at first) (length first.arrays.items)
          (λ a b x _ _ _ there here.
          let place = pending-placed first k a b x there in
          let same : a ≡ p = sym place.0 ∙ here in
          (b, (e.ending.untouched p unset b).1 ∙ ap (λ c. pending_at first c b) (sym same) ∙ there))))
          is
          (least-of (λ x. x.point ≡ p) (λ (x : Pending). x.priority) (filter (λ x. x.point == p) (all (pending_at first) (length first.arrays.items))) r
          (each-passed (λ x. x.point ≡ p) (λ x. x.point == p) (λ x passed. grind (arith, nat_tests)) (all (pending_at first) (length first.arrays.items))) is)

-- what a tick tells is at most two a lease and one a reversion
pub few-dues : (n : ℕ) (t : Tables) → length (dues (lease_tellings n) (pending_tellings n) t) ≤ 2 * length (all (lease_at t) (length t.arrays.items)) + length (all (pending_at t) (length t.arrays.items))
unfolding dues
few-dues n t = omega (arith, length-append (flat_map (lease_tellings n) (all (lease_at t) (length t.arrays.items))) (flat_map (pending_tellings n) (all (pending_at t) (length t.arrays.items))), few-leases (all (lease_at t) (length t.arrays.items)), few-pending (all (pending_at t) (length t.arrays.items)))
  where
    one-at-most : (r : Pending) → length (pending_tellings n r) ≤ 1
    one-at-most r = cond_both (nat_le (end_of r) n) (reverted r r.steps) [] (λ hs. length (map plain hs) ≤ 1) (λ _. of-steps r.steps) (λ _. omega arith)
      where
        of-steps : (steps : List Step) → length (map plain (reverted r steps)) ≤ 1
        of-steps [] = omega arith
        of-steps (x ∷ xs) = omega arith

    two-at-most : (l : Lease) → length (lease_tellings n l) ≤ 2
    two-at-most l = cond_both (nat_le l.until n) (ended_with cause.Expired (reversion_of l) ∷ pending_tellings n (reversion_of l)) [] (λ zs. length zs ≤ 2)
        (λ _. omega (arith, one-at-most (reversion_of l))) (λ _. omega arith)

    few-leases : (xs : List Lease) → length (flat_map (lease_tellings n) xs) ≤ 2 * length xs
    few-leases [] = omega arith
    few-leases (l ∷ xs) = omega (arith, two-at-most l, few-leases xs, length-append (lease_tellings n l) (flat_map (lease_tellings n) xs))

    few-pending : (xs : List Pending) → length (flat_map (pending_tellings n) xs) ≤ length xs
    few-pending [] = omega arith
    few-pending (r ∷ xs) = omega (arith, one-at-most r, few-pending xs, length-append (pending_tellings n r) (flat_map (pending_tellings n) xs))

-- ---- at first

pub passable-first : (n now : ℕ) (t : Tables) (most : ℕ) (marks : List Bool) → IsKept t → IsTimed now t → length marks ≡ length t.arrays.items → now ≤ n
    → AllByRecursion IsEndable (all (lease_at t) (length t.arrays.items)) → AllByRecursion IsPlayable (all (pending_at t) (length t.arrays.items)) → AllByRecursion (λ r. r.start ≤ now) (all (pending_at t) (length t.arrays.items))
    → 2 * length (all (lease_at t) (length t.arrays.items)) + length (all (pending_at t) (length t.arrays.items)) ≤ most → IsPassable n now t [] most marks
passable-first n now t most marks kept timed flags up endable playable started room = record {
  kept = kept;
  timed = timed;
  reached = up;
  endable = λ p q l is. let in-it = lease-within t kept p q l is in each-unall IsEndable (lease_at t) (length t.arrays.items) endable p q l in-it.0 in-it.1 in-it.2 is;
  playable = λ p q r is. let in-it = pending-within t kept p q r is in
      let early = each-unall (λ (x : Pending). x.start ≤ now) (pending_at t) (length t.arrays.items) started p q r in-it.0 in-it.1 in-it.2 is in
      (each-unall IsPlayable (pending_at t) (length t.arrays.items) playable p q r in-it.0 in-it.1 in-it.2 is, (omega arith));
  flags = flags;
  room = omega (arith, few-dues n t);
}

pub started-first : (now : ℕ) (t : Tables) → IsKept t → AllByRecursion (λ r. r.start ≤ now) (all (pending_at t) (length t.arrays.items)) → (p q : ℕ) (r : Pending) → pending_at t p q ≡ Some r → r.start ≤ now
started-first now t kept started p q r is = let in-it = pending-within t kept p q r is in each-unall (λ (x : Pending). x.start ≤ now) (pending_at t) (length t.arrays.items) started p q r in-it.0 in-it.1 in-it.2 is
