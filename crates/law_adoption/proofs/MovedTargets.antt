-- Targets of points that stay: after any time they rest on the same leases and reversions, or on the new defaults.
use Rattle.std.proofs.Common.{◌≡◌, ℕ, ◌+◌, ◌<◌, ◌≤◌, ◌==◌, ℤ, max, nat_lt, nat_le, List, [], ◌∷◌, ◌++◌, length, map, Bool, true, ◌&&◌, Option, Some, None, refl, ap, sym, ◌∙◌, subst, arith}
use Rattle.std.specs.Prelude.{is_some, unwrap_or}
use Rattle.std.specs.List.{filter}
use Rattle.std.specs.Option.{option_map}
use Rattle.std.proofs.lemmas.Bool.Decides.{nat_tests}
use Rattle.boss_model.specs.declared.command.Step.{Step}
use Rattle.boss_model.specs.declared.state.Lease.{Lease}
use Rattle.boss_model.specs.declared.state.Pending.{Pending}
use Rattle.boss_model.specs.Catalogue.{Catalogue, actuators, default_of, place_of}
use Rattle.boss_model.specs.Limits.{last_moment}
use Rattle.boss_model.specs.Order.{comes_before, in_order, least}
use Rattle.boss_model.specs.Reversions.{hold, over, value_from, end_of, value_at, reversion_of, courses}
use Rattle.boss_model.specs.Sound.{DistinctNames, IsSoundPersistent}
use Rattle.boss_model.specs.State.{lease_slot, pending_slot, Persistent}
use Rattle.boss_model.specs.Target.{in_force, playing, value_of, basis_of, basis_at, target_at, target}
use Rattle.boss_model.specs.Time.{live, under_way, tick_to, tick}
use Rattle.law_machine.proofs.Targets.{target-ticked}
use Rattle.law_time.proofs.Filters.{filter-filter, filter-append, filter-map}
use Rattle.law_time.proofs.Orders.{each-map, each-filter, each-passed, least-of, filter-in_order, in_order-Rising}
use Rattle.law_adoption.specs.Adopted.{moved_lease, moved_pending, adopted}
use Rattle.law_adoption.specs.Kept.{TargetKept}
use Rattle.law_adoption.specs.MayMove.{in_use, unfit, MayMove}
use Rattle.law_adoption.specs.Renumber.{renumbered, stays, at, IsRenumbering}
use Rattle.law_adoption.proofs.Alike.{in_order-alike, filter-moved, least-mapped}
use Rattle.law_adoption.proofs.FromNames.{is-renumbering, name-goes}
use Rattle.law_adoption.proofs.MovedRecords.{leases-stay, pending-stay}
use Rattle.law_adoption.proofs.MovedSlots.{moved_leases, moved_reversions, LeasesStay, PendingStay}
use Rattle.law_adoption.proofs.MovedSound.{adopted-sound}
use Rattle.law_adoption.proofs.NothingRefused.{may-move}
use Rattle.law_adoption.proofs.Points.{same-place}

-- ---- a reversion under way has a value

value-from : (start n : ℕ) (steps : List Step) → start ≤ n → n < over start steps → is_some (value_from start steps n) ≡ true
value-from start n [] begun running = absurd (omega arith)
value-from start n (step ∷ steps) begun running =
    let rest : start + hold step ≤ n → is_some (value_from (start + hold step) steps n) ≡ true = λ past. value-from (start + hold step) n steps past running in
    grind (arith, nat_tests, rest)

whatever-else : (o : Option ℤ) (x y : ℤ) → is_some o ≡ true → unwrap_or o x ≡ unwrap_or o y
whatever-else None x y there = cc
whatever-else (Some v) x y there = refl

-- ---- on one point the order is that of priorities

by-priority : (p q a b : ℕ) → comes_before (q ∷ a ∷ []) (q ∷ b ∷ []) ≡ comes_before (p ∷ a ∷ []) (p ∷ b ∷ [])
by-priority p q a b = grind (arith, nat_tests)

on-one-point : (p q x y a b : ℕ) → x ≡ p → y ≡ p → (at-x at-y : ℕ) → at-x ≡ q → at-y ≡ q → comes_before (at-x ∷ a ∷ []) (at-y ∷ b ∷ []) ≡ comes_before (x ∷ a ∷ []) (y ∷ b ∷ [])
on-one-point p q x y a b x-is y-is at-x at-y at-x-is at-y-is =
    (λ i. comes_before (at-x-is i ∷ a ∷ []) (at-y-is i ∷ b ∷ [])) ∙ by-priority p q a b ∙ (λ i. comes_before (sym x-is i ∷ a ∷ []) (sym y-is i ∷ b ∷ []))

module _ (to : ℕ → Option ℕ) (points : ℕ) (renumbering : IsRenumbering to points) (p : ℕ) (there : stays to p ≡ true) where
  -- ---- leases and reversions of a point, of which a test picks some that does not look at the point

  leases-at : (test : Lease → Bool) → ((l : Lease) → test (moved_lease to l) ≡ test l) → (leases : List Lease) → LeasesStay to leases →
      filter (λ l. test l && (l.point == at to p)) (moved_leases to leases) ≡ map (moved_lease to) (filter (λ l. test l && (l.point == p)) (in_order lease_slot leases))
  leases-at test blind leases all = filter-moved lease_slot (moved_lease to) (λ l. test l && (l.point == p)) (λ l. test l && (l.point == at to p))
      (λ l k l-passed k-passed.
      let l-is : l.point ≡ p = grind (arith, nat_tests) in
      let k-is : k.point ≡ p = grind (arith, nat_tests) in
      on-one-point p (at to p) l.point k.point l.priority k.priority l-is k-is (at to l.point) (at to k.point) (ap (at to) l-is) (ap (at to) k-is))
      leases
      (each-map (λ l. stays to l.point ≡ true) (λ l. (test (moved_lease to l) && (at to l.point == at to p)) ≡ (test l && (l.point == p)))
      (λ l l-there. λ i. blind l i && same-place to points renumbering l.point p l-there there i) leases all)

  pending-alike : (test : Pending → Bool) (r s : Pending) → (test r && (r.point == p)) ≡ true → (test s && (s.point == p)) ≡ true →
      comes_before (pending_slot (moved_pending to r)) (pending_slot (moved_pending to s)) ≡ comes_before (pending_slot r) (pending_slot s)
  pending-alike test r s r-passed s-passed =
      let r-is : r.point ≡ p = grind (arith, nat_tests) in
      let s-is : s.point ≡ p = grind (arith, nat_tests) in
      on-one-point p (at to p) r.point s.point r.priority s.priority r-is s-is (at to r.point) (at to s.point) (ap (at to) r-is) (ap (at to) s-is)

  pending-at : (test : Pending → Bool) → ((r : Pending) → test (moved_pending to r) ≡ test r) → (pending : List Pending) → PendingStay to pending →
      filter (λ r. test r && (r.point == at to p)) (moved_reversions to pending) ≡ map (moved_pending to) (filter (λ r. test r && (r.point == p)) (in_order pending_slot pending))
  pending-at test blind pending all = filter-moved pending_slot (moved_pending to) (λ r. test r && (r.point == p)) (λ r. test r && (r.point == at to p))
      (pending-alike test)
      pending
      (each-map (λ r. stays to r.point ≡ true) (λ r. (test (moved_pending to r) && (at to r.point == at to p)) ≡ (test r && (r.point == p)))
      (λ r r-there. λ i. blind r i && same-place to points renumbering r.point p r-there there i) pending all)

  map-twice : (leases : List Lease) → map reversion_of (map (moved_lease to) leases) ≡ map (moved_pending to) (map reversion_of leases)
  map-twice [] = refl
  map-twice (l ∷ ls) = ap (λ xs. reversion_of (moved_lease to l) ∷ xs) (map-twice ls)

  map-append : (xs ys : List Pending) → map (moved_pending to) xs ++ map (moved_pending to) ys ≡ map (moved_pending to) (xs ++ ys)
  map-append [] ys = refl
  map-append (x ∷ xs) ys = ap (λ zs. moved_pending to x ∷ zs) (map-append xs ys)

  -- all reversions of the point, under way and to come
  courses-at : (test : Pending → Bool) → ((r : Pending) → test (moved_pending to r) ≡ test r) → (d : Persistent) → PendingStay to d.pending → LeasesStay to d.leases →
      in_order pending_slot d.pending ≡ d.pending → in_order lease_slot d.leases ≡ d.leases →
      filter (λ r. test r && (r.point == at to p)) (courses (moved_reversions to d.pending) (moved_leases to d.leases)) ≡ map (moved_pending to) (filter (λ r. test r && (r.point == p)) (courses d.pending d.leases))
  courses-at test blind d all_pending all pending-ordered leases-ordered =
      let before = λ (r : Pending). test r && (r.point == p) in
      let after = λ (r : Pending). test r && (r.point == at to p) in
      let moved = moved_pending to in
      let first : filter after (moved_reversions to d.pending) ≡ map moved (filter before d.pending) = pending-at test blind d.pending all_pending
      ∙ ap (λ rs. map moved (filter before rs)) pending-ordered in
      let second : filter after (map reversion_of (moved_leases to d.leases)) ≡ map moved (filter before (map reversion_of d.leases)) =
      filter-map after reversion_of (moved_leases to d.leases)
      ∙ ap (map reversion_of) (leases-at (λ l. test (reversion_of l)) (λ l. blind (reversion_of l)) d.leases all)
      ∙ ap (λ ls. map reversion_of (map (moved_lease to) (filter (λ l. before (reversion_of l)) ls))) leases-ordered
      ∙ map-twice (filter (λ l. before (reversion_of l)) d.leases)
      ∙ ap (map moved) (sym (filter-map before reversion_of d.leases)) in
      let all_of_them = d.pending ++ map reversion_of d.leases in
      filter-in_order pending_slot after (moved_reversions to d.pending ++ map reversion_of (moved_leases to d.leases))
      ∙ ap (in_order pending_slot) (filter-append after (moved_reversions to d.pending) (map reversion_of (moved_leases to d.leases))
      ∙ (λ i. first i ++ second i)
      ∙ map-append (filter before d.pending) (filter before (map reversion_of d.leases))
      ∙ ap (map moved) (sym (filter-append before d.pending (map reversion_of d.leases))))
      ∙ in_order-alike pending_slot pending_slot moved (λ r. before r ≡ true) (pending-alike test) (filter before all_of_them)
      (each-passed (λ r. before r ≡ true) before (λ r passed. passed) all_of_them)
      ∙ ap (map moved) (sym (filter-in_order pending_slot before all_of_them))

  -- ---- what a target rests on at a moment

  in_force-moved : (n : ℕ) (d : Persistent) → LeasesStay to d.leases → in_order lease_slot d.leases ≡ d.leases →
      in_force (live n (moved_leases to d.leases)) (at to p) ≡ option_map (moved_lease to) (in_force (live n d.leases) p)
  in_force-moved n d all ordered =
      let is_live = λ (l : Lease). nat_lt n l.until in
      ap (least (λ (l : Lease). l.priority)) (
      filter-filter (λ l. l.point == at to p) is_live (λ l. is_live l && (l.point == at to p)) (λ l. refl) (moved_leases to d.leases)
      ∙ leases-at is_live (λ l. refl) d.leases all
      ∙ ap (λ ls. map (moved_lease to) (filter (λ l. is_live l && (l.point == p)) ls)) ordered
      ∙ ap (map (moved_lease to)) (sym (filter-filter (λ l. l.point == p) is_live (λ l. is_live l && (l.point == p)) (λ l. refl) d.leases)))
      ∙ least-mapped (λ l. l.priority) (λ l. l.priority) (moved_lease to) (λ l. refl) (filter (λ l. l.point == p) (live n d.leases))

  playing-moved : (n : ℕ) (d : Persistent) → PendingStay to d.pending → LeasesStay to d.leases → in_order pending_slot d.pending ≡ d.pending → in_order lease_slot d.leases ≡ d.leases →
      playing (under_way n (courses (moved_reversions to d.pending) (moved_leases to d.leases))) (at to p) ≡ option_map (moved_pending to) (playing (under_way n (courses d.pending d.leases)) p)
  playing-moved n d all_pending all pending-ordered leases-ordered =
      let runs = λ (r : Pending). nat_le r.start n && nat_lt n (end_of r) in
      let cs = courses d.pending d.leases in
      ap (least (λ (r : Pending). r.priority)) (
      filter-filter (λ r. r.point == at to p) runs (λ r. runs r && (r.point == at to p)) (λ r. refl) (courses (moved_reversions to d.pending) (moved_leases to d.leases))
      ∙ courses-at runs (λ r. refl) d all_pending all pending-ordered leases-ordered
      ∙ ap (map (moved_pending to)) (sym (filter-filter (λ r. r.point == p) runs (λ r. runs r && (r.point == p)) (λ r. refl) cs)))
      ∙ least-mapped (λ r. r.priority) (λ r. r.priority) (moved_pending to) (λ r. refl) (filter (λ r. r.point == p) (under_way n cs))

  -- ---- the target

  kept-on : (n : ℕ) (before after : ℤ) (lease : Option Lease) (reversion : Option Pending) → ((r : Pending) → reversion ≡ Some r → is_some (value_at r n) ≡ true) →
      TargetKept after (basis_of lease reversion) (value_of before n lease reversion) (value_of after n (option_map (moved_lease to) lease) (option_map (moved_pending to) reversion))
  kept-on n before after (Some lease) reversion plays = refl
  kept-on n before after None (Some reversion) plays = whatever-else (value_at reversion n) after before (plays reversion refl)
  kept-on n before after None None plays = refl

  plays-on : (n : ℕ) (cs : List Pending) (r : Pending) → playing (under_way n cs) p ≡ Some r → is_some (value_at r n) ≡ true
  plays-on n cs r is =
      let runs = λ (s : Pending). nat_le s.start n && nat_lt n (end_of s) in
      let V = λ (s : Pending). is_some (value_at s n) ≡ true in
      least-of V (λ s. s.priority) (filter (λ s. s.point == p) (under_way n cs)) r
      (each-filter V (λ s. s.point == p) (under_way n cs)
      (each-passed V runs (λ s passed. value-from s.start n s.steps (grind (arith, nat_tests)) (grind (arith, nat_tests))) cs)) is

-- over two catalogues
pub adoption-keeps : (old new : Catalogue) (d : Persistent) (name : List ℕ) (p q m : ℕ) → DistinctNames (map (λ point. point.name) old.points) → IsSoundPersistent (actuators old) d →
    in_use (renumbered old new) d ≡ None → unfit (actuators new) (renumbered old new) d ≡ None → place_of old name ≡ Some p → place_of new name ≡ Some q → m ≤ last_moment →
    TargetKept (default_of (actuators new) q) (basis_at (tick d m) p) (target (actuators old) (tick d m) p) (target (actuators new) (tick (adopted (renumbered old new) d) m) q)
adoption-keeps old new d name p q m apart sound unused fit in_old in_new small =
    let to = renumbered old new in
    let e = adopted to d in
    let n = max d.now m in
    let renumbering = is-renumbering old new apart in
    let may : MayMove (actuators new) to d = may-move to (actuators new) d unused fit in
    let sound_after : IsSoundPersistent (actuators new) e = adopted-sound (actuators old) (actuators new) to d renumbering may sound in
    let all = leases-stay (actuators old) (actuators new) to d sound may in
    let all_pending = pending-stay (actuators old) (actuators new) to d sound may in
    let goes : to p ≡ Some q = name-goes old new name p q in_old in_new in
    let there : stays to p ≡ true = ap is_some goes in
    let place : at to p ≡ q = ap (λ o. unwrap_or o 0) goes in
    let leases-ordered = in_order-Rising lease_slot d.leases sound.lease_slots in
    let pending-ordered = in_order-Rising pending_slot d.pending sound.pending_slots in
    let cs = courses d.pending d.leases in
    let now_small : d.now ≤ last_moment = sound.now in
    let within : d.now ≤ n = omega arith in
    let n_small : n ≤ last_moment = omega arith in
    let before_is : target_at (actuators old) n (tick_to n d) p ≡ target (actuators old) (tick_to n d) p = target-ticked (actuators old) d n p sound within n_small in
    let after_is : target_at (actuators new) n (tick_to n e) q ≡ target (actuators new) (tick_to n e) q = target-ticked (actuators new) e n q sound_after within n_small in
    let lease = in_force (live n d.leases) p in
    let reversion = playing (under_way n cs) p in
    let moved : target_at (actuators new) n (tick_to n e) q ≡ value_of (default_of (actuators new) q) n (option_map (moved_lease to) lease) (option_map (moved_pending to) reversion) =
    (λ i. value_of (default_of (actuators new) q) n (in_force (tick_to n e).leases (sym place i)) (playing (tick_to n e).pending (sym place i)))
    ∙ (λ i. value_of (default_of (actuators new) q) n (in_force-moved to (length (actuators new)) renumbering p there n d all leases-ordered i)
    (playing-moved to (length (actuators new)) renumbering p there n d all_pending all pending-ordered leases-ordered i)) in
    subst (TargetKept (default_of (actuators new) q) (basis_of lease reversion) (target (actuators old) (tick_to n d) p)) (sym moved ∙ after_is)
    (subst (λ v. TargetKept (default_of (actuators new) q) (basis_of lease reversion) v
    (value_of (default_of (actuators new) q) n (option_map (moved_lease to) lease) (option_map (moved_pending to) reversion))) before_is
    (kept-on to (length (actuators new)) renumbering p there n (default_of (actuators old) p) (default_of (actuators new) q) lease reversion
    (plays-on to (length (actuators new)) renumbering p there n cs)))
