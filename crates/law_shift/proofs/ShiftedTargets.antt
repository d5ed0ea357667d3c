-- Targets of a shifted state: those of before, only earlier.
use Rattle.std.proofs.Common.{◌≡◌, ℕ, ◌+◌, ◌-◌, ◌<◌, ◌≤◌, ◌==◌, ℤ, max, nat_lt, nat_le, List, [], ◌∷◌, map, ◌&&◌, cond, Option, Some, None, refl, ap, sym, ◌∙◌, arith}
use Rattle.std.specs.Prelude.{unwrap_or}
use Rattle.std.specs.List.{filter, AllByRecursion}
use Rattle.std.specs.Option.{option_map}
use Rattle.std.proofs.lemmas.Bool.{cond_both}
use Rattle.std.proofs.lemmas.Bool.Decides.{nat_tests}
use Rattle.boss_model.specs.declared.command.Step.{Step}
use Rattle.boss_model.specs.declared.state.Actuator.{Actuator}
use Rattle.boss_model.specs.declared.state.Lease.{Lease}
use Rattle.boss_model.specs.declared.state.Pending.{Pending}
use Rattle.boss_model.specs.Catalogue.{default_of}
use Rattle.boss_model.specs.Limits.{last_moment}
use Rattle.boss_model.specs.Order.{lesser, least}
use Rattle.boss_model.specs.Reversions.{hold, over, value_from, end_of, courses}
use Rattle.boss_model.specs.Sound.{IsLease, IsSoundPersistent}
use Rattle.boss_model.specs.State.{Persistent}
use Rattle.boss_model.specs.Target.{in_force, playing, value_of, target_at, target}
use Rattle.boss_model.specs.Time.{live, under_way, tick_to, tick}
use Rattle.law_machine.proofs.Targets.{target-ticked}
use Rattle.law_time.proofs.Filters.{filter-same, filter-alike, filter-map}
use Rattle.law_time.proofs.Orders.{each-map, each-filter, least-of}
use Rattle.law_time.proofs.Slots.{to-courses}
use Rattle.law_shift.specs.Shifted.{shifted_lease, shifted_pending, shifted, MayShift}
use Rattle.law_shift.proofs.ShiftedParts.{over-back, courses-map}
use Rattle.law_shift.proofs.ShiftedSound.{shifted-sound}

-- ---- the least of some

module _ {X : Type 0} (key : X → ℕ) (f : X → X) (same : (x : X) → key (f x) ≡ key x) where
  lesser-map : (x : X) (rest : Option X) → lesser key (f x) (option_map f rest) ≡ f (lesser key x rest)
  lesser-map x None = refl
  lesser-map x (Some y) = (λ i. cond (nat_lt (same y i) (same x i)) (f y) (f x))
      ∙ cond_both (nat_lt (key y) (key x)) y x (λ z. cond (nat_lt (key y) (key x)) (f y) (f x) ≡ f z) (λ less. rw less refl) (λ not_less. rw not_less refl)

  least-map : (xs : List X) → least key (map f xs) ≡ option_map f (least key xs)
  least-map [] = refl
  least-map (x ∷ xs) = ap (λ rest. Some (lesser key (f x) rest)) (least-map xs) ∙ ap Some (lesser-map x (least key xs))

module _ (by n : ℕ) (far : by ≤ n) where
  -- ---- leases

  until-back : (l : Lease) → nat_lt (n - by) (l.until - by) ≡ nat_lt n l.until
  until-back l = grind (arith, nat_tests, far)

  live-back : (leases : List Lease) → live (n - by) (map (shifted_lease by) leases) ≡ map (shifted_lease by) (live n leases)
  live-back leases = filter-map (λ l. nat_lt (n - by) l.until) (shifted_lease by) leases
      ∙ ap (map (shifted_lease by)) (filter-alike (λ l. nat_lt (n - by) (l.until - by)) (λ l. nat_lt n l.until) until-back leases)

  in_force-back : (leases : List Lease) (point : ℕ) → in_force (map (shifted_lease by) leases) point ≡ option_map (shifted_lease by) (in_force leases point)
  in_force-back leases point = ap (least (λ l. l.priority)) (filter-map (λ l. l.point == point) (shifted_lease by) leases)
      ∙ least-map (λ l. l.priority) (shifted_lease by) (λ l. refl) (filter (λ l. l.point == point) leases)

  -- ---- reversions

  run-back : (r : Pending) → by ≤ r.start → (nat_le (r.start - by) (n - by) && nat_lt (n - by) (over (r.start - by) r.steps)) ≡ (nat_le r.start n && nat_lt n (end_of r))
  run-back r begun =
      let ends : over (r.start - by) r.steps ≡ over r.start r.steps - by = over-back by r.start r.steps begun in
      grind (arith, nat_tests, far, begun, ends)

  under_way-back : (rs : List Pending) → AllByRecursion (λ r. by ≤ r.start) rs → under_way (n - by) (map (shifted_pending by) rs) ≡ map (shifted_pending by) (under_way n rs)
  under_way-back rs begun = filter-map (λ r. nat_le r.start (n - by) && nat_lt (n - by) (end_of r)) (shifted_pending by) rs
      ∙ ap (map (shifted_pending by)) (filter-same (λ r. nat_le (r.start - by) (n - by) && nat_lt (n - by) (over (r.start - by) r.steps)) (λ r. nat_le r.start n && nat_lt n (end_of r)) rs
      (each-map (λ r. by ≤ r.start) (λ r. (nat_le (r.start - by) (n - by) && nat_lt (n - by) (over (r.start - by) r.steps)) ≡ (nat_le r.start n && nat_lt n (end_of r))) run-back rs begun))

  playing-back : (rs : List Pending) (point : ℕ) → playing (map (shifted_pending by) rs) point ≡ option_map (shifted_pending by) (playing rs point)
  playing-back rs point = ap (least (λ r. r.priority)) (filter-map (λ r. r.point == point) (shifted_pending by) rs)
      ∙ least-map (λ r. r.priority) (shifted_pending by) (λ r. refl) (filter (λ r. r.point == point) rs)

  from-back : (start : ℕ) (steps : List Step) → by ≤ start → value_from (start - by) steps (n - by) ≡ value_from start steps n
  from-back start [] begun = refl
  from-back start (step ∷ steps) begun =
      let along : (start - by) + hold step ≡ (start + hold step) - by = omega (arith, begun) in
      let first : nat_lt (n - by) (start - by) ≡ nat_lt n start = grind (arith, nat_tests, far, begun) in
      let here : nat_lt (n - by) ((start + hold step) - by) ≡ nat_lt n (start + hold step) = grind (arith, nat_tests, far, begun) in
      let rest = from-back (start + hold step) steps (omega (arith, begun)) in
      (λ i. cond (first i) None (cond (nat_lt (n - by) (along i)) (Some step.value) (value_from (along i) steps (n - by))))
      ∙ (λ i. cond (nat_lt n start) None (cond (here i) (Some step.value) (rest i)))

  value-back : (default : ℤ) (lease : Option Lease) (reversion : Option Pending) → ((r : Pending) → reversion ≡ Some r → by ≤ r.start) →
      value_of default (n - by) (option_map (shifted_lease by) lease) (option_map (shifted_pending by) reversion) ≡ value_of default n lease reversion
  value-back default (Some lease) reversion begun = refl
  value-back default None (Some r) begun = ap (λ v. unwrap_or v default) (from-back r.start r.steps (begun r refl))
  value-back default None None begun = refl

  -- ---- a point

  begun-courses : (plant : List Actuator) (d : Persistent) → MayShift by d → IsSoundPersistent plant d → AllByRecursion (λ r. by ≤ r.start) (courses d.pending d.leases)
  begun-courses plant d may sound =
      let early : by ≤ d.now = may.now in
      to-courses (λ r. by ≤ r.start) d.pending d.leases may.started
      (each-map (IsLease plant d.now) (λ l. by ≤ l.until) (λ l is. let live : d.now < l.until = is.live in omega (arith, early, live)) d.leases sound.leases)

  at-back : (plant : List Actuator) (d : Persistent) (point : ℕ) → MayShift by d → IsSoundPersistent plant d →
      target_at plant (n - by) (tick_to (n - by) (shifted by d)) point ≡ target_at plant n (tick_to n d) point
  at-back plant d point may sound =
      let cs = courses d.pending d.leases in
      let begun = begun-courses plant d may sound in
      let on = under_way n cs in
      let leases : in_force (live (n - by) (map (shifted_lease by) d.leases)) point ≡ option_map (shifted_lease by) (in_force (live n d.leases) point)
      = ap (λ ls. in_force ls point) (live-back d.leases) ∙ in_force-back (live n d.leases) point in
      let pending : playing (under_way (n - by) (courses (map (shifted_pending by) d.pending) (map (shifted_lease by) d.leases))) point ≡ option_map (shifted_pending by) (playing on point)
      = ap (λ rs. playing (under_way (n - by) rs) point) (courses-map by d.pending d.leases) ∙ ap (λ rs. playing rs point) (under_way-back cs begun) ∙ playing-back on point in
      (λ i. value_of (default_of plant point) (n - by) (leases i) (pending i))
      ∙ value-back (default_of plant point) (in_force (live n d.leases) point) (playing on point)
      (λ r found. least-of (λ r. by ≤ r.start) (λ r. r.priority) (filter (λ r. r.point == point) on) r
      (each-filter (λ r. by ≤ r.start) (λ r. r.point == point) on (each-filter (λ r. by ≤ r.start) (λ r. nat_le r.start n && nat_lt n (end_of r)) cs begun)) found)

pub targets-back : (plant : List Actuator) (by : ℕ) (d : Persistent) (m point : ℕ) → MayShift by d → IsSoundPersistent plant d → d.now ≤ m → m ≤ last_moment →
    target plant (tick (shifted by d) (m - by)) point ≡ target plant (tick d m) point
targets-back plant by d m point may sound later small =
    let early : by ≤ d.now = may.now in
    let far : by ≤ m = omega (arith, early, later) in
    let before : max (d.now - by) (m - by) ≡ m - by = omega (arith, later) in
    let after : max d.now m ≡ m = omega (arith, later) in
    let sound-after = shifted-sound by plant d may sound in
    ap (λ k. target plant (tick_to k (shifted by d)) point) before
    ∙ sym (target-ticked plant (shifted by d) (m - by) point sound-after (omega (arith, later)) (omega (arith, small)))
    ∙ at-back by m far plant d point may sound
    ∙ target-ticked plant d m point sound later small
    ∙ ap (λ k. target plant (tick_to k d) point) (sym after)
