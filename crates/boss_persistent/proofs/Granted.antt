-- The leases of a submit that is not refused are on different slots of the plant.
use Rattle.std.proofs.Common.{◌≡◌, ℕ, ◌<◌, ◌≤◌, ℤ, List, [], ◌∷◌, length, map, refl, true, false, None, Some, Option, unsigned_abs, arith}
use Rattle.std.specs.List.{AllByRecursion, slice_get}
use Rattle.std.specs.Option.{option_map_or}
use Rattle.std.proofs.lemmas.Bool.Decides.{nat_tests}
use Rattle.std.proofs.lemmas.Option.{slice_get_within}
use Rattle.boss_model.specs.declared.command.Policy.{Policy}
use Rattle.boss_model.specs.declared.command.Setting.{Setting}
use Rattle.boss_model.specs.declared.state.Actuator.{Actuator}
use Rattle.boss_model.specs.declared.state.Lease.{Lease}
use Rattle.boss_model.specs.Catalogue.{fits, fits_at}
use Rattle.boss_model.specs.Lists.{member}
use Rattle.boss_model.specs.Sound.{Distinct, IsLease}
use Rattle.boss_model.specs.State.{Persistent}
use Rattle.boss_model.specs.Submit.{granted, is_taken, lease_of, submit_refused}
use Rattle.law_time.proofs.Filters.{each-mapped}
use Rattle.law_time.proofs.Orders.{each-map}
use Rattle.law_soundness.proofs.NotRefused.{IsWrite, submit-not-refused}
use Rattle.law_soundness.proofs.SubmitSound.{new-lease}
use Rattle.law_records.proofs.Reverting.{level-in}
use Rattle.boss_holdings.specs.Held.{AreApart}

-- a point that takes a value is there
known : (plant : List Actuator) (point : ℕ) (value : ℤ) → fits_at plant point value ≡ true → point < length plant
known plant point value fitting = there (slice_get plant point) (λ x is. slice_get_within plant point x is) fitting
  where
    there : (found : Option Actuator) → ((x : Actuator) → found ≡ Some x → point < length plant) → option_map_or (λ actuator. fits actuator.kind value) found false ≡ true → point < length plant
    there None within fitting = cc
    there (Some x) within fitting = within x cc

module _ (plant : List Actuator) (owner : ℕ) (policy : Policy) (txn n : ℕ) (writes : List Setting) (d : Persistent) (none : submit_refused plant writes d ≡ None) where
  slot-of : (w : Setting) → IsWrite plant w → (w.point < length plant) × (1 ≤ unsigned_abs w.priority) × (unsigned_abs w.priority ≤ 16)
  slot-of w is =
      let lease : IsLease plant n (lease_of owner policy txn n w) = new-lease plant owner policy txn n w is in
      let level = level-in (unsigned_abs w.priority) lease.level in
      (known plant w.point w.value is.fitting, level.0, level.1)

  pub granted-slots : AllByRecursion (λ lease. (lease.point < length plant) × (1 ≤ lease.priority) × (lease.priority ≤ 16)) (granted owner policy txn n writes)
  granted-slots = each-mapped (λ (lease : Lease). (lease.point < length plant) × (1 ≤ lease.priority) × (lease.priority ≤ 16)) (lease_of owner policy txn n) writes
      (each-map (IsWrite plant) (λ w. (w.point < length plant) × (1 ≤ unsigned_abs w.priority) × (unsigned_abs w.priority ≤ 16)) slot-of writes (submit-not-refused plant writes d none).allowed)

  free : (point priority : ℕ) (ws : List Setting) → member point (map (λ w. w.point) ws) ≡ false → is_taken (granted owner policy txn n ws) point priority ≡ false
  free point priority [] out = refl
  free point priority (w ∷ ws) out = grind (arith, nat_tests, free point priority ws (grind (arith, nat_tests)))

  apart : (ws : List Setting) → Distinct (map (λ w. w.point) ws) → AreApart (granted owner policy txn n ws)
  apart [] distinct = tt
  apart (w ∷ ws) distinct = (free w.point (unsigned_abs w.priority) ws distinct.0, apart ws distinct.1)

  pub granted-apart : AreApart (granted owner policy txn n writes)
  granted-apart = apart writes (submit-not-refused plant writes d none).points
