-- A point that is told is one of the old catalogue.
use Rattle.std.proofs.Common.{◌≡◌, ℕ, ◌<◌, List, length, map, not, Option, Some, ◌++◌, arith}
use Rattle.std.specs.List.{filter, AllByRecursion}
use Rattle.std.proofs.lemmas.List.{length-map}
use Rattle.boss_model.specs.declared.state.Actuator.{Actuator}
use Rattle.boss_model.specs.declared.state.Lease.{Lease}
use Rattle.boss_model.specs.declared.state.Pending.{Pending}
use Rattle.boss_model.specs.Catalogue.{Point, Catalogue, actuators}
use Rattle.boss_model.specs.Lists.{member}
use Rattle.boss_model.specs.Records.{Part, Transaction}
use Rattle.boss_model.specs.Sound.{IsPart, IsTransaction, IsSoundPersistent}
use Rattle.boss_model.specs.State.{Persistent}
use Rattle.law_time.proofs.Filters.{each-mapped, each-flat_map}
use Rattle.law_time.proofs.NothingDue.{of-pending, of-leases}
use Rattle.law_time.proofs.Orders.{each-map, each-filter, each-append, least-of}
use Rattle.law_time.proofs.TickSound.{known-courses}
use Rattle.law_adoption.specs.MayMove.{used, in_use, lease_fits, pending_fits, unfit}
use Rattle.law_adoption.specs.Renumber.{stays}

module _ (plant : List Actuator) (to : ℕ → Option ℕ) (d : Persistent) (sound : IsSoundPersistent plant d) where
  abbrev IsKnown : ℕ → Type 0
  IsKnown point = point < length plant

  used-known : AllByRecursion IsKnown (used d)
  used-known = each-flat_map IsKnown (λ (t : Transaction). map (λ part. part.point) t.parts) (filter (λ t. not (member t.txn d.done)) d.txns)
      (each-filter (λ t. AllByRecursion IsKnown (map (λ part. part.point) t.parts)) (λ t. not (member t.txn d.done)) d.txns
      (each-map (IsTransaction plant d) (λ t. AllByRecursion IsKnown (map (λ part. part.point) t.parts))
      (λ t is. each-mapped IsKnown (λ (part : Part). part.point) t.parts (each-map (IsPart plant d.now t.txn d.leases) (λ part. IsKnown part.point) (λ part at. at.known) t.parts is.parts))
      d.txns sound.txns))

  pub in_use-known : (point : ℕ) → in_use to d ≡ Some point → point < length plant
  in_use-known point told = least-of IsKnown (λ p. p) (filter (λ p. not (stays to p)) (used d)) point (each-filter IsKnown (λ p. not (stays to p)) (used d) used-known) told

  pub unfit-known : (new : List Actuator) (point : ℕ) → unfit new to d ≡ Some point → point < length plant
  unfit-known new point told =
      let courses = known-courses plant d sound in
      let unfit_leases = filter (λ (l : Lease). not (lease_fits new to l)) d.leases in
      let unfit_pending = filter (λ (r : Pending). not (pending_fits new to r)) d.pending in
      least-of IsKnown (λ p. p) (map (λ l. l.point) unfit_leases ++ map (λ r. r.point) unfit_pending) point
      (each-append IsKnown (map (λ l. l.point) unfit_leases) (map (λ r. r.point) unfit_pending)
      (each-mapped IsKnown (λ (l : Lease). l.point) unfit_leases (each-filter (λ l. IsKnown l.point) (λ l. not (lease_fits new to l)) d.leases
      (of-leases (λ r. IsKnown r.point) d.pending d.leases courses)))
      (each-mapped IsKnown (λ (r : Pending). r.point) unfit_pending (each-filter (λ r. IsKnown r.point) (λ r. not (pending_fits new to r)) d.pending
      (of-pending (λ r. IsKnown r.point) d.pending d.leases courses))))
      told

-- the points of a catalogue are those that the machine knows of
pub in-catalogue : (catalogue : Catalogue) (point : ℕ) → point < length (actuators catalogue) → point < length catalogue.points
in-catalogue catalogue point there =
    let as_many : length (actuators catalogue) ≡ length catalogue.points = length-map catalogue.points (λ (p : Point). p.actuator) in
    omega arith
