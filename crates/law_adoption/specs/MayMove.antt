-- Source: own.
-- When a state cannot be adopted: a removed point is in use, or a point takes a value no more.
use Rattle.std.specs.Prelude.{◌≡◌, ℕ, Bool, true, false, not, ◌&&◌, List, ◌++◌, map, filter, flat_map, Option}
use Rattle.std.specs.List.{AllByRecursion, list_all}
use Rattle.boss_model.specs.declared.state.Actuator.{Actuator}
use Rattle.boss_model.specs.declared.state.Lease.{Lease}
use Rattle.boss_model.specs.declared.state.Pending.{Pending}
use Rattle.boss_model.specs.Catalogue.{fits_at}
use Rattle.boss_model.specs.Lists.{member}
use Rattle.boss_model.specs.Order.{least}
use Rattle.boss_model.specs.State.{Persistent}
use Rattle.law_adoption.specs.Adopted.{all_stay}
use Rattle.law_adoption.specs.Renumber.{stays, at}

-- ---- in use

-- the points that the records of transactions which are not done name; a part that has ended counts
abbrev pub used : Persistent → List ℕ
used d = flat_map (λ transaction. map (λ part. part.point) transaction.parts) (filter (λ transaction. not (member transaction.txn d.done)) d.txns)

-- the least removed point in use
abbrev pub in_use : (ℕ → Option ℕ) → Persistent → Option ℕ
in_use to d = least (λ point. point) (filter (λ point. not (stays to point)) (used d))

-- ---- unfit

-- the new point takes the value, and those of the steps to come
abbrev pub lease_fits : List Actuator → (ℕ → Option ℕ) → Lease → Bool
lease_fits plant to lease =
    fits_at plant (at to lease.point) lease.value && list_all (λ step. fits_at plant (at to lease.point) step.value) lease.revert

-- those of all steps, also of the ones that are over
abbrev pub pending_fits : List Actuator → (ℕ → Option ℕ) → Pending → Bool
pending_fits plant to reversion = list_all (λ step. fits_at plant (at to reversion.point) step.value) reversion.steps

-- the least point with a lease or a reversion one of whose values does not fit
abbrev pub unfit : List Actuator → (ℕ → Option ℕ) → Persistent → Option ℕ
unfit plant to d = least (λ point. point) (
    map (λ lease. lease.point) (filter (λ lease. not (lease_fits plant to lease)) d.leases)
    ++ map (λ reversion. reversion.point) (filter (λ reversion. not (pending_fits plant to reversion)) d.pending))

-- ---- neither, item by item

pub record MayMove (plant : List Actuator) (to : ℕ → Option ℕ) (d : Persistent) : Type 0 where
  pub named : AllByRecursion (λ transaction. member transaction.txn d.done ≡ false → all_stay to transaction ≡ true) d.txns
  pub leases : AllByRecursion (λ lease. lease_fits plant to lease ≡ true) d.leases
  pub pending : AllByRecursion (λ reversion. pending_fits plant to reversion ≡ true) d.pending
