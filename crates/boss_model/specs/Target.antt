-- Source: ASHRAE 135, clause 19.2 (the value of the highest priority, else Relinquish_Default); that a reversion
-- ranks between the two is own.
use Rattle.std.specs.Prelude.{ℕ, ◌==◌, ℤ, List, Option, Some, None, filter, unwrap_or}
use Rattle.boss_model.specs.declared.answer.Basis.{Basis}
use Rattle.boss_model.specs.declared.answer.Basis.TheVariants as basis
use Rattle.boss_model.specs.Catalogue.{Actuator, default_of}
use Rattle.boss_model.specs.Order.{least}
use Rattle.boss_model.specs.Reversions.{value_at}
use Rattle.boss_model.specs.State.{Lease, Pending, Persistent}

-- the lease in force on a point: of its leases the one with the least priority number
abbrev pub in_force : List Lease → ℕ → Option Lease
in_force leases point = least (λ lease. lease.priority) (filter (λ lease. lease.point == point) leases)

-- of the reversions under way on a point the one with the least priority number
abbrev pub playing : List Pending → ℕ → Option Pending
playing pending point = least (λ reversion. reversion.priority) (filter (λ reversion. reversion.point == point) pending)

-- a live lease comes before every reversion, and a reversion before the default
abbrev pub value_of : ℤ → ℕ → Option Lease → Option Pending → ℤ
value_of default moment (Some lease) reversion = lease.value
value_of default moment None (Some reversion) = unwrap_or (value_at reversion moment) default
value_of default moment None None = default

abbrev pub basis_of : Option Lease → Option Pending → Basis
basis_of (Some lease) reversion = basis.Lease lease.priority lease.txn
basis_of None (Some reversion) = basis.Pending reversion.priority reversion.txn
basis_of None None = basis.Default

-- the value that a point is to have at a moment up to which nothing more is due
abbrev pub target_at : List Actuator → ℕ → Persistent → ℕ → ℤ
target_at plant moment d point = value_of (default_of plant point) moment (in_force d.leases point) (playing d.pending point)

-- the value that a point is to have: that of the lease in force, else of the reversion, else its Relinquish_Default
abbrev pub target : List Actuator → Persistent → ℕ → ℤ
target plant d point = target_at plant d.now d point

-- what that value rests on
abbrev pub basis_at : Persistent → ℕ → Basis
basis_at d point = basis_of (in_force d.leases point) (playing d.pending point)
