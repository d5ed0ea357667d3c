-- Source: own.
use Rattle.std.specs.Prelude.{ℕ, ◌==◌, ◌&&◌, List, map, find}
use Rattle.std.specs.List.{range_with_len}
use Rattle.boss_model.specs.declared.answer.Slot.{Slot}
use Rattle.boss_model.specs.Queries.{slot_of}
use Rattle.boss_model.specs.declared.state.Lease.{Lease}
use Rattle.boss_model.specs.declared.state.Pending.{Pending}

-- what stands in a slot of a point
abbrev pub slot_in : List Lease → List Pending → ℕ → ℕ → ℕ → Slot
slot_in leases pending now point priority = slot_of now
    (find (λ lease. (lease.point == point) && (lease.priority == priority)) leases)
    (find (λ reversion. (reversion.point == point) && (reversion.priority == priority)) pending)

abbrev pub slots_in : List Lease → List Pending → ℕ → ℕ → List Slot
slots_in leases pending now point = map (slot_in leases pending now point) (range_with_len 1 16)
