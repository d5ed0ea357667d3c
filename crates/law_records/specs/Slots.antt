-- Source: own.
-- The slots of a transaction's parts, and the leases that hold them.
use Rattle.std.specs.Prelude.{ℕ, ◌<◌, ◌≤◌, ◌==◌, nat_lt, Bool, ◌&&◌, List, map, filter, filter_map, Option, is_none}
use Rattle.std.specs.Option.{option_map}
use Rattle.std.specs.List.{list_any}
use Rattle.boss_model.specs.declared.state.Lease.{Lease}
use Rattle.boss_model.specs.declared.state.Pending.{Pending}
use Rattle.boss_model.specs.Order.{least}
use Rattle.boss_model.specs.Records.{Part}
use Rattle.law_effects.specs.Early.{slot_lease}

-- a point, and a priority there
abbrev pub Slot : Type 0
Slot = ℕ × ℕ

-- a slot of one of so many points; priorities are from 1 to 16
abbrev pub IsSlot : ℕ → Slot → Type 0
IsSlot points slot = (slot.0 < points) × (1 ≤ slot.1) × (slot.1 ≤ 16)

-- the part has no end
abbrev pub is_open : Part → Bool
is_open part = is_none part.end

abbrev pub slot_of_part : Part → Slot
slot_of_part part = (part.point, part.priority)

-- the slots of the parts without an end, in their order
abbrev pub open_slots : List Part → List Slot
open_slots parts = map slot_of_part (filter is_open parts)

-- the lease holds one of these slots
abbrev pub in_slots : List Slot → Lease → Bool
in_slots slots lease = list_any (λ slot. (lease.point == slot.0) && (lease.priority == slot.1)) slots

-- a lease in one of these slots ends before `until`
abbrev pub some_shorter : List Slot → ℕ → List Lease → Bool
some_shorter slots until leases = list_any (λ lease. in_slots slots lease && nat_lt lease.until until) leases

-- the ends of the leases in these slots, one for each slot that is taken, in the order of the slots
abbrev pub untils_at : List Lease → List Slot → List ℕ
untils_at leases slots = filter_map (λ slot. option_map (λ lease. lease.until) (slot_lease leases slot.0 slot.1)) slots

-- the least of some moments
abbrev pub soonest : List ℕ → Option ℕ
soonest moments = least (λ moment. moment) moments

-- a reversion of the transaction is under way on the point
abbrev pub reverts_on : ℕ → ℕ → List Pending → Bool
reverts_on txn point pending = list_any (λ reversion. (reversion.txn == txn) && (reversion.point == point)) pending
