-- Source: own.
use Rattle.std.specs.Prelude.{◌≡◌, ℕ, zero, suc, ◌+◌, ◌*◌, ◌-◌, ◌<◌, ◌≤◌, List, [], length, Option, None, Some, is_some, count_by, slice_index_or}
use Rattle.std.specs.List.{AllByRecursion}
use Rattle.boss_array.specs.declared.array.Entry.{Entry}
use Rattle.boss_array.specs.declared.array.Entry.TheVariants as entry
use Rattle.boss_model.specs.declared.state.Lease.{Lease}
use Rattle.boss_model.specs.declared.state.Pending.{Pending}
use Rattle.boss_model.specs.Reversions.{end_of, turns}
use Rattle.boss_slots.specs.Slots.{all}
use Rattle.boss_slots.specs.declared.tables.Tables.{Tables}

-- ---- the priority arrays of all points

-- what stands in a slot; a point has no level 0
abbrev pub entry_in : List (List (Option Entry)) → ℕ → ℕ → Option Entry
entry_in arrays point zero = None
entry_in arrays point (suc place) = slice_index_or (slice_index_or arrays point []) place None

-- one slot is set, and the others are as before
pub record IsEntrySet (old new : List (List (Option Entry))) (point priority : ℕ) (to : Option Entry) : Type 0 where
  pub here : entry_in new point priority ≡ to
  pub others : (a b : ℕ) → (a ≡ point → b ≡ priority → ⊥) → entry_in new a b ≡ entry_in old a b
  pub points : length new ≡ length old

-- a slot's number among those of all points
abbrev pub number : ℕ → ℕ → ℕ
number point priority = 16 * point + priority - 1

-- ---- what the tables have in a slot

abbrev pub lease_of : List (Option Lease) → Option Entry → Option Lease
lease_of leases None = None
lease_of leases (Some (entry.Lease key)) = slice_index_or leases key None
lease_of leases (Some (entry.Pending key)) = None

abbrev pub pending_of : List (Option Pending) → Option Entry → Option Pending
pending_of pending None = None
pending_of pending (Some (entry.Lease key)) = None
pending_of pending (Some (entry.Pending key)) = slice_index_or pending key None

unfoldable pub lease_at : Tables → ℕ → ℕ → Option Lease
lease_at t point priority = lease_of t.leases (entry_in t.arrays.items point priority)

unfoldable pub pending_at : Tables → ℕ → ℕ → Option Pending
pending_at t point priority = pending_of t.pending.items (entry_in t.arrays.items point priority)

abbrev pub points_of : Tables → ℕ
points_of t = length t.arrays.items

-- ---- how the tables stand to each other

abbrev pub IsLeaseOf : ℕ → ℕ → Option Lease → Type 0
IsLeaseOf point priority None = ⊥
IsLeaseOf point priority (Some lease) = (lease.point ≡ point) × (lease.priority ≡ priority)

abbrev pub IsPendingOf : ℕ → ℕ → Option Pending → Type 0
IsPendingOf point priority None = ⊥
IsPendingOf point priority (Some reversion) = (reversion.point ≡ point) × (reversion.priority ≡ priority)

-- A slot leads by key to its lease or its reversion, and each of these stands in its slot. The key of a reversion is the number of
-- its slot.
pub record IsKept (t : Tables) : Type 0 where
  pub keyed : (p q key : ℕ) → entry_in t.arrays.items p q ≡ Some (entry.Lease key) → IsLeaseOf p q (slice_index_or t.leases key None)
  pub held : (key : ℕ) (lease : Lease) → slice_index_or t.leases key None ≡ Some lease → entry_in t.arrays.items lease.point lease.priority ≡ Some (entry.Lease key)
  pub played : (p q key : ℕ) → entry_in t.arrays.items p q ≡ Some (entry.Pending key) → IsPendingOf p q (slice_index_or t.pending.items key None)
  pub kept : (key : ℕ) (reversion : Pending) → slice_index_or t.pending.items key None ≡ Some reversion →
      (entry_in t.arrays.items reversion.point reversion.priority ≡ Some (entry.Pending key)) × (key ≡ number reversion.point reversion.priority)
  pub within : (p q : ℕ) (to : Entry) → entry_in t.arrays.items p q ≡ Some to → (p < length t.arrays.items) × (1 ≤ q) × (q ≤ 16)
  pub keys : length t.leases ≡ 16 * length t.arrays.items
  pub numbers : length t.pending.items ≡ 16 * length t.arrays.items
  pub timers : length t.timers ≡ 32 * length t.arrays.items
  pub few : length t.arrays.items ≤ 4096
  pub counted : count_by is_some t.leases ≡ t.live
  pub live : t.live ≡ length (all (lease_at t) (length t.arrays.items))
  pub under_way : t.under_way ≡ length (all (pending_at t) (length t.arrays.items))

-- one slot changes, and the others are as before
pub record IsMoved (old new : Tables) (point priority : ℕ) (leased : Option Lease) (reverting : Option Pending) : Type 0 where
  pub lease : lease_at new point priority ≡ leased
  pub pending : pending_at new point priority ≡ reverting
  pub others : (a b : ℕ) → (a ≡ point → b ≡ priority → ⊥) → (lease_at new a b ≡ lease_at old a b) × (pending_at new a b ≡ pending_at old a b)
  pub points : length new.arrays.items ≡ length old.arrays.items

-- ---- timers

-- there is a timer, and it goes off no later than this
abbrev pub IsBy : ℕ → Option ℕ → Type 0
IsBy moment None = ⊥
IsBy moment (Some timer) = timer ≤ moment

-- there is a timer, and it goes off no later than any step ends after `last`, and no later than the whole reversion does
abbrev pub IsAwaited : ℕ → Pending → Option ℕ → Type 0
IsAwaited last reversion None = ⊥
IsAwaited last reversion (Some timer) = (timer ≤ end_of reversion) × AllByRecursion (λ turn. last < turn → timer ≤ turn) (turns reversion.start reversion.steps)

-- A timer goes off no later than what it waits for: the end of a lease, or what comes of a reversion after `last`. The slots of
-- timers are the keys of leases, and behind them those of reversions.
pub record IsTimed (last : ℕ) (t : Tables) : Type 0 where
  pub until : (key : ℕ) (lease : Lease) → slice_index_or t.leases key None ≡ Some lease → IsBy lease.until (slice_index_or t.timers key None)
  pub turn : (key : ℕ) (reversion : Pending) → slice_index_or t.pending.items key None ≡ Some reversion →
      IsAwaited last reversion (slice_index_or t.timers (16 * length t.arrays.items + key) None)
