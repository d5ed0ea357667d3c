use Rattle.std.proofs.Common.{◌≡◌, ℕ, ◌<◌, ◌≤◌, None, length, vec_len}
use Rattle.std.specs.List.{AllByRecursion, find}
use Rattle.std.specs.Option.{option_or}
use Rattle.boss_holdings.specs.Held.{AreApart, is_at}
use Rattle.boss_slots.specs.Tables.{IsKept, IsTimed, lease_at, pending_at}
use Rattle.boss_holdings.proofs.taking.put_leases.Given as goal

-- the leases that are to come, over what stands now, are all of them over what stood at first
abbrev pub invariant-loop-lease : goal.invariant-loop-lease
invariant-loop-lease l = record {
  kept : IsKept l.tables;
  apart : AreApart l.new.items;
  slots : AllByRecursion (λ lease. (lease.point < length l.tables.arrays.items) × (1 ≤ lease.priority) × (lease.priority ≤ 16)) l.new.items;
  clear : AllByRecursion (λ lease. (lease_at l.tables lease.point lease.priority ≡ None) × (pending_at l.tables lease.point lease.priority ≡ None)) l.new.items;
  leases : (p q : ℕ) → option_or (find (is_at p q) l.new.items) (lease_at l.tables p q) ≡ option_or (find (is_at p q) l.initial.new.items) (lease_at l.initial.tables p q);
  pending : (p q : ℕ) → pending_at l.tables p q ≡ pending_at l.initial.tables p q;
  timed : (last : ℕ) → IsTimed last l.initial.tables → IsTimed last l.tables;
  points : length l.tables.arrays.items ≡ length l.initial.tables.arrays.items;
}

abbrev pub decreases-loop-lease : goal.decreases-loop-lease
decreases-loop-lease l = vec_len l.new
