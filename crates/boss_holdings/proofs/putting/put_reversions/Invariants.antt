use Rattle.std.proofs.Common.{◌≡◌, ℕ, ◌<◌, ◌≤◌, None, length, vec_len}
use Rattle.std.specs.List.{AllByRecursion, find}
use Rattle.std.specs.Option.{option_or}
use Rattle.boss_holdings.specs.Putting.{ArePlacedApart, IsUnderWay, in_place}
use Rattle.boss_slots.specs.Tables.{IsKept, IsTimed, lease_at, pending_at}
use Rattle.boss_holdings.proofs.putting.put_reversions.Given as goal

-- the reversions that are to come, over what stands now, are all of them over what stood at first
abbrev pub invariant-loop-reversion : goal.invariant-loop-reversion
invariant-loop-reversion l = record {
  kept : IsKept l.tables;
  apart : ArePlacedApart l.others.items;
  slots : AllByRecursion (λ reversion. (reversion.point < length l.tables.arrays.items) × (1 ≤ reversion.priority) × (reversion.priority ≤ 16)) l.others.items;
  playing : AllByRecursion (IsUnderWay l.now) l.others.items;
  clear : AllByRecursion (λ reversion. (lease_at l.tables reversion.point reversion.priority ≡ None) × (pending_at l.tables reversion.point reversion.priority ≡ None)) l.others.items;
  pending : (p q : ℕ) → option_or (find (in_place p q) l.others.items) (pending_at l.tables p q) ≡ option_or (find (in_place p q) l.fn.pending.items) (pending_at l.initial.tables p q);
  leases : (p q : ℕ) → lease_at l.tables p q ≡ lease_at l.initial.tables p q;
  timed : IsTimed l.now l.tables;
  points : length l.tables.arrays.items ≡ length l.initial.tables.arrays.items;
}

abbrev pub decreases-loop-reversion : goal.decreases-loop-reversion
decreases-loop-reversion l = vec_len l.others
