use Rattle.std.proofs.Common.{◌≡◌, None, false, true, get_or, take, vec_capacity}
use Rattle.std.specs.List.{AllByRecursion}
use Rattle.boss_slots.specs.Ending.{IsClearing}
use Rattle.boss_slots.specs.Tables.{lease_at, pending_at}
use Rattle.boss_holdings.proofs.taking.clear_slots.Given as goal

-- the slots seen so far are clear
abbrev pub invariant-loop-lease : goal.invariant-loop-lease
invariant-loop-lease l = record {
  clearing : IsClearing l.new l.by l.n l.initial.tables l.tables l.initial.told.items l.told.items (vec_capacity l.told) l.initial.touched l.touched;
  clear : AllByRecursion (λ lease. (lease_at l.tables lease.point lease.priority ≡ None) × (pending_at l.tables lease.point lease.priority ≡ None)) (take l.lease-index l.new);
  marked : AllByRecursion (λ lease. get_or l.touched lease.point false ≡ true) (take l.lease-index l.new);
  room : vec_capacity l.told ≡ vec_capacity l.initial.told;
}
