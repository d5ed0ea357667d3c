use Rattle.std.proofs.Common.{◌≡◌, ◌≤◌, length, take, vec_capacity}
use Rattle.boss_restore.proofs.slots.copied_leases.Given as goal

abbrev pub invariant-loop-lease : goal.invariant-loop-lease
invariant-loop-lease l = record {
  copies : l.copies.items ≡ take l.lease-index l.leases;
  room : length l.leases ≤ vec_capacity l.copies;
}
