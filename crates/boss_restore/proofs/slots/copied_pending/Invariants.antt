use Rattle.std.proofs.Common.{◌≡◌, ◌≤◌, length, take, vec_capacity}
use Rattle.boss_restore.proofs.slots.copied_pending.Given as goal

abbrev pub invariant-loop-reversion : goal.invariant-loop-reversion
invariant-loop-reversion l = record {
  copies : l.copies.items ≡ take l.reversion-index l.pending;
  room : length l.pending ≤ vec_capacity l.copies;
}
