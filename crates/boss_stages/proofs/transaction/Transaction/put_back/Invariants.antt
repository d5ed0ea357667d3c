use Rattle.std.proofs.Common.{◌≡◌, ◌≤◌, length, take}
use Rattle.boss_stages.proofs.transaction.Transaction.put_back.Given as goal

abbrev pub invariant-loop-point : goal.invariant-loop-point
invariant-loop-point l = record {
  points : l.pending.items ≡ take l.point-index l.reverting;
  room : length l.kept.parts ≤ l.pending.capacity;
}
