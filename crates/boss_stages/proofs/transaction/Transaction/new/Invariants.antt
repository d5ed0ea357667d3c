use Rattle.std.proofs.Common.{◌≡◌, ◌≤◌, length, map, take}
use Rattle.boss_stages.specs.Stages.{live_part}
use Rattle.boss_stages.proofs.transaction.Transaction.new.Given as goal

abbrev pub invariant-loop-point : goal.invariant-loop-point
invariant-loop-point l = record {
  parts : l.parts.items ≡ map live_part (take l.point-index l.slots);
  room : length l.slots ≤ l.parts.capacity;
}
