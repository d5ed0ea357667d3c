use Rattle.std.proofs.Common.{◌≡◌, ◌≤◌, length, map, take}
use Rattle.boss_stages.specs.Stages.{live_part, write_slot}
use Rattle.boss_stages.proofs.transaction.Transaction.of_writes.Given as goal

abbrev pub invariant-loop-write : goal.invariant-loop-write
invariant-loop-write l = record {
  parts : l.parts.items ≡ map live_part (map write_slot (take l.write-index l.writes));
  room : length l.writes ≤ l.parts.capacity;
}
