use Rattle.std.proofs.Common.{◌≡◌, ◌≤◌, length, map, take}
use Rattle.boss_model.specs.Seen.{seen_part}
use Rattle.boss_stages.proofs.transaction.parts_put_back.Given as goal

abbrev pub invariant-loop-part : goal.invariant-loop-part
invariant-loop-part l = record {
  parts : l.parts.items ≡ map seen_part (take l.part-index l.kept);
  room : length l.kept ≤ l.parts.capacity;
}
