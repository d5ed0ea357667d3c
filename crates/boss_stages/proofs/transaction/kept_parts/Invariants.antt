use Rattle.std.proofs.Common.{◌≡◌, ◌≤◌, length, map, take, vec_capacity}
use Rattle.boss_model.specs.Seen.{seen_part}
use Rattle.boss_stages.proofs.transaction.kept_parts.Given as goal

abbrev pub invariant-loop-part : goal.invariant-loop-part
invariant-loop-part l = record {
  kept : map seen_part l.kept.items ≡ take l.part-index l.parts;
  room : length l.parts ≤ vec_capacity l.kept;
}
