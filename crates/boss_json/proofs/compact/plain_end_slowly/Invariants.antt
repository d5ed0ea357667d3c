use Rattle.std.proofs.Common.{◌-◌, ◌≤◌, length}
use Rattle.boss_json.specs.Compact.{CompactBetween}
use Rattle.boss_json.proofs.compact.plain_end_slowly.Given as goal

abbrev pub invariant-loop-end : goal.invariant-loop-end
invariant-loop-end l = record {
  after : l.start ≤ l.end;
  plain : CompactBetween l.text l.start l.end;
}

abbrev pub decreases-loop-end : goal.decreases-loop-end
decreases-loop-end l = length l.text - l.end
