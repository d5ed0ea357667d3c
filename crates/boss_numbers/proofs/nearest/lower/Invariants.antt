use Rattle.std.proofs.Common.{◌≡◌, ◌<◌, ◌≤◌, ◌*◌, ◌^◌, ◌-◌}
use Rattle.boss_numbers.proofs.nearest.lower.Given as goal

abbrev pub invariant-loop-d : goal.invariant-loop-d
invariant-loop-d l = record {
  some : 0 < l.d;
  scale : l.d * 2 ^ l.fn.scaled.e ≡ l.fn.parts * 2 ^ l.e;
  least : 8388608 * l.d ≤ l.n;
}

abbrev pub decreases-loop-d : goal.decreases-loop-d
decreases-loop-d l = l.n - l.d
