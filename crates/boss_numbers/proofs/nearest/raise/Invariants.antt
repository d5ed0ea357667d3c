use Rattle.std.proofs.Common.{◌≡◌, ◌<◌, ◌≤◌, ◌*◌, ◌^◌, ◌-◌}
use Rattle.boss_numbers.proofs.nearest.raise.Given as goal

abbrev pub invariant-loop-n : goal.invariant-loop-n
invariant-loop-n l = record {
  same : l.n * 2 ^ l.e ≡ l.fn.n * 2 ^ 149;
  some : 0 < l.n;
  short : l.n < 2 ^ 101;
  few : l.e ≤ 149;
}

abbrev pub decreases-loop-n : goal.decreases-loop-n
decreases-loop-n l = 2 ^ 100 - l.n
