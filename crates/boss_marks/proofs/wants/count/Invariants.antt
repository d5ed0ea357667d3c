use Rattle.std.proofs.Common.{ℕ, ◌<◌, ◌≤◌, ◌^◌}
use Rattle.std.specs.Prelude.{slice_index}
use Rattle.boss_marks.proofs.wants.count.Given as goal

abbrev pub invariant-loop-driver : goal.invariant-loop-driver
invariant-loop-driver l = record {
  above : (point : ℕ) → point < l.driver-index → slice_index l.drivers point < l.count;
  few : l.count ≤ 2 ^ 16;
}
