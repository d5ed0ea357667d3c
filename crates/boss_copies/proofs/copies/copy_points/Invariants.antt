use Rattle.std.proofs.Common.{◌≡◌, ◌≤◌, length, take, vec_capacity}
use Rattle.boss_copies.proofs.copies.copy_points.Given as goal

abbrev pub invariant-loop-point : goal.invariant-loop-point
invariant-loop-point l = record {
  copied : l.copy.items ≡ take l.point-index l.points;
  room : length l.points ≤ vec_capacity l.copy;
}
