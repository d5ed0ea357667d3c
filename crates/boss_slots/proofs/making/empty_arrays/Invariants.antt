use Rattle.std.proofs.Common.{◌≡◌, None, replicate, vec_capacity}
use Rattle.boss_slots.proofs.making.empty_arrays.Given as goal

abbrev pub invariant-loop-point : goal.invariant-loop-point
invariant-loop-point l = record {
  items : l.arrays.items ≡ replicate l._point (replicate 16 None);
  room : vec_capacity l.arrays ≡ l.points;
}
