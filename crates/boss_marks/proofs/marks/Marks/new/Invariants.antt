use Rattle.std.proofs.Common.{◌≡◌, ◌≤◌, map, take, vec_capacity}
use Rattle.std.specs.List.{range_with_len}
use Rattle.boss_model.specs.Settle.{fresh}
use Rattle.boss_marks.proofs.marks.Marks.new.Given as goal

abbrev pub invariant-loop-driver : goal.invariant-loop-driver
invariant-loop-driver l = record {
  drivers : l.drivers.items ≡ map (λ point. point.0) (take l.driver-index l.points);
  proxies : l.proxies.items ≡ map (λ point. fresh point.1) (take l.driver-index l.points);
  drivers_room : l.count ≤ vec_capacity l.drivers;
  proxies_room : l.count ≤ vec_capacity l.proxies;
}

abbrev pub invariant-loop-point : goal.invariant-loop-point
invariant-loop-point l = record {
  drivers : l.wants.drivers ≡ l.initial.wants.drivers;
  points : l.wants.points ≡ range_with_len 0 l.point;
}
