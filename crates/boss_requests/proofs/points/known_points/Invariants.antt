use Rattle.std.proofs.Common.{◌≡◌, ◌<◌, length, drop, map, All}
use Rattle.def_wire.specs.Requests.{each_from}
use Rattle.boss_requests.specs.Seen.{point_in}
use Rattle.boss_requests.proofs.Each.{onto}
use Rattle.boss_requests.proofs.points.known_points.Given as goal

-- the points so far and those to come are all; there are as many as were read
abbrev pub invariant-loop-at : goal.invariant-loop-at
invariant-loop-at g l = record {
  told : onto l.points (each_from (point_in l.catalogue) l.at (map g.V.JsonValue.meaning (drop l.at l.values))) ≡ each_from (point_in l.catalogue) 0 (map g.V.JsonValue.meaning l.values);
  known : All (λ point. point < length l.catalogue.points) l.points;
  count : length l.points ≡ l.at;
}
