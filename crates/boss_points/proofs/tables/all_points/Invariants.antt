use Rattle.std.proofs.Common.{◌≡◌, ◌++◌, length, drop}
use Rattle.std.specs.List.{filter_map}
use Rattle.boss_points.specs.Keys.{point_of}
use Rattle.boss_points.specs.Seen.{views}
use Rattle.boss_points.proofs.tables.all_points.Given as goal

-- the points so far and those to come are all; there are as many as were read
abbrev pub invariant-loop-table : goal.invariant-loop-table
invariant-loop-table l = record {
  read : l.points.items ++ filter_map (point_of l.drivers) (views (drop l.table-index l.tables)) ≡ filter_map (point_of l.drivers) (views l.tables);
  count : length l.points.items ≡ l.table-index;
}
