use Rattle.std.proofs.Common.{take}
use Rattle.std.specs.List.{flat_map}
use Rattle.def_catalogue.specs.Canonical.{point_line}
use Rattle.boss_points.specs.Fed.{Takes}
use Rattle.boss_points.specs.Seen.{all_seen}
use Rattle.boss_points.proofs.digest.feed_points.Given as goal

-- the lines of the points so far were taken
abbrev pub invariant-loop-point : goal.invariant-loop-point
invariant-loop-point l = Takes l.fn.hasher l.hasher (flat_map (point_line l.drivers) (all_seen (take l.point-index l.points)))
