use Rattle.std.proofs.Common.{take}
use Rattle.std.specs.List.{flat_map}
use Rattle.def_catalogue.specs.Canonical.{driver_line}
use Rattle.boss_points.specs.Fed.{Takes}
use Rattle.boss_points.proofs.digest.feed_drivers.Given as goal

-- the lines of the drivers so far were taken
abbrev pub invariant-loop-driver : goal.invariant-loop-driver
invariant-loop-driver l = Takes l.fn.hasher l.hasher (flat_map driver_line (take l.driver-index l.drivers))
