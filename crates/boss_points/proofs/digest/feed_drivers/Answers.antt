use Rattle.std.proofs.Common.{take}
use Rattle.std.specs.List.{flat_map}
use Rattle.def_catalogue.specs.Canonical.{driver_line}
use Rattle.boss_points.proofs.Fed.{takes_both, takes_nothing, flat_map-take_more}
use Rattle.boss_points.proofs.digest.feed_drivers.Goals as goal

pub loop-driver-init : goal.loop-driver-init
loop-driver-init c = takes_nothing c.args.hasher.now

pub loop-driver-preserved : goal.loop-driver-preserved
loop-driver-preserved c =
    let drivers = c.args.drivers.now in
    rw (flat_map-take_more driver_line drivers c.loop-driver.driver-index c.driver-item.result c.loop-driver-test.true c.driver-item.is)
    (takes_both c.args.hasher.now c.loop-driver.hasher c.feed_driver.new.hasher (flat_map driver_line (take c.loop-driver.driver-index drivers)) (driver_line c.driver-item.result)
    c.loop-driver.invariant c.feed_driver.ensures)
