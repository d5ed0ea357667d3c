use Rattle.std.proofs.Common.{take}
use Rattle.std.specs.List.{flat_map}
use Rattle.def_catalogue.specs.Canonical.{point_line}
use Rattle.boss_points.specs.Seen.{seen, all_seen}
use Rattle.boss_points.proofs.Fed.{takes_both, all_seen-take_more}
use Rattle.boss_points.proofs.digest.feed_points.Goals as goal

pub loop-point-preserved : goal.loop-point-preserved
loop-point-preserved c =
    let line = point_line c.args.drivers.now in
    let points = c.args.points.now in
    rw (all_seen-take_more line points c.loop-point.point-index c.point-item.result c.loop-point-test.true c.point-item.is)
    (takes_both c.args.hasher.now c.loop-point.hasher c.feed_point.new.hasher (flat_map line (all_seen (take c.loop-point.point-index points))) (line (seen c.point-item.result))
    c.loop-point.invariant c.feed_point.ensures)
