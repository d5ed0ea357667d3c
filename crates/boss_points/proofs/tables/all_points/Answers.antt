use Rattle.std.proofs.Common.{◌≡◌, is_none, false, ap, ◌∙◌}
use Rattle.toml.specs.View.{view}
use Rattle.boss_points.specs.Keys.{point_of}
use Rattle.boss_points.proofs.Places.{fails_at}
use Rattle.boss_points.proofs.tables.all_points.Goals as goal

pub unreachable-requires : goal.unreachable-requires
unreachable-requires c =
    let drivers = c.args.drivers.now in
    let read : is_none (point_of drivers (view c.table-item.result)) ≡ false =
    fails_at view (λ d. is_none (point_of drivers d)) c.args.tables.now c.loop-table.table-index c.table-item.result c.requires.passed c.loop-table-test.true c.table-item.is in
    let told : is_none c.point_of.result ≡ false = ap is_none c.point_of.ensures ∙ read in
    let missing = rw c.in_default.is at told in
    absurd (cc)
