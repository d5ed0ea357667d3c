use Rattle.std.proofs.Common.{◌≡◌, codes, Some, sym, rules}
use Rattle.toml.specs.View.{view}
use Rattle.boss_points.specs.Keys.{text_at}
use Rattle.boss_points.proofs.Drivers.{driver_of-missing}
use Rattle.boss_points.proofs.keys.driver_of.Goals as goal

pub returns-in_err-place : goal.returns-in_err-place
returns-in_err-place c =
    let name : text_at (codes "driver") (view c.args.point.now) ≡ Some c.in_ok-name.name.now = search rules in
    rw c.from_residual-in_err-place.ensures (sym (driver_of-missing c.args.drivers.now (view c.args.point.now) c.in_ok-name.name.now name (rw c.as_bytes.ensures.value at (sym c.in_err-place.ensures.place))))
