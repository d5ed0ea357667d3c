use Rattle.std.proofs.Common.{length}
use Rattle.boss_points.proofs.Distinct.{apart-seen}
use Rattle.boss_points.proofs.PointKinds.{whole-plant}
use Rattle.boss_points.proofs.catalogue.Catalogue.count.Goals as goal

pub returns-clause-plant : goal.returns-clause-plant
returns-clause-plant c =
    let inside = c.self.inside in
    rw (← c.self.view_is) (whole-plant (length inside.drivers.items) inside.points.items c.self.invariant.few_points c.self.invariant.whole)

pub returns-clause-apart : goal.returns-clause-apart
returns-clause-apart c =
    let inside = c.self.inside in
    rw (← c.self.view_is) (apart-seen inside.points.items c.self.invariant.apart)
