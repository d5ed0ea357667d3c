use Rattle.std.proofs.Common.{length}
use Rattle.boss_points.proofs.Pages.{page-known, page-seen}
use Rattle.boss_points.proofs.catalogue.Catalogue.page.Goals as goal

pub returns-clause-points : goal.returns-clause-points
returns-clause-points c =
    rw (← c.self.view_is, c.front.ensures.points, c.behind.ensures, c.deref.ensures.value) (page-seen c.args.most c.args.from c.self.inside.points.items)

pub returns-clause-known : goal.returns-clause-known
returns-clause-known c =
    rw (← c.self.view_is, c.front.ensures.points, c.behind.ensures, c.deref.ensures.value)
    (page-known (length c.self.inside.drivers.items) c.args.most c.args.from c.self.inside.points.items c.self.invariant.whole)
