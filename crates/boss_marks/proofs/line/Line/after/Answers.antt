use Rattle.std.proofs.Common.{None, ◌∙◌}
use Rattle.std.proofs.lemmas.List.{get_or_read}
use Rattle.boss_marks.proofs.Links.{IsLine-after, IsLine-known}
use Rattle.boss_marks.proofs.line.Line.after.Goals as goal

pub returns : goal.returns
returns c =
    let inside = rw (← c.self.view_is, ← c.point.view_is) at c.requires in
    let within = rw (← c.self.invariant.afters) at (IsLine-known c.self.invariant c.point.inside.0 inside) in
    rw (← c.self.view_is, ← c.point.view_is) (get_or_read _ _ _ within c.index.ensures None ∙ IsLine-after c.self.invariant c.point.inside.0 inside)
