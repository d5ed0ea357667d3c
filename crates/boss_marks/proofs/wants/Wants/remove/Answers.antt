use Rattle.std.proofs.Common.{◌≡◌, false, sym, ◌∙◌}
use Rattle.boss_model.specs.Lists.{member}
use Rattle.boss_model.proofs.Members.{without-none}
use Rattle.boss_marks.proofs.Wanting.{read_at, IsWants-removed}
use Rattle.boss_marks.proofs.wants.Wants.remove.Goals as goal

pub returns-then-not-contains : goal.returns-then-not-contains
returns-then-not-contains c =
    let outside : member c.args.point c.self.inside.line.points ≡ false = sym c.contains.ensures ∙ c.if-not-contains.true in
    rw (← c.self.view_is, without-none c.args.point c.self.inside.line.points outside)

pub invariant_of-self : goal.invariant_of-self
invariant_of-self c =
    let inside = sym c.contains.ensures ∙ c.if-not-contains.false in
    let known = c.self.invariant.known c.args.point inside in
    let own = read_at c.self.inside.drivers.items c.point.inside.0 c.args.point c.index-driver.result.now 0 c.point.view_is known c.index-driver.ensures in
    let first = rw (← c.self.view_is, ← own) at c.first_without-first.ensures in
    rw (c.remove.ensures, c.driver.view_is) (IsWants-removed c.self.invariant c.index-driver.result.now c.args.point c.first_without-first.result inside own first)
