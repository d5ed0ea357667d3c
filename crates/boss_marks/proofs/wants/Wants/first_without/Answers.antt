use Rattle.std.proofs.Common.{◌≡◌, true, Some, sym, ◌∙◌, arith}
use Rattle.std.proofs.lemmas.Grind.{common_steps}
use Rattle.boss_model.specs.Lists.{member}
use Rattle.boss_marks.proofs.Wanting.{read_first, first_without_first, first_without_other}
use Rattle.boss_marks.proofs.wants.Wants.first_without.Goals as goal

pub returns-then-eq : goal.returns-then-eq
returns-then-eq c =
    let inside : member c.args.point c.self.inside.line.points ≡ true = rw (← c.self.view_is) at c.requires in
    let read = read_first c.self.invariant c.point.inside.0 c.driver.inside.0 c.args.point c.index-driver.result.now c.index.result.now
    c.point.view_is (c.self.invariant.known c.args.point inside) c.index-driver.ensures c.driver.view_is c.index.ensures in
    let same : c.index.result.now ≡ Some c.args.point = grind (arith, common_steps, c.eq.ensures, c.if-eq.true) in
    let further = rw (← c.self.view_is, read.0) at c.first_behind.ensures in
    rw (← c.self.view_is) (further ∙ first_without_first c.self.invariant _ c.args.point (sym read.1 ∙ same))

pub returns : goal.returns
returns c =
    let inside : member c.args.point c.self.inside.line.points ≡ true = rw (← c.self.view_is) at c.requires in
    let read = read_first c.self.invariant c.point.inside.0 c.driver.inside.0 c.args.point c.index-driver.result.now c.index.result.now
    c.point.view_is (c.self.invariant.known c.args.point inside) c.index-driver.ensures c.driver.view_is c.index.ensures in
    rw (← c.self.view_is) (first_without_other c.self.invariant _ c.args.point c.index.result.now read.1 (λ same. grind (arith, common_steps, c.eq.ensures, c.if-eq.false)))
