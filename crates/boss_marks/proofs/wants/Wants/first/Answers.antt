use Rattle.std.proofs.Common.{◌≡◌, arith}
use Rattle.std.proofs.lemmas.Grind.{common_steps}
use Rattle.boss_marks.specs.Wants.{first_of}
use Rattle.boss_marks.proofs.Wanting.{known_first}
use Rattle.boss_marks.proofs.wants.Wants.first.Goals as goal

pub returns-in-Some-clause-known : goal.returns-in-Some-clause-known
returns-in-Some-clause-known c =
    let first : c.in-Some.first.now ≡ first_of c.self.inside.drivers.items c.driver.inside.0 c.self.inside.line.points =
    grind (arith, common_steps, c.self.invariant.kept c.driver.inside.0) in
    rw (← c.self.view_is) (known_first c.self.invariant c.driver.inside.0 c.in-Some.first.now first)
