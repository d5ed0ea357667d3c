use Rattle.std.proofs.Common.{◌≡◌, ◌<◌, false, length, ◌∙◌, ap}
use Rattle.boss_model.specs.Lists.{member, without}
use Rattle.boss_model.proofs.Members.{member-without_same}
use Rattle.boss_marks.proofs.Wanting.{read_first, IsWants-pushed}
use Rattle.boss_marks.proofs.wants.Wants.put_last.Goals as goal

pub push-requires-clause-outside : goal.push-requires-clause-outside
push-requires-clause-outside c =
    let points : c.self.inside.line.points ≡ without c.args.point c.args.self.now.points = ap (λ w. w.points) (c.self.view_is ∙ c.remove.ensures) in
    rw points (member-without_same c.args.point c.args.self.now.points)

pub invariant_of-self : goal.invariant_of-self
invariant_of-self c =
    let points : c.self.inside.line.points ≡ without c.args.point c.args.self.now.points = ap (λ w. w.points) (c.self.view_is ∙ c.remove.ensures) in
    let drivers : c.self.inside.drivers.items ≡ c.args.self.now.drivers = ap (λ w. w.drivers) (c.self.view_is ∙ c.remove.ensures) in
    let outside : member c.args.point c.self.inside.line.points ≡ false = rw points (member-without_same c.args.point c.args.self.now.points) in
    let known : c.args.point < length c.self.inside.drivers.items = rw drivers c.requires in
    let read = read_first c.self.invariant c.point.inside.0 c.driver.inside.0 c.args.point c.index-driver.result.now c.index_mut-first.result.now
    c.point.view_is known c.index-driver.ensures c.driver.view_is c.index_mut-first.ensures.value in
    let first = rw read.2 at c.unwrap_or.ensures in
    rw (c.push.ensures, c.driver.view_is) (IsWants-pushed c.self.invariant c.index-driver.result.now c.args.point c.unwrap_or.result known outside read.0 first)
