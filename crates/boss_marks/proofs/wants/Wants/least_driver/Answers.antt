use Rattle.std.proofs.Common.{◌≡◌, ◌<◌, arith, None, Some, length, sym, ◌∙◌}
use Rattle.std.specs.Prelude.{is_some}
use Rattle.std.specs.List.{position_from}
use Rattle.boss_marks.proofs.Wanting.{least_first}
use Rattle.boss_marks.proofs.wants.Wants.least_driver.Goals as goal

pub overflow_cast-result : goal.overflow_cast-result
overflow_cast-result c =
    let place : c.in-Some.driver < length c.deref.result.now = rw c.in-Some.is at c.first_some.ensures.within in
    let few = rw (← c.deref.ensures.value) at c.self.invariant.few in
    omega (arith, place, few)

pub returns-in-Some : goal.returns-in-Some
returns-in-Some c =
    let found : Some c.in-Some.driver ≡ position_from (λ first. is_some first) 0 c.self.inside.firsts.items = rw (← c.deref.ensures.value) (sym c.in-Some.is ∙ c.first_some.ensures.place) in
    rw (← c.self.view_is) (found ∙ least_first c.self.invariant)

pub returns-in-None : goal.returns-in-None
returns-in-None c =
    let found : None ≡ position_from (λ first. is_some first) 0 c.self.inside.firsts.items = rw (← c.deref.ensures.value) (sym c.in-None.is ∙ c.first_some.ensures.place) in
    rw (← c.self.view_is) (found ∙ least_first c.self.invariant)
