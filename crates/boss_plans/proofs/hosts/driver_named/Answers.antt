use Rattle.std.proofs.Common.{ℕ, ◌+◌, List, Bool, Some, cond, drop, ap, sym, ◌∙◌, arith}
use Rattle.std.specs.List.{position_from}
use Rattle.std.specs.Str.{bytes_eq}
use Rattle.boss_plans.proofs.Steps.{position-here}
use Rattle.boss_plans.proofs.hosts.driver_named.Goals as goal

pub returns-then-is_named : goal.returns-then-is_named
returns-then-is_named c =
    let test : List ℕ → Bool = λ other. bytes_eq other c.args.name.now in
    let drivers = c.args.catalogue.now.drivers in
    let place = c.loop-place.place in
    sym (c.loop-place.invariant ∙ position-here test drivers place (omega (arith, c.loop-place-test.true, c.drivers-place-end.ensures.count))
    ∙ ap (λ b. cond b (Some place) (position_from test (place + 1) (drop (place + 1) drivers))) (sym c.is_named.ensures ∙ c.if-is_named.true))

pub loop-place-preserved : goal.loop-place-preserved
loop-place-preserved c =
    let test : List ℕ → Bool = λ other. bytes_eq other c.args.name.now in
    let drivers = c.args.catalogue.now.drivers in
    let place = c.loop-place.place in
    c.loop-place.invariant ∙ position-here test drivers place (omega (arith, c.loop-place-test.true, c.drivers-place-end.ensures.count))
    ∙ ap (λ b. cond b (Some place) (position_from test (place + 1) (drop (place + 1) drivers))) (sym c.is_named.ensures ∙ c.if-is_named.false)
