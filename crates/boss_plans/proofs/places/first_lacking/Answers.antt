use Rattle.std.proofs.Common.{◌+◌, Some, cond, drop, ap, sym, ◌∙◌}
use Rattle.boss_points.specs.Seen.{seen}
use Rattle.boss_plans.specs.Plans.{first_lacking}
use Rattle.boss_plans.proofs.Steps.{lacking-here}
use Rattle.boss_plans.proofs.places.first_lacking.Goals as goal

pub returns-then-lacks_place-clause-point : goal.returns-then-lacks_place-clause-point
returns-then-lacks_place-clause-point c =
    let hosts = c.args.hosts.now in
    let places = c.args.places.now in
    let points = c.args.catalogue.now.points in
    let id = c.loop-id.id in
    sym (c.loop-id.invariant ∙ lacking-here hosts places points id (seen c.point.result.now) c.point.ensures.point
    ∙ ap (λ b. cond b (Some id) (first_lacking hosts places (id + 1) (drop (id + 1) points))) (sym c.lacks_place.ensures ∙ c.if-lacks_place.true))

pub loop-id-preserved : goal.loop-id-preserved
loop-id-preserved c =
    let hosts = c.args.hosts.now in
    let places = c.args.places.now in
    let points = c.args.catalogue.now.points in
    let id = c.loop-id.id in
    c.loop-id.invariant ∙ lacking-here hosts places points id (seen c.point.result.now) c.point.ensures.point
    ∙ ap (λ b. cond b (Some id) (first_lacking hosts places (id + 1) (drop (id + 1) points))) (sym c.lacks_place.ensures ∙ c.if-lacks_place.false)
