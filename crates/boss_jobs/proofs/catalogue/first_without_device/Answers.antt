use Rattle.std.proofs.Common.{◌+◌, Some, cond, drop, ap, sym, ◌∙◌}
use Rattle.std.specs.List.{position_from}
use Rattle.boss_points.specs.Seen.{seen}
use Rattle.boss_jobs.specs.Programs.{lacks_device}
use Rattle.boss_jobs.proofs.Places.{position-here}
use Rattle.boss_jobs.proofs.catalogue.first_without_device.Goals as goal

pub returns-then-lacks_device : goal.returns-then-lacks_device
returns-then-lacks_device c =
    let test = lacks_device c.args.devices in
    let points = c.args.catalogue.now.points in
    let place = c.loop-place.place in
    ap Some c.from.ensures
    ∙ sym (c.loop-place.invariant ∙ position-here test points place (seen c.point.result.now) c.point.ensures.point
    ∙ ap (λ b. cond b (Some place) (position_from test (place + 1) (drop (place + 1) points))) (sym c.lacks_device.ensures ∙ c.if-lacks_device.true))

pub loop-place-preserved : goal.loop-place-preserved
loop-place-preserved c =
    let test = lacks_device c.args.devices in
    let points = c.args.catalogue.now.points in
    let place = c.loop-place.place in
    c.loop-place.invariant ∙ position-here test points place (seen c.point.result.now) c.point.ensures.point
    ∙ ap (λ b. cond b (Some place) (position_from test (place + 1) (drop (place + 1) points))) (sym c.lacks_device.ensures ∙ c.if-lacks_device.false)
