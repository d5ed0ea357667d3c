use Rattle.std.proofs.Common.{◌≡◌, ◌+◌, List, [], cond, drop, length, ap, sym, ◌∙◌, Some, arith}
use Rattle.std.proofs.Math.Seq.{drop-length}
use Rattle.std.specs.List.{position_from}
use Rattle.boss_model.specs.Catalogue.{Point}
use Rattle.boss_points.specs.Seen.{seen}
use Rattle.boss_jobs.specs.Programs.{lacks_device}
use Rattle.boss_jobs.proofs.Places.{all-have, position-here}
use Rattle.trial_reopening.proofs.outside.one_driver.Goals as goal

pub loop-place-preserved : goal.loop-place-preserved
loop-place-preserved g c =
    let test = lacks_device 1 in
    let points = c.expect-catalogue.result.points in
    let place = c.loop-place.place in
    c.loop-place.invariant ∙ position-here test points place (seen c.point.result.now) c.point.ensures.point
    ∙ ap (λ b. cond b (Some place) (position_from test (place + 1) (drop (place + 1) points))) (sym c.is_elsewhere.ensures ∙ c.if-is_elsewhere.false)

pub returns : goal.returns
returns g c =
    let points = c.expect-catalogue.result.points in
    let place = c.loop-place.place in
    let behind = c.loop-place-test.false in
    let within = c.loop-place.auto.place-end in
    let count = c.count-place-end.ensures.count in
    let all : place ≡ length points = omega (arith, behind, within, count) in
    let none : drop place points ≡ [] = ap (λ n. drop n points) all ∙ drop-length points in
    all-have 1 0 points (c.loop-place.invariant ∙ ap (λ (rest : List Point). position_from (lacks_device 1) place rest) none)
