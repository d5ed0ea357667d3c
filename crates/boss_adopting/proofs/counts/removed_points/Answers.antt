use Rattle.std.proofs.Common.{◌+◌, ◌≤◌, length, is_none, ap, ap₂, sym, ◌∙◌, arith}
use Rattle.std.specs.List.{filter}
use Rattle.std.proofs.lemmas.List.{take_all}
use Rattle.boss_model.specs.Catalogue.{Point, place_of}
use Rattle.boss_points.specs.Seen.{seen}
use Rattle.boss_adopting.proofs.Fronts.{count-get}
use Rattle.boss_adopting.proofs.counts.removed_points.Goals as goal

pub loop-place-preserved : goal.loop-place-preserved
loop-place-preserved c =
    let test = λ (point : Point). is_none (place_of c.args.new.now point.name) in
    let points = c.args.old.now.points in
    let place = c.loop-place.place in
    let more = count-get test points place (seen c.point.result.now) c.point.ensures.point in
    record {
      count = ap₂ (λ m n. m + n) c.loop-place.invariant.count c.one_if_removed-count.ensures ∙ sym more;
      few = grind (arith, c.one_if_removed-count.ensures, c.loop-place.invariant.few);
    }

pub returns-clause-count : goal.returns-clause-count
returns-clause-count c =
    let points = c.args.old.now.points in
    let count : length points ≤ c.loop-place.place = omega arith in
    c.loop-place.invariant.count ∙ ap (λ ps. length (filter (λ (point : Point). is_none (place_of c.args.new.now point.name)) ps)) (take_all c.loop-place.place points count)
