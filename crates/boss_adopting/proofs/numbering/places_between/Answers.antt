use Rattle.std.proofs.Common.{◌≡◌, ◌+◌, ◌≤◌, ◌++◌, [], ◌∷◌, List, Option, ℕ, length, map, take, ap, ap₂, sym, ◌∙◌, arith}
use Rattle.std.proofs.lemmas.List.{map-append, take_all}
use Rattle.boss_model.specs.Catalogue.{Point, place_of}
use Rattle.boss_points.specs.Seen.{seen}
use Rattle.boss_adopting.proofs.Fronts.{take-get}
use Rattle.boss_adopting.proofs.numbering.places_between.Goals as goal

pub loop-place-preserved : goal.loop-place-preserved
loop-place-preserved c =
    let f = λ (point : Point). place_of c.args.new.now point.name in
    let points = c.args.old.now.points in
    let place = c.loop-place.place in
    let point = seen c.point.result.now in
    let more : map f (take (place + 1) points) ≡ map f (take place points) ++ f point ∷ [] =
    ap (map f) (take-get points place point c.point.ensures.point) ∙ map-append f (take place points) (point ∷ []) in
    ◌∙◌ {A = List (Option ℕ)} c.in_ok-push.ensures.items (◌∙◌ {A = List (Option ℕ)} (ap₂ (λ xs x. xs ++ x ∷ []) c.loop-place.invariant c.place_in.ensures) (sym more))

pub returns-clause-places : goal.returns-clause-places
returns-clause-places c =
    let points = c.args.old.now.points in
    let count : length points ≤ c.loop-place.place = omega arith in
    c.loop-place.invariant ∙ ap (map (λ (point : Point). place_of c.args.new.now point.name)) (take_all c.loop-place.place points count)
