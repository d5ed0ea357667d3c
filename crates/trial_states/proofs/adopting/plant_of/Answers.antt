use Rattle.std.proofs.Common.{◌≡◌, ◌≤◌, ◌+◌, ◌++◌, [], ◌∷◌, List, map, take, length, ap, ap₂, sym, ◌∙◌, arith}
use Rattle.std.proofs.lemmas.List.{map-append, take_all}
use Rattle.boss_model.specs.declared.state.Actuator.{Actuator}
use Rattle.boss_model.specs.Catalogue.{Point}
use Rattle.boss_points.specs.Seen.{seen}
use Rattle.boss_adopting.proofs.Fronts.{take-get}
use Rattle.trial_states.proofs.adopting.plant_of.Goals as goal

pub loop-place-preserved : goal.loop-place-preserved
loop-place-preserved c =
    let f = λ (point : Point). point.actuator in
    let points = c.args.catalogue.now.points in
    let place = c.loop-place.place in
    let point = seen c.point.result.now in
    let more : map f (take (place + 1) points) ≡ map f (take place points) ++ point.actuator ∷ [] =
    ap (map f) (take-get points place point c.point.ensures.point) ∙ map-append f (take place points) (point ∷ []) in
    ◌∙◌ {A = List Actuator} c.in_ok-push.ensures.items (◌∙◌ {A = List Actuator} (ap₂ (λ xs x. xs ++ x ∷ []) c.loop-place.invariant c.actuator_of.ensures) (sym more))

pub returns : goal.returns
returns c =
    let points = c.args.catalogue.now.points in
    let count : length points ≤ c.loop-place.place = omega arith in
    c.loop-place.invariant ∙ ap (map (λ (point : Point). point.actuator)) (take_all c.loop-place.place points count)
