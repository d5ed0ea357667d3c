use mir.Val.{SFits}
use Rattle.std.proofs.lemmas.Int.{to_z-of_z}
use Rattle.std.proofs.Common.{w64, rules, nat_abs, ◌≡◌, ◌≤◌, ◌+◌, ◌++◌, [], ◌∷◌, List, map, take, length, ap, ap₂, sym, ◌∙◌, arith}
use Rattle.std.proofs.lemmas.List.{length-map, map-append, take_all}
use Rattle.def_guards.specs.declared.guard.Guard.{Guard}
use Rattle.def_guards.specs.Guards.{guard_for, guard_of, guards_of}
use Rattle.boss_points.specs.Seen.{seen}
use Rattle.boss_guard.proofs.Places.{take_more}
use Rattle.boss_guard.proofs.guards.guards_of.Goals as goal

pub loop-place-preserved : goal.loop-place-preserved
loop-place-preserved c =
    let points = c.args.catalogue.now.points in
    let place = c.loop-place.place in
    let point = seen c.point-point.result.now in
    let on : SFits w64 point.min_on = search rules in
    let off : SFits w64 point.min_off = search rules in
    let made : c.new.result ≡ guard_of point =
    c.new.ensures ∙ ap₂ (λ on off. guard_for (nat_abs on) (nat_abs off)) (to_z-of_z w64 point.min_on on) (to_z-of_z w64 point.min_off off) in
    let more : map guard_of (take (place + 1) points) ≡ map guard_of (take place points) ++ guard_of point ∷ [] =
    ap (map guard_of) (take_more points place point c.point-point.ensures.point) ∙ map-append guard_of (take place points) (point ∷ []) in
    ◌∙◌ {A = List Guard} c.in_ok-push.ensures.items (◌∙◌ {A = List Guard} (ap₂ (λ xs x. xs ++ x ∷ []) c.loop-place.invariant made) (sym more))

pub returns : goal.returns
returns c =
    let points = c.args.catalogue.now.points in
    let count : length points ≤ c.loop-place.place = omega arith in
    let whole : c.loop-place.guards.items ≡ guards_of c.args.catalogue.now = c.loop-place.invariant ∙ ap (map guard_of) (take_all c.loop-place.place points count) in
    record { guards = whole; few = omega (arith, ap length whole, length-map points guard_of) }
