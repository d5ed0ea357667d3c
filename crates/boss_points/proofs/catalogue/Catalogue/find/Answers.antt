use Rattle.std.proofs.Common.{sym, ◌∙◌}
use Rattle.boss_points.proofs.Found.{place_among_points}
use Rattle.boss_points.proofs.catalogue.Catalogue.find.Goals as goal

pub returns-in_err-place : goal.returns-in_err-place
returns-in_err-place c =
    let inside = c.self.inside in
    let place = place_among_points inside.points.items inside.names.keys c.args.name.now c.self.invariant.named in
    rw (c.from_residual.ensures, ← c.self.view_is) (sym (c.in_err-place.was) ∙ c.get_index_of.ensures.index ∙ place)

pub returns : goal.returns
returns c =
    let inside = c.self.inside in
    let place = place_among_points inside.points.items inside.names.keys c.args.name.now c.self.invariant.named in
    rw (← c.self.view_is) (sym (c.in_ok-place.was) ∙ c.get_index_of.ensures.index ∙ place)
