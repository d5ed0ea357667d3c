use Rattle.std.proofs.Common.{map, not, ap, ap₂, sym, ◌∙◌}
use Rattle.std.specs.List.{filter}
use Rattle.boss_model.specs.declared.state.Lease.{Lease}
use Rattle.boss_model.specs.declared.state.Pending.{Pending}
use Rattle.boss_model.specs.Catalogue.{actuators}
use Rattle.law_adoption.specs.MayMove.{lease_fits, pending_fits}
use Rattle.boss_adopting.specs.Least.{lesser_of, least_failing}
use Rattle.boss_adopting.specs.Places.{places_of}
use Rattle.boss_adopting.proofs.LeastOf.{least-append}
use Rattle.boss_adopting.proofs.unfit.least_unfit.Goals as goal

pub returns : goal.returns
returns c =
    let fits = lease_fits (actuators c.args.new.now) (places_of c.args.numbering.now) in
    let plays = pending_fits (actuators c.args.new.now) (places_of c.args.numbering.now) in
    c.lesser_of.ensures
    ∙ ap₂ lesser_of (c.least_unfit_lease.ensures ∙ ap (least_failing (λ (l : Lease). l.point) fits) c.slice.ensures)
    (c.least_unfit_reversion.ensures ∙ ap (least_failing (λ (r : Pending). r.point) plays) c.slice-2.ensures)
    ∙ sym (least-append (map (λ (l : Lease). l.point) (filter (λ l. not (fits l)) c.args.kept.now.leases))
    (map (λ (r : Pending). r.point) (filter (λ r. not (plays r)) c.args.kept.now.pending)))
