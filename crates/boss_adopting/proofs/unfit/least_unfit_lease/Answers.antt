use Rattle.std.proofs.Common.{ap₂, sym, ◌∙◌, arith}
use Rattle.boss_model.specs.declared.state.Lease.{Lease}
use Rattle.boss_model.specs.Catalogue.{actuators}
use Rattle.law_adoption.specs.MayMove.{lease_fits}
use Rattle.boss_adopting.specs.Least.{lesser_of}
use Rattle.boss_adopting.specs.Places.{places_of}
use Rattle.boss_adopting.proofs.LeastOf.{failing-more}
use Rattle.boss_adopting.proofs.unfit.least_unfit_lease.Goals as goal

pub loop-lease-preserved : goal.loop-lease-preserved
loop-lease-preserved c =
    let fits = lease_fits (actuators c.args.new.now) (places_of c.args.numbering.now) in
    c.lesser_of-found.ensures ∙ ap₂ lesser_of c.loop-lease.invariant c.unfit_lease.ensures
    ∙ sym (failing-more (λ (l : Lease). l.point) fits c.args.leases.now c.loop-lease.lease-index c.lease-item.result (omega arith) c.lease-item.is)
