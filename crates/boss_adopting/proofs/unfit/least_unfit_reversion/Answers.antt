use Rattle.std.proofs.Common.{ap₂, sym, ◌∙◌, arith}
use Rattle.boss_model.specs.declared.state.Pending.{Pending}
use Rattle.boss_model.specs.Catalogue.{actuators}
use Rattle.law_adoption.specs.MayMove.{pending_fits}
use Rattle.boss_adopting.specs.Least.{lesser_of}
use Rattle.boss_adopting.specs.Places.{places_of}
use Rattle.boss_adopting.proofs.LeastOf.{failing-more}
use Rattle.boss_adopting.proofs.unfit.least_unfit_reversion.Goals as goal

pub loop-reversion-preserved : goal.loop-reversion-preserved
loop-reversion-preserved c =
    let fits = pending_fits (actuators c.args.new.now) (places_of c.args.numbering.now) in
    c.lesser_of-found.ensures ∙ ap₂ lesser_of c.loop-reversion.invariant c.unfit_reversion.ensures
    ∙ sym (failing-more (λ (r : Pending). r.point) fits c.args.pending.now c.loop-reversion.reversion-index c.reversion-item.result (omega arith) c.reversion-item.is)
