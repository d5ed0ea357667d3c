use Rattle.std.proofs.Common.{◌≡◌, take}
use Rattle.boss_model.specs.Catalogue.{actuators}
use Rattle.law_adoption.specs.MayMove.{pending_fits}
use Rattle.boss_adopting.specs.Least.{least_failing}
use Rattle.boss_adopting.specs.Places.{places_of}
use Rattle.boss_adopting.proofs.unfit.least_unfit_reversion.Given as goal

abbrev pub invariant-loop-reversion : goal.invariant-loop-reversion
invariant-loop-reversion l =
    l.found ≡ least_failing (λ reversion. reversion.point) (pending_fits (actuators l.new) (places_of l.numbering)) (take l.reversion-index l.pending)
