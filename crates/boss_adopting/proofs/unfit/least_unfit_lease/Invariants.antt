use Rattle.std.proofs.Common.{◌≡◌, take}
use Rattle.boss_model.specs.Catalogue.{actuators}
use Rattle.law_adoption.specs.MayMove.{lease_fits}
use Rattle.boss_adopting.specs.Least.{least_failing}
use Rattle.boss_adopting.specs.Places.{places_of}
use Rattle.boss_adopting.proofs.unfit.least_unfit_lease.Given as goal

abbrev pub invariant-loop-lease : goal.invariant-loop-lease
invariant-loop-lease l = l.found ≡ least_failing (λ lease. lease.point) (lease_fits (actuators l.new) (places_of l.numbering)) (take l.lease-index l.leases)
