use Rattle.boss_pair_find.proofs.Orders.{at_both}
use Rattle.boss_disk_pair.specs.Forces.{TellsForce}
use Rattle.boss_feeding.proofs.forces.find_force.Goals as goal

pub returns-clause-force : goal.returns-clause-force
returns-clause-force g c told =
    at_both (λ a b. TellsForce a b c.force_of.result) _ _ _ _ (c.in_ok-one.ensures.kind told) (c.in_ok-other.ensures.kind told) c.force_of.ensures
