use Rattle.boss_model.specs.Catalogue.{actuators}
use Rattle.law_adoption.specs.Renumber.{renumbered}
use Rattle.law_adoption.proofs.MovedStatus.{living-kept, status-kept}
use Rattle.law_adoption.proofs.adoption.an_adoption_keeps_the_status.Goals as goal

pub returns-clause-living : goal.returns-clause-living
returns-clause-living c old new d txn unused there living = living-kept (renumbered old new) d txn unused there living

pub returns-clause-status : goal.returns-clause-status
returns-clause-status c old new d txn sound there = status-kept (renumbered old new) (actuators old) d txn sound there
