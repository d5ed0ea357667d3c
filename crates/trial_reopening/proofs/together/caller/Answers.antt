use Rattle.trial_keeper.proofs.Keepers.{value_of}
use Rattle.trial_reopening.proofs.together.caller.Goals as goal

pub returns-clause-count : goal.returns-clause-count
returns-clause-count g c = value_of _ _ _ c.expect.ensures c.asked.ensures.count

pub returns-clause-may : goal.returns-clause-may
returns-clause-may g c = value_of _ _ _ c.expect.ensures c.asked.ensures.may
