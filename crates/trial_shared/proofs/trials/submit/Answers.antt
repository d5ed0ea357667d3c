use Rattle.trial_keeper.proofs.Keepers.{value_of}
use Rattle.trial_shared.proofs.trials.submit.Goals as goal

pub returns : goal.returns
returns g c plant some = value_of _ _ _ c.expect.ensures c.submit.ensures plant some
