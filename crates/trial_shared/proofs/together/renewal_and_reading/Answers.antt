use Rattle.trial_keeper.proofs.Keepers.{value_of}
use Rattle.trial_shared.proofs.together.renewal_and_reading.Goals as goal

pub returns : goal.returns
returns g c plant some = value_of _ _ _ c.expect.ensures c.two_asked.ensures.may plant (c.renewal.ensures plant some) some
