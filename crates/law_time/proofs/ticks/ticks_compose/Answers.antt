use Rattle.law_time.proofs.NothingDue.{sound-timed}
use Rattle.law_time.proofs.TickLaw.{tick-tick}
use Rattle.law_time.proofs.ticks.ticks_compose.Goals as goal

pub returns : goal.returns
returns c plant d a b sound = tick-tick d a b (sound-timed plant d sound)
