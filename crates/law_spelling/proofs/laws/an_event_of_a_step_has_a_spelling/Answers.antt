use Rattle.std.proofs.Common.{arith}
use Rattle.law_spelling.proofs.Events.{step-spelled}
use Rattle.law_spelling.proofs.OfEvents.{event-fits}
use Rattle.law_spelling.proofs.laws.an_event_of_a_step_has_a_spelling.Goals as goal

pub returns : goal.returns
returns c plant s session command m event whole sound allowed small is =
    event-fits event (step-spelled plant s session command m event whole sound allowed (omega arith) is)
