use Rattle.law_spelling.proofs.Events.{step-spelled}
use Rattle.law_spelling.proofs.ranges.an_event_of_a_step_is_in_range.Goals as goal

pub returns : goal.returns
returns c plant s session command m event whole sound allowed small is = step-spelled plant s session command m event whole sound allowed small is
