use Rattle.law_machine.proofs.Ended.{ended-step}
use Rattle.law_machine.proofs.refusals.an_ended_refusal_tells_the_kept_end.Goals as goal

pub returns : goal.returns
returns c plant s session command m cause at moment sound small is = ended-step plant s session command m cause at moment sound small is
