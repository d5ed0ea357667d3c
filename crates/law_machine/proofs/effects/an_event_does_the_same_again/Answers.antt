use Rattle.law_machine.proofs.Replay.{step-again, step-unchanged, unchanged-step}
use Rattle.law_machine.proofs.effects.an_event_does_the_same_again.Goals as goal

pub returns-clause-unchanged : goal.returns-clause-unchanged
returns-clause-unchanged c plant s session command m is = step-unchanged plant s session command m is

pub returns-clause-exactly : goal.returns-clause-exactly
returns-clause-exactly c plant s session command m is = unchanged-step plant s session command m is

pub returns-clause-again : goal.returns-clause-again
returns-clause-again c plant s session command m event sound allowed small is = step-again plant s session command m event sound allowed small is
