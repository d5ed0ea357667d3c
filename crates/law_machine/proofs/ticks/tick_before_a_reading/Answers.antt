use Rattle.law_machine.proofs.Commands.{reading-before}
use Rattle.law_machine.proofs.ticks.tick_before_a_reading.Goals as goal

pub returns-clause-answer : goal.returns-clause-answer
returns-clause-answer c plant s session other point a m sound early = (reading-before plant s session other point a m sound early).0

pub returns-clause-persistent : goal.returns-clause-persistent
returns-clause-persistent c plant s session other point a m sound early = (reading-before plant s session other point a m sound early).1
