use Rattle.std.proofs.Common.{ap}
use Rattle.law_machine.proofs.Commands.{tick-before}
use Rattle.law_machine.proofs.ticks.tick_before_a_command.Goals as goal

pub returns-clause-answer : goal.returns-clause-answer
returns-clause-answer c plant s session other command a m sound apart early = ap (λ k. k.answer) (tick-before plant s session other command a m sound apart early)

pub returns-clause-persistent : goal.returns-clause-persistent
returns-clause-persistent c plant s session other command a m sound apart early = ap (λ k. k.persistent) (tick-before plant s session other command a m sound apart early)

pub returns-clause-attached : goal.returns-clause-attached
returns-clause-attached c plant s session other command a m sound apart early = ap (λ k. k.attached) (tick-before plant s session other command a m sound apart early)
