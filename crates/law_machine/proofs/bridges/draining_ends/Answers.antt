use Rattle.law_machine.proofs.Weighing.{draining-ends}
use Rattle.law_machine.proofs.bridges.draining_ends.Goals as goal

pub returns : goal.returns
returns c plant s m sound small = draining-ends plant s m sound small
