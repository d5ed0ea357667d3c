use Rattle.law_machine.proofs.Targets.{target-stays, target-ticked}
use Rattle.law_machine.proofs.bridges.targets_change_at_due_moments.Goals as goal

pub returns-clause-before : goal.returns-clause-before
returns-clause-before c plant d m point sound within none = target-stays plant d m point sound within none

pub returns-clause-after : goal.returns-clause-after
returns-clause-after c plant d n point sound within small = target-ticked plant d n point sound within small
