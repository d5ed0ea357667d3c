use Rattle.std.proofs.Common.{arith, max}
use Rattle.law_time.proofs.NothingDue.{nothing-due}
use Rattle.law_machine.proofs.bridges.nothing_due_changes_nothing.Goals as goal

pub returns : goal.returns
returns c plant d m sound none = nothing-due plant d (max d.now m) sound (omega arith) none
