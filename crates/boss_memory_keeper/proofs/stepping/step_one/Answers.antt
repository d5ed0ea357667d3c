use Rattle.std.proofs.Common.{ℕ, List, subst}
use Rattle.boss_model.specs.declared.command.Command.{Command}
use Rattle.boss_shared.specs.Calls.{RestFits}
use Rattle.boss_shared.proofs.Along.{fine_replied}
use Rattle.boss_memory_keeper.proofs.stepping.step_one.Goals as goal

pub returns-clause-told : goal.returns-clause-told
returns-clause-told c =
    let step = c.step_all.ensures in
    fine_replied _ step.no_fault step.done (subst (λ (calls : List (Command × ℕ)). RestFits calls c.step_all.result.done c.step_all.result.rest) c.slice.ensures step.rest) step.undenied
