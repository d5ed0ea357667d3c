use Rattle.std.proofs.Common.{sym, ◌∙◌, subst}
use Rattle.boss_modbus.specs.Fates.{Fared}
use Rattle.boss_modbus.proofs.Judging.{judged-fares, judged-no-fault}
use Rattle.boss_modbus.proofs.response.judge.Goals as goal

pub returns-clause-fared : goal.returns-clause-fared
returns-clause-fared c left =
    subst (λ fate. Fared c.args.number c.args.asked.now c.args.response.now left fate) (sym c.judged.ensures)
    (judged-fares c.args.number c.args.asked.now c.args.response.now left c.requires)

pub returns-clause-no_fault : goal.returns-clause-no_fault
returns-clause-no_fault c is = judged-no-fault c.args.number c.args.asked.now c.args.response.now (sym c.judged.ensures ∙ is)
