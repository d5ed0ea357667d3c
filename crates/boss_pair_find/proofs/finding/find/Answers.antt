use Rattle.std.proofs.Common.{sym, subst, ◌∙◌}
use Rattle.std.specs.Prelude.{Some, IfOk, IfErr}
use Rattle.boss_pair_find.specs.Finds.{Finds, first_back, second_back}
use Rattle.boss_pair_find.specs.Refusals.{FindRefuses, AnswerCause}
use Rattle.boss_pair_find.specs.Two.{counts}
use Rattle.boss_pair_find.proofs.Orders.{at_both}
use Rattle.boss_pair_find.proofs.FoundPairs.{found_settled, found_clean}
use Rattle.def_log.specs.Kinds.{kind_of}
use Rattle.boss_disk_pair.specs.Forces.{TellsForce}
use Rattle.boss_pair_find.proofs.finding.find.Goals as goal

pub find_forced-requires : goal.find_forced-requires
find_forced-requires g c told =
    at_both (λ a b. TellsForce (kind_of a) (kind_of b) (Some c.in-Ok.force)) _ _ _ _ (sym (c.find_force.ensures.first_reads told))
    (sym (c.find_force.ensures.second_reads told)) (c.in-Ok.ensures.force told)

pub returns-in-Ok-clause-finds : goal.returns-in-Ok-clause-finds
returns-in-Ok-clause-finds g c told =
    at_both (λ a b. IfOk c.find_forced.result (Finds c.args.digest.now a b)) _ _ _ _ (c.find_force.ensures.first_reads told)
    (c.find_force.ensures.second_reads told) (c.find_forced.ensures.finds told)

pub returns-in-Ok-clause-refuses : goal.returns-in-Ok-clause-refuses
returns-in-Ok-clause-refuses g c told =
    at_both (λ a b. IfErr c.find_forced.result (λ refused. FindRefuses c.args.digest.now a b refused.1)) _ _ _ _ (c.find_force.ensures.first_reads told)
    (c.find_force.ensures.second_reads told) (c.find_forced.ensures.refuses told)

pub returns-in-Ok-clause-settled : goal.returns-in-Ok-clause-settled
returns-in-Ok-clause-settled g c told one other =
    found_settled c.find_forced.result c.args.first c.args.second
    (c.find_forced.ensures.first_reads told ∙ c.find_force.ensures.first_reads told)
    (c.find_forced.ensures.second_reads told ∙ c.find_force.ensures.second_reads told)
    (c.find_forced.ensures.first_windows told ∙ c.find_force.ensures.first_windows told)
    (c.find_forced.ensures.second_windows told ∙ c.find_force.ensures.second_windows told) one other

pub returns-in-Ok-clause-clean : goal.returns-in-Ok-clause-clean
returns-in-Ok-clause-clean g c told plant d count opens =
    found_clean plant c.args.digest.now d count c.find_forced.result _ _
    (at_both (λ a b. IfOk c.find_forced.result (Finds c.args.digest.now a b)) _ _ _ _ (c.find_force.ensures.first_reads told)
    (c.find_force.ensures.second_reads told) (c.find_forced.ensures.finds told))
    c.find_forced.ensures.starts
    (c.find_forced.ensures.first_reads told ∙ c.find_force.ensures.first_reads told)
    (c.find_forced.ensures.second_reads told ∙ c.find_force.ensures.second_reads told) opens

pub returns-in-Ok-clause-cause : goal.returns-in-Ok-clause-cause
returns-in-Ok-clause-cause g c = subst
    (λ before. AnswerCause before (counts (g.D.Disk.faults (first_back c.find_forced.result)) (g.D.Disk.faults (second_back c.find_forced.result))) c.find_forced.result)
    c.in-Ok.ensures.fine c.find_forced.ensures.cause

pub returns-in-Err-clause-refuses : goal.returns-in-Err-clause-refuses
returns-in-Err-clause-refuses g c told = c.in-Err.ensures.refuses told c.args.digest.now
