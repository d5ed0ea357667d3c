use Rattle.std.proofs.Common.{List, sym, subst}
use Rattle.boss_model.specs.declared.state.Actuator.{Actuator}
use Rattle.boss_model.specs.Plants.{IsPlant}
use Rattle.boss_opening.specs.Opens.{Finishing}
use Rattle.boss_opening.proofs.GoingOn.{went_on, went_on_cleanly, went_wrong, wrong_cleanly, wrong_untouched}
use Rattle.boss_opening.proofs.Openings.{none_touched}
use Rattle.boss_disk_pair.specs.Rests.{rests}
use Rattle.boss_opening.proofs.going_on.go_on.Goals as goal

pub finish-requires-clause-whole : goal.finish-requires-clause-whole
finish-requires-clause-whole g c = subst IsPlant (sym c.do_again.ensures.plant) c.requires.whole

pub finish-requires-clause-rest : goal.finish-requires-clause-rest
finish-requires-clause-rest g c =
    subst (λ (plant : List Actuator). rests c.do_again.new.pair plant c.do_again.new.engine.state.persistent c.do_again.new.pair.events) (sym c.do_again.ensures.plant)
    c.in-Ok.ensures.goes_on.rest

pub returns-in-Ok-clause-opening : goal.returns-in-Ok-clause-opening
returns-in-Ok-clause-opening g c =
    went_on c.args.pair c.do_again.new.pair c.args.engine.plant c.args.log_limit c.args.engine.state.persistent c.do_again.new.engine.state c.do_again.ensures.digest c.finish.result
    c.in-Ok.ensures.goes_on c.in-Ok.ensures.fine
    (subst (λ (plant : List Actuator). Finishing plant c.do_again.new.engine.state c.args.log_limit c.do_again.new.pair c.finish.result) c.do_again.ensures.plant c.finish.ensures)

pub returns-in-Ok-clause-stays : goal.returns-in-Ok-clause-stays
returns-in-Ok-clause-stays g c told =
    went_on_cleanly c.args.pair c.do_again.new.pair c.args.engine.plant c.args.log_limit c.args.engine.state.persistent c.do_again.new.engine.state c.do_again.ensures.digest c.finish.result told
    (c.in-Ok.ensures.shuts told)
    (subst (λ (plant : List Actuator). Finishing plant c.do_again.new.engine.state c.args.log_limit c.do_again.new.pair c.finish.result) c.do_again.ensures.plant c.finish.ensures)

pub returns-in-Ok-clause-untouched : goal.returns-in-Ok-clause-untouched
returns-in-Ok-clause-untouched g c told = none_touched _ _ c.finish.result c.finish.ensures.refuses

pub returns-in-Err-clause-untouched : goal.returns-in-Err-clause-untouched
returns-in-Err-clause-untouched g c told =
    wrong_untouched c.args.pair c.do_again.new.pair c.args.engine.plant c.args.log_limit c.close.result c.close.ensures.disks c.in-Err.refusal
    c.in-Err.ensures.refuses (c.in-Err.ensures.still told) c.do_again.ensures.order c.do_again.ensures.spare

pub returns-in-Err-clause-opening : goal.returns-in-Err-clause-opening
returns-in-Err-clause-opening g c =
    went_wrong c.args.pair c.do_again.new.pair c.args.engine.plant c.args.log_limit c.close.result c.close.ensures.disks c.in-Err.refusal
    c.in-Err.ensures.refuses c.in-Err.ensures.damaged c.in-Err.ensures.unchanged c.do_again.ensures.order c.do_again.ensures.spare c.in-Err.ensures.cause

pub returns-in-Err-clause-stays : goal.returns-in-Err-clause-stays
returns-in-Err-clause-stays g c told =
    wrong_cleanly c.args.pair c.do_again.new.pair c.args.engine.plant c.args.log_limit c.close.result c.close.ensures.disks c.in-Err.refusal told
    c.do_again.new.engine.state.persistent c.do_again.result (c.do_again.ensures.shuts told)
