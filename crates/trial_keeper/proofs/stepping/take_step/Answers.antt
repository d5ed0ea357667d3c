use Rattle.std.proofs.Common.{refl, sym}
use Rattle.trial_keeper.proofs.Keepers.{is_answered}
use Rattle.trial_keeper.proofs.stepping.take_step.Goals as goal

pub returns-in-Done-clause-answer : goal.returns-in-Done-clause-answer
returns-in-Done-clause-answer c = c.in-Done.ensures.kept.legal.0.1

pub returns-in-Done-clause-state : goal.returns-in-Done-clause-state
returns-in-Done-clause-state c = c.in-Done.ensures.kept.state_is refl

pub returns-in-NoMemory-clause-err : goal.returns-in-NoMemory-clause-err
returns-in-NoMemory-clause-err c = c.in-NoMemory.ensures.kept.state_is refl

pub unreachable-requires : goal.unreachable-requires
unreachable-requires c = is_answered c.args.session c.args.moment c.args.command.now c.apply.result c.apply.ensures.stops (sym c.apply.ensures.kept.marked) c.apply.ensures.undenied
    (λ answer is. c.in_default.not-Done answer is) (λ is. c.in_default.not-NoMemory is)
