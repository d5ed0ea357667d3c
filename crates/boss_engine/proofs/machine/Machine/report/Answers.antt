use Rattle.boss_engine.proofs.machine.Machine.report.Goals as goal

pub returns-clause-owner : goal.returns-clause-owner
returns-clause-owner c = λ session. c.follow_up.ensures.owner
