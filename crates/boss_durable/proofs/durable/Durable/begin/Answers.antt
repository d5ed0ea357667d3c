use Rattle.boss_durable.proofs.Doing.{keeps_leaves, keeps_passes}
use Rattle.boss_durable.proofs.durable.Durable.begin.Goals as goal

pub returns-then-log-self-clause-leaves : goal.returns-then-log-self-clause-leaves
returns-then-log-self-clause-leaves g c before held = keeps_leaves c.args.self.now before held

pub returns-then-log-self-clause-passes : goal.returns-then-log-self-clause-passes
returns-then-log-self-clause-passes g c before held = keeps_passes c.args.self.now before held

pub returns-in-Err-clause-leaves : goal.returns-in-Err-clause-leaves
returns-in-Err-clause-leaves g c before held = keeps_leaves c.args.self.now before held

pub returns-in-Err-clause-passes : goal.returns-in-Err-clause-passes
returns-in-Err-clause-passes g c before held = keeps_passes c.args.self.now before held
