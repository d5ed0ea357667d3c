use Rattle.boss_engine.proofs.machine.Machine.act_ready.Goals as goal

pub returns-in-Attach-clause-answer : goal.returns-in-Attach-clause-answer
returns-in-Attach-clause-answer c = rw c.in-Attach.is (c.attach.ensures.answer c.args.plant.now)

pub returns-in-Attach-clause-state : goal.returns-in-Attach-clause-state
returns-in-Attach-clause-state c = rw c.in-Attach.is (c.attach.ensures.state c.args.plant.now)

pub returns-in-Notices-clause-answer : goal.returns-in-Notices-clause-answer
returns-in-Notices-clause-answer c = rw c.in-Notices.is (c.notices.ensures.answer c.args.plant.now c.args.n)

pub returns-in-Attach-clause-changed : goal.returns-in-Attach-clause-changed
returns-in-Attach-clause-changed c = rw c.in-Attach.is (c.attach.ensures.changed c.args.plant.now)

pub returns-in-Attach-clause-tellable : goal.returns-in-Attach-clause-tellable
returns-in-Attach-clause-tellable c = c.attach.ensures.tellable c.args.plant.now

pub returns-in-Submit-clause-tellable : goal.returns-in-Submit-clause-tellable
returns-in-Submit-clause-tellable c = c.submit.ensures.tellable c.args.plant.now

pub returns-in-Notices-clause-tellable : goal.returns-in-Notices-clause-tellable
returns-in-Notices-clause-tellable c = c.notices.ensures.tellable c.args.plant.now

pub returns-in-Attach-clause-owner : goal.returns-in-Attach-clause-owner
returns-in-Attach-clause-owner c = rw c.in-Attach.is c.attach.ensures.owner
