use Rattle.std.proofs.Common.{[], arith}
use Rattle.boss_durable.proofs.Takings.{nothing_taken}
use Rattle.boss_durable.proofs.stepping.take_steps.Goals as goal

pub take_more-requires-clause-few : goal.take_more-requires-clause-few
take_more-requires-clause-few c =
    let few = c.requires.few in
    ([], c.args.engine.now.state, nothing_taken c.args.engine.now.plant c.args.engine.now.state c.args.batch.now c.requires.nothing c.requires.no_event, omega arith)

pub returns-clause-taken : goal.returns-clause-taken
returns-clause-taken c =
    c.take_more.ensures.taken [] c.args.engine.now.state
    (nothing_taken c.args.engine.now.plant c.args.engine.now.state c.args.batch.now c.requires.nothing c.requires.no_event)
