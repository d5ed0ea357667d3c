use Rattle.boss_disk_pair.proofs.Words.{rests_passes}
use Rattle.boss_opening.proofs.going_on.renew.Goals as goal

pub returns-in-Err-clause-passes : goal.returns-in-Err-clause-passes
returns-in-Err-clause-passes g c = rests_passes c.args.pair.now c.args.engine.now.plant c.args.engine.now.state.persistent c.args.pair.now.events c.requires.rest
