use Rattle.boss_disk_pair.proofs.Words.{rests_leaves, rests_passes}
use Rattle.boss_disk_pair.proofs.laws.a_pair_at_rest_leaves_its_state.Goals as goal

pub returns-clause-leaves : goal.returns-clause-leaves
returns-clause-leaves g c plant d count at = rests_leaves c.args.pair.now plant d count at

pub returns-clause-passes : goal.returns-clause-passes
returns-clause-passes g c plant d count at = rests_passes c.args.pair.now plant d count at
