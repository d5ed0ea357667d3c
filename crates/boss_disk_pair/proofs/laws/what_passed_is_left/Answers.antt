use Rattle.boss_disk_pair.proofs.Words.{passes_leaves, passes_wider, leaves_wider}
use Rattle.boss_disk_pair.proofs.laws.what_passed_is_left.Goals as goal

pub returns-clause-last : goal.returns-clause-last
returns-clause-last g c plant a b run = passes_leaves c.args.old.now c.args.new.now plant a b run

pub returns-clause-passes : goal.returns-clause-passes
returns-clause-passes g c plant d other run = passes_wider c.args.old.now c.args.new.now plant d other run

pub returns-clause-leaves : goal.returns-clause-leaves
returns-clause-leaves g c plant d other left = leaves_wider c.args.new.now plant d other left
