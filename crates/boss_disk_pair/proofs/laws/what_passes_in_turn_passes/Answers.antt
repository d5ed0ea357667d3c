use Rattle.boss_disk_pair.proofs.Words.{passes_before, passes_behind}
use Rattle.boss_disk_pair.proofs.laws.what_passes_in_turn_passes.Goals as goal

pub returns-clause-before : goal.returns-clause-before
returns-clause-before g c plant d after one two = passes_before c.args.old.now c.args.mid.now c.args.new.now plant d after one two

pub returns-clause-behind : goal.returns-clause-behind
returns-clause-behind g c plant d after one two = passes_behind c.args.old.now c.args.mid.now c.args.new.now plant d after one two
