use Rattle.boss_disk.proofs.Torn.{write_behind, write_over}
use Rattle.boss_disk.proofs.laws.torn_write_leaves_the_rest.Goals as goal

pub returns : goal.returns
returns c = record { front = write_behind; back = write_over }
