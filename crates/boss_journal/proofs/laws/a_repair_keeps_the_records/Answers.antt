use Rattle.boss_journal.proofs.CleanLogs.{repair_keeps}
use Rattle.boss_journal.proofs.laws.a_repair_keeps_the_records.Goals as goal

pub returns : goal.returns
returns c front records held clean bytes repair = repair_keeps front records held clean bytes repair
