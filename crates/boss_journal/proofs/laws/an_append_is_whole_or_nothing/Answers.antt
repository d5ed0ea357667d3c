use Rattle.boss_journal.proofs.CleanLogs.{append_leaves_clean}
use Rattle.boss_journal.proofs.laws.an_append_is_whole_or_nothing.Goals as goal

pub returns : goal.returns
returns c front records added bytes each short left = append_leaves_clean front records added bytes each short left
