use Rattle.std.proofs.Common.{[]}
use Rattle.boss_journal.specs.Fronts.{journal_front}
use Rattle.boss_journal.proofs.CleanLogs.{shut_is_clean}
use Rattle.boss_journal.proofs.laws.a_bare_journal_is_clean.Goals as goal

pub returns : goal.returns
returns c version digest bytes window bare = shut_is_clean (journal_front version digest) [] [] bytes tt bare.is
