use Rattle.boss_sessions.proofs.KeyLemmas.{keys-guard}
use Rattle.boss_sessions.proofs.keyed.lines_are_guarded_by_keys.Goals as goal

pub returns : goal.returns
returns c catalogue keys = keys-guard catalogue keys
