use Rattle.boss_sessions.proofs.KeyLemmas.{keys-guard}
use Rattle.boss_worker.proofs.KeyedLemmas.{works-shown}
use Rattle.boss_worker.proofs.keyed.whoever_attaches_has_shown_its_key.Goals as goal

pub returns : goal.returns
returns g c catalogue gates keys log works heard agreed = works-shown catalogue gates keys (keys-guard catalogue keys) _ _ _ log heard works agreed.each
