use Rattle.boss_sessions.proofs.EndedLemmas.{has-ended}
use Rattle.boss_sessions.proofs.ended.a_served_connection_has_ended.Goals as goal

pub returns : goal.returns
returns c served taken stop end lost end_is read write watch = has-ended served taken stop end lost end_is read write watch
