use Rattle.def_history.proofs.Going.{deeds-run, deeds-events}
use Rattle.def_history.proofs.laws.a_history_is_its_deeds.Goals as goal

pub returns-clause-state : goal.returns-clause-state
returns-clause-state c plant all s = deeds-run plant all s

pub returns-clause-events : goal.returns-clause-events
returns-clause-events c plant all s = deeds-events plant all s
