use Rattle.law_effects.proofs.Early.{act-early, replay-refused}
use Rattle.law_effects.proofs.replay.an_act_is_refused_before_time_passes.Goals as goal

pub returns-clause-asked : goal.returns-clause-asked
returns-clause-asked c plant n done d sound = act-early plant n d sound done

pub returns-clause-refused : goal.returns-clause-refused
returns-clause-refused c plant event d sound not_early = replay-refused plant event d sound not_early
