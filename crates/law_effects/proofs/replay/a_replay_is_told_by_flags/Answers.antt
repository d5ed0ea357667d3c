use Rattle.law_effects.proofs.Redone.{replay-done, replay-same}
use Rattle.law_effects.proofs.replay.a_replay_is_told_by_flags.Goals as goal

pub returns-clause-told : goal.returns-clause-told
returns-clause-told c plant event d after sound small is = replay-done plant event d sound small after is

pub returns-clause-unchanged : goal.returns-clause-unchanged
returns-clause-unchanged c plant event d after sound small is still = replay-same plant event d sound small after is still
