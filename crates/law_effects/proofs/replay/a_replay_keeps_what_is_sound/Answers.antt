use Rattle.law_effects.proofs.Redone.{replay-sound}
use Rattle.law_effects.proofs.replay.a_replay_keeps_what_is_sound.Goals as goal

pub returns : goal.returns
returns c plant event d after sound spelled is = replay-sound plant event d sound spelled.moment after spelled.act is
