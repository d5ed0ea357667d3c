use Rattle.def_disk_pair.proofs.OfKinds.{plain_front, state_front}
use Rattle.def_disk_pair.proofs.laws.a_front_tells_the_kind.Goals as goal

pub returns-clause-plain : goal.returns-clause-plain
returns-clause-plain c digest front version before from gate rest len is = plain_front digest len version from before front gate rest is

pub returns-clause-kept : goal.returns-clause-kept
returns-clause-kept c plant digest front version generation before from gate rest len is = state_front plant digest len version generation from before front gate rest is
