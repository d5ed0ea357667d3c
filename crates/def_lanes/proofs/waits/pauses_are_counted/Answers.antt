use Rattle.def_lanes.proofs.WaitLemmas.{paused-counted}
use Rattle.def_lanes.proofs.waits.pauses_are_counted.Goals as goal

pub returns : goal.returns
returns c test entries pauses few within = paused-counted test entries pauses few within
