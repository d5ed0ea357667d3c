use Rattle.def_lanes.proofs.WaitLemmas.{around-at, around-both, around-none}
use Rattle.def_lanes.proofs.waits.pauses_keep_their_length_at_any_bell.Goals as goal

pub returns-clause-none : goal.returns-clause-none
returns-clause-none c milliseconds waited = around-none milliseconds waited

pub returns-clause-at : goal.returns-clause-at
returns-clause-at c milliseconds bell old between new heard paused = around-at milliseconds bell old between new heard paused

pub returns-clause-both : goal.returns-clause-both
returns-clause-both c milliseconds old between new first then = around-both milliseconds old between new first then
