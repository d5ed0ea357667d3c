use Rattle.def_lanes.proofs.WaitLemmas.{both-within, none-within, one-within, within-wider}
use Rattle.def_lanes.proofs.waits.pauses_keep_their_length.Goals as goal

pub returns-clause-none : goal.returns-clause-none
returns-clause-none c least most waited = none-within least most waited

pub returns-clause-one : goal.returns-clause-one
returns-clause-one c least most milliseconds woke old new low high is = one-within least most milliseconds woke old new low high is

pub returns-clause-both : goal.returns-clause-both
returns-clause-both c least most old between new first then = both-within least most old between new first then

pub returns-clause-wider : goal.returns-clause-wider
returns-clause-wider c pauses least low high most lengths less more is = within-wider pauses least low high most lengths less more is
