use Rattle.def_lanes.proofs.WaitLemmas.{waited-next, waited-at-next}
use Rattle.def_lanes.proofs.waits.notes_stand_at_their_places.Goals as goal

pub returns-clause-works : goal.returns-clause-works
returns-clause-works c workers notes note works others waited of_next are = waited-next workers notes note works others waited of_next are

pub returns-clause-places : goal.returns-clause-places
returns-clause-places c workers notes note works others waited of_first of_next last = waited-at-next workers notes note works others waited of_first of_next last
