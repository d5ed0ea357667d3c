use Rattle.def_lanes.proofs.Owners.{before-absent, before-more}
use Rattle.def_lanes.proofs.lanes.rising_sessions_are_apart.Goals as goal

pub returns-clause-absent : goal.returns-clause-absent
returns-clause-absent c next works before = before-absent next works before

pub returns-clause-more : goal.returns-clause-more
returns-clause-more c next later works served cut before is less = before-more next later works served cut before is less
