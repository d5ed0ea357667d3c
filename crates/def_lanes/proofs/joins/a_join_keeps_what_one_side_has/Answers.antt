use Rattle.def_lanes.proofs.Choices.{joined-append, joined-deeds, joined-tests}
use Rattle.def_lanes.proofs.joins.a_join_keeps_what_one_side_has.Goals as goal

pub returns-clause-behind : goal.returns-clause-behind
returns-clause-behind c old more = joined-append old more

pub returns-clause-grown : goal.returns-clause-grown
returns-clause-grown c old more new grew = joined-deeds old more new grew

pub returns-clause-tested : goal.returns-clause-tested
returns-clause-tested c old other new kept taken = joined-tests old other new kept taken
