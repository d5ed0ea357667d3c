use Rattle.def_lanes.proofs.Owners.{strange-owners, owner-session}
use Rattle.def_lanes.proofs.lanes.two_workers_share_no_lane.Goals as goal

pub returns-clause-strange : goal.returns-clause-strange
returns-clause-strange c workers first middle end works others = strange-owners workers first middle end works others

pub returns-clause-sessions : goal.returns-clause-sessions
returns-clause-sessions c workers number turn served cut less is = owner-session workers number turn served cut less is
