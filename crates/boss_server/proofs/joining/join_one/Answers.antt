use Rattle.boss_server.proofs.DeskJoins.{desk-joined, desk-nothing}
use Rattle.boss_server.proofs.joining.join_one.Goals as goal

pub returns-clause-joined : goal.returns-clause-joined
returns-clause-joined g c = desk-joined _ _ _ c.join.ensures.kept c.join.ensures.taken_in

pub returns-clause-nothing : goal.returns-clause-nothing
returns-clause-nothing g c = desk-nothing _ _ _ c.join.ensures.kept
