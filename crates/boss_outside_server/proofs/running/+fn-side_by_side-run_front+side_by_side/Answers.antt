use Rattle.boss_outside_server.proofs.RunLemmas.{AllZip-snoc}
use Rattle.boss_outside_server.proofs.running.+fn-side_by_side-run_front+side_by_side.Goals as goal

pub returns-clause-each : goal.returns-clause-each
returns-clause-each g t c =
    rw (c.in-Some.ensures.items, c.push_in_room.ensures.items)
    (AllZip-snoc _ _ _ _ _ c.join-ran_last.ensures.second.0 c.join-ran_last.ensures.first)
