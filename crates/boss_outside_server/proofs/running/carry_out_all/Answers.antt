use Rattle.boss_outside_server.proofs.RunLemmas.{AreReady-tasks_of, EachRan-tasks_of, is_ended-starts_of}
use Rattle.boss_outside_server.proofs.running.carry_out_all.Goals as goal

pub side_by_side-requires-clause-ready : goal.side_by_side-requires-clause-ready
side_by_side-requires-clause-ready g c κs within = AreReady-tasks_of _ _ c.requires.ready

pub in_turn-requires-clause-ready : goal.in_turn-requires-clause-ready
in_turn-requires-clause-ready g c = AreReady-tasks_of _ _ c.requires.ready

pub returns-in-Some-clause-each : goal.returns-in-Some-clause-each
returns-in-Some-clause-each g c = EachRan-tasks_of _ _ _ _ c.side_by_side.ensures.each

pub returns-in-Some-clause-started : goal.returns-in-Some-clause-started
returns-in-Some-clause-started g c = is_ended-starts_of _ _ _ _ c.side_by_side.ensures.each

pub returns-in-None-clause-each : goal.returns-in-None-clause-each
returns-in-None-clause-each g c = EachRan-tasks_of _ _ _ _ c.in_turn.ensures

pub returns-in-None-clause-started : goal.returns-in-None-clause-started
returns-in-None-clause-started g c = is_ended-starts_of _ _ _ _ c.in_turn.ensures
