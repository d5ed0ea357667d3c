use Rattle.std.proofs.Common.{rules}
use Rattle.boss_outside_server.proofs.Lists.{map-snoc}
use Rattle.boss_outside_server.specs.Tasks.{starts_of}
use Rattle.boss_outside_server.proofs.RunLemmas.{Starts-snoc, SpawnCause-snoc}
use Rattle.boss_outside_server.proofs.running.plan.Goals as goal

pub loop-task-preserved : goal.loop-task-preserved
loop-task-preserved g c = rw c.push_in_room.ensures.items (simp map-snoc record {
  tasks = rw c.loop-task.invariant.tasks;
  started = Starts-snoc _ _ _ _ _ _ c.loop-task.invariant.started c.starts-starts.ensures.step;
  cause = SpawnCause-snoc _ (g.P.Spawner.faults c.loop-task.spawner) _ (starts_of c.loop-task.planned.items) _ c.loop-task.invariant.cause c.starts-starts.ensures.cause;
  room = search rules;
})
