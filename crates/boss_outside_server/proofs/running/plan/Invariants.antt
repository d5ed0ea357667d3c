use Rattle.std.proofs.Common.{◌≡◌, ◌+◌, ◌≤◌, length, vec_len, vec_capacity}
use Rattle.boss_outside_server.specs.Tasks.{Starts, SpawnCause, tasks_of, starts_of}
use Rattle.boss_outside_server.proofs.running.plan.Given as goal

-- the tasks so far are planned in their order, and the spawner is as its answers leave it
abbrev pub invariant-loop-task : goal.invariant-loop-task
invariant-loop-task g l = record {
  tasks : tasks_of l.planned.items ≡ l.yielded;
  started : Starts g.P.Spawner.starting l.fn.spawner (starts_of l.planned.items) l.spawner;
  cause : SpawnCause (g.P.Spawner.faults l.fn.spawner) (g.P.Spawner.faults l.spawner) (starts_of l.planned.items);
  room : vec_len l.planned + length l.task-iterator.rest.items ≤ vec_capacity l.planned;
}
