use Rattle.std.proofs.Common.{◌≡◌, ◌+◌, ◌-◌, ◌≤◌, List, [], ◌++◌, length, vec_len, vec_capacity}
use Rattle.boss_worker.specs.Desks.{own_of}
use Rattle.boss_worker.specs.Workers.{was_at, IsReady}
use Rattle.boss_server.specs.Making.{GainsNoPause, StaysClock, StaysHost}
use Rattle.boss_server.specs.References.{KeepsReferences}
use Rattle.boss_server.specs.Turns.{devices_of, AllInTurn}
use Rattle.boss_server.proofs.returning.return_all.Given as goal

-- the workers so far left nothing
abbrev pub invariant-loop-worker : goal.invariant-loop-worker
invariant-loop-worker g l = record {
  own : g.G.Desk.owns l.server.desk l.pass;
  parts : g.G.Desk.parts l.pass ≡ g.G.Desk.parts l.fn.pass + length l.yielded;
  empty : own_of g.G.Desk l.pass ≡ [];
  references : KeepsReferences l.fn.outside l.outside;
  sound : g.H.Host.sound l.outside.host.now;
  spawner : l.outside.spawner.now ≡ l.fn.outside.spawner.now;
  host : StaysHost g.H.Host l.fn.outside.host.now l.outside.host.now;
  clock : StaysClock g.C.Clock l.fn.outside.clock.now l.outside.clock.now;
  waiter : GainsNoPause g.W.Waiter.tells (g.W.Waiter.waits l.fn.outside.waiter.now) (g.W.Waiter.waits l.outside.waiter.now);
  ready : AllInTurn l.worker-iterator.rest.items (length l.yielded) (λ number worker. (worker.server.now ≡ l.server) × (worker.number ≡ number)
      × IsReady g.G.Desk g.H.Host g.C.Clock g.W.Waiter g.A.Actuators l.server.catalogue.now l.server.desk l.server.workers
      number worker.pass worker.duty worker.clock worker.waiter worker.flags);
  count : length l.yielded + length l.worker-iterator.rest.items ≡ length l.fn.workers.items;
  was : List g.row.A.Denot;
  drivers : length was ≡ length l.yielded - (l.server.workers + 1);
  devices : l.outside.devices.now.items ≡ was ++ l.fn.outside.devices.now.items;
  all_devices : was ++ devices_of l.worker-iterator.rest.items (λ worker. was_at worker.duty) ≡ devices_of l.fn.workers.items (λ worker. was_at worker.duty);
  room : vec_len l.outside.devices.now + length (devices_of l.worker-iterator.rest.items (λ worker. was_at worker.duty)) ≤ vec_capacity l.outside.devices.now;
}
