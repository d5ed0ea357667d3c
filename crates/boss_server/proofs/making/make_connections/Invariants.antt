use Rattle.std.proofs.Common.{◌≡◌, ◌+◌, ◌≤◌, [], length, vec_capacity}
use Rattle.boss_worker.specs.Workers.{share_at, was_at, IsReady}
use Rattle.boss_server.specs.Making.{StaysClock, StaysHost, StaysWaiter}
use Rattle.boss_server.specs.References.{KeepsReferences}
use Rattle.boss_server.specs.Turns.{devices_of, shares_of, AllInTurn}
use Rattle.boss_server.proofs.ShareLemmas.{shares_before}
use Rattle.boss_server.proofs.making.make_connections.Given as goal

-- as many workers as the number says are made, and they have the shares of these
abbrev pub invariant-loop-number : goal.invariant-loop-number
invariant-loop-number g l = record {
  own : g.G.Desk.owns l.server.desk l.pass;
  parts : g.G.Desk.parts l.pass + length l.made.items ≡ g.G.Desk.parts l.fn.pass;
  seen : g.G.Desk.seen l.pass ≡ g.G.Desk.seen l.fn.pass;
  mine : g.G.Desk.mine l.pass ≡ g.G.Desk.mine l.fn.pass;
  references : KeepsReferences l.fn.outside l.outside;
  sound : g.H.Host.sound l.outside.host.now;
  kept_devices : l.outside.devices.now ≡ l.fn.outside.devices.now;
  spawner : l.outside.spawner.now ≡ l.fn.outside.spawner.now;
  host : StaysHost g.H.Host l.fn.outside.host.now l.outside.host.now;
  clock : StaysClock g.C.Clock l.fn.outside.clock.now l.outside.clock.now;
  waiter : StaysWaiter g.W.Waiter l.fn.outside.waiter.now l.outside.waiter.now;
  ready : AllInTurn l.made.items 0 (λ number worker. (worker.server.now ≡ l.server) × (worker.number ≡ number)
      × IsReady g.G.Desk g.H.Host g.C.Clock g.W.Waiter g.A.Actuators l.server.catalogue.now l.server.desk l.server.workers
      number worker.pass worker.duty worker.clock worker.waiter worker.flags);
  room : vec_capacity l.fn.made ≤ vec_capacity l.made;
  count : length l.made.items ≡ l.number;
  shares : shares_of l.made.items (λ worker. share_at g.H.Host worker.duty) ≡ shares_before l.connections l.server.workers l.number;
  devices : devices_of l.made.items (λ worker. was_at worker.duty) ≡ [];
}
