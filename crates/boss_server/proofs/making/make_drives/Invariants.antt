use Rattle.std.proofs.Common.{◌≡◌, ◌+◌, ◌≤◌, ◌++◌, length, vec_len, vec_capacity}
use Rattle.boss_worker.specs.Workers.{share_at, was_at, IsReady}
use Rattle.boss_server.specs.Making.{StaysClock, StaysWaiter}
use Rattle.boss_server.specs.References.{KeepsReferences}
use Rattle.boss_server.specs.Turns.{devices_of, shares_of, AllInTurn}
use Rattle.boss_server.proofs.making.make_drives.Given as goal

-- the drivers below this one have their workers, with the devices in front of those that are left
abbrev pub invariant-loop-driver : goal.invariant-loop-driver
invariant-loop-driver g l = record {
  own : g.G.Desk.owns l.server.desk l.pass;
  parts : g.G.Desk.parts l.pass + length l.made.items ≡ g.G.Desk.parts l.fn.pass + length l.fn.made.items;
  seen : g.G.Desk.seen l.pass ≡ g.G.Desk.seen l.fn.pass;
  mine : g.G.Desk.mine l.pass ≡ g.G.Desk.mine l.fn.pass;
  references : KeepsReferences l.fn.outside l.outside;
  host : l.outside.host.now ≡ l.fn.outside.host.now;
  spawner : l.outside.spawner.now ≡ l.fn.outside.spawner.now;
  clock : StaysClock g.C.Clock l.fn.outside.clock.now l.outside.clock.now;
  waiter : StaysWaiter g.W.Waiter l.fn.outside.waiter.now l.outside.waiter.now;
  ready : AllInTurn l.made.items 0 (λ number worker. (worker.server.now ≡ l.server) × (worker.number ≡ number)
      × IsReady g.G.Desk g.H.Host g.C.Clock g.W.Waiter g.A.Actuators l.server.catalogue.now l.server.desk l.server.workers
      number worker.pass worker.duty worker.clock worker.waiter worker.flags);
  room : vec_capacity l.fn.made ≤ vec_capacity l.made;
  count : length l.made.items ≡ length l.fn.made.items + l.driver;
  taken : vec_len l.outside.devices.now + l.driver ≡ vec_len l.fn.outside.devices.now;
  device_room : vec_capacity l.outside.devices.now ≡ vec_capacity l.fn.outside.devices.now;
  shares : shares_of l.made.items (λ worker. share_at g.H.Host worker.duty) ≡ shares_of l.fn.made.items (λ worker. share_at g.H.Host worker.duty);
  devices : devices_of l.made.items (λ worker. was_at worker.duty) ++ l.outside.devices.now.items ≡ devices_of l.fn.made.items (λ worker. was_at worker.duty) ++ l.fn.outside.devices.now.items;
}
