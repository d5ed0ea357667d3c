use Rattle.std.proofs.Common.{◌≡◌, ℕ, ◌+◌, ◌≤◌, ◌||◌, List, ◌++◌, length, vec_len, vec_capacity, option_copied}
use Rattle.def_lanes.specs.Works.{Work}
use Rattle.boss_worker.specs.Desks.{own_of}
use Rattle.boss_worker.specs.Saying.{terms_of}
use Rattle.boss_worker.specs.Workers.{share_at, was_at, HasLeft}
use Rattle.boss_server.specs.Accounts.{Returned}
use Rattle.boss_server.specs.Hosted.{hosted_at}
use Rattle.boss_server.specs.References.{KeepsReferences}
use Rattle.boss_server.specs.Together.{Together}
use Rattle.boss_server.specs.Turns.{devices_in, is_any_unrun, shares_in, EachInTurn}
use Rattle.boss_server.proofs.joining.join_all.Given as goal

-- the workers so far are taken together, and what holds of each of the others holds still
abbrev pub invariant-loop-ran : goal.invariant-loop-ran
invariant-loop-ran g l = record {
  own : g.G.Desk.owns l.server.desk l.pass;
  parts : g.G.Desk.parts l.pass ≡ g.G.Desk.parts l.fn.pass + length l.yielded;
  references : KeepsReferences l.fn.outside l.outside;
  sound : g.H.Host.sound l.outside.host.now;
  listens : g.H.Host.tells → g.H.Host.listens l.outside.host.now ≡ g.H.Host.listens l.fn.outside.host.now;
  spawner : l.outside.spawner.now ≡ l.fn.outside.spawner.now;
  left : EachInTurn l.ran-iterator.rest.items (length l.yielded) (λ ran number worker. (worker.server.now ≡ l.server) × (worker.number ≡ number)
      × HasLeft g.G.Desk g.H.Host g.C.Clock g.W.Waiter g.A.Actuators ran (terms_of l.server.catalogue.now (g.G.Desk.denies l.server.desk) (option_copied l.server.keys) l.server.workers g.H.In.Source.tells g.H.Out.Sink.tells g.H.Host.tells g.C.Clock.tells g.W.Waiter.tells)
      l.server.desk number worker.pass worker.duty worker.clock worker.waiter worker.flags);
  count : length l.yielded + length l.ran-iterator.rest.items ≡ length l.fn.done.items;
  shares : ℕ;
  all_shares : shares + shares_in l.ran-iterator.rest.items (λ worker. share_at g.H.Host worker.duty) ≡ shares_in l.fn.done.items (λ worker. share_at g.H.Host worker.duty);
  works : List Work;
  together : Together (terms_of l.server.catalogue.now (g.G.Desk.denies l.server.desk) (option_copied l.server.keys) l.server.workers g.H.In.Source.tells g.H.Out.Sink.tells g.H.Host.tells g.C.Clock.tells g.W.Waiter.tells)
      (length l.yielded) shares works (own_of g.G.Desk l.pass) (g.G.Desk.seen l.pass)
      (g.H.Host.served l.fn.outside.host.now) (g.H.Host.served l.outside.host.now) (g.C.Clock.given l.fn.outside.clock.now) (g.C.Clock.given l.outside.clock.now) (hosted_at g.H.Host l.fn.outside.host.now) (hosted_at g.H.Host l.outside.host.now)
      (g.C.Clock.faults l.fn.outside.clock.now) (g.C.Clock.faults l.outside.clock.now) l.flags l.unrun;
  was : List g.row.A.Denot;
  back : List g.row.A.Denot;
  devices : l.outside.devices.now.items ≡ back ++ l.fn.outside.devices.now.items;
  all_devices : was ++ devices_in l.ran-iterator.rest.items (λ worker. was_at worker.duty) ≡ devices_in l.fn.done.items (λ worker. was_at worker.duty);
  room : vec_len l.outside.devices.now + length (devices_in l.ran-iterator.rest.items (λ worker. was_at worker.duty)) ≤ vec_capacity l.outside.devices.now;
  returned : Returned g.A.Actuators.calls (λ device. g.A.Actuators.tells × g.A.Actuators.whole device)
      (terms_of l.server.catalogue.now (g.G.Desk.denies l.server.desk) (option_copied l.server.keys) l.server.workers g.H.In.Source.tells g.H.Out.Sink.tells g.H.Host.tells g.C.Clock.tells g.W.Waiter.tells) g.W.Waiter.tells
      (length l.yielded) works (own_of g.G.Desk l.pass) (g.W.Waiter.waits l.fn.outside.waiter.now) (g.W.Waiter.waits l.outside.waiter.now) was back l.unrun;
  unrun : (l.unrun || is_any_unrun l.ran-iterator.rest.items) ≡ is_any_unrun l.fn.done.items;
}
