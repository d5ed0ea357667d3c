use Rattle.std.proofs.Common.{◌≡◌, ◌<◌}
use Rattle.boss_outside_server.specs.Pauses.{drive_pause, held_pause}
use Rattle.boss_lock.specs.Places.{entries_at}
use Rattle.def_lanes.specs.Waits.{PausedWithin}
use Rattle.boss_drive.proofs.Gains.{TookSome}
use Rattle.boss_drive.proofs.driving.drive.Given as goal

-- each turn so far was whole, and no count has risen that ends the work
abbrev pub invariant-loop-number : goal.invariant-loop-number
invariant-loop-number g l = record {
  own : g.G.Desk.owns l.desk l.pass;
  parts : g.G.Desk.parts l.pass ≡ g.G.Desk.parts l.fn.pass;
  took : TookSome (g.G.Desk.plant l.desk) l.driver g.C.Clock.tells g.A.Actuators.tells
      (record { own = entries_at (g.G.Desk.seen l.fn.pass) (g.G.Desk.mine l.fn.pass); given = g.C.Clock.given l.fn.clock; whole = g.A.Actuators.whole l.fn.devices; calls = g.A.Actuators.calls l.fn.devices })
      (record { own = entries_at (g.G.Desk.seen l.pass) (g.G.Desk.mine l.pass); given = g.C.Clock.given l.clock; whole = g.A.Actuators.whole l.devices; calls = g.A.Actuators.calls l.devices })
      g.W.Waiter.tells (g.W.Waiter.waited l.fn.waiter).pauses (g.W.Waiter.waited l.waiter).pauses l.number;
  waited : g.W.Waiter.tells → PausedWithin held_pause drive_pause (g.W.Waiter.waited l.fn.waiter) (g.W.Waiter.waited l.waiter);
  clock : g.C.Clock.faults l.clock ≡ g.C.Clock.faults l.fn.clock;
  closes : l.number < l.turns → g.W.Waiter.closes l.waiter ≡ g.W.Waiter.closes l.fn.waiter;
}
