use Rattle.std.proofs.Common.{◌≡◌, ◌<◌}
use Rattle.boss_outside_server.specs.Pauses.{tick_pause}
use Rattle.boss_lock.specs.Places.{entries_at}
use Rattle.def_lanes.specs.Waits.{PausedFor}
use Rattle.boss_expiry.proofs.Turns.{TookSome}
use Rattle.boss_expiry.proofs.expiry.expire.Given as goal

-- each turn so far was whole, and no count has risen that ends the work
abbrev pub invariant-loop-turn : goal.invariant-loop-turn
invariant-loop-turn g l = record {
  own : g.G.Desk.owns l.desk l.pass;
  parts : g.G.Desk.parts l.pass ≡ g.G.Desk.parts l.fn.pass;
  took : TookSome (entries_at (g.G.Desk.seen l.fn.pass) (g.G.Desk.mine l.fn.pass)) (entries_at (g.G.Desk.seen l.pass) (g.G.Desk.mine l.pass))
      g.C.Clock.tells (g.C.Clock.given l.fn.clock) (g.C.Clock.given l.clock)
      g.W.Waiter.tells (g.W.Waiter.waited l.fn.waiter).pauses (g.W.Waiter.waited l.waiter).pauses l.turn;
  waited : g.W.Waiter.tells → PausedFor tick_pause (g.W.Waiter.waited l.fn.waiter) (g.W.Waiter.waited l.waiter);
  clock : g.C.Clock.faults l.clock ≡ g.C.Clock.faults l.fn.clock;
  closes : l.turn < l.turns → g.W.Waiter.closes l.waiter ≡ g.W.Waiter.closes l.fn.waiter;
}
