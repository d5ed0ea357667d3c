use Rattle.std.proofs.Common.{◌≡◌, ◌≤◌, ◌<◌, false}
use Rattle.boss_outside_server.specs.Pauses.{watch_pause}
use Rattle.boss_lock.specs.Places.{entries_at}
use Rattle.def_lanes.specs.Waits.{PausedFor}
use Rattle.def_history.specs.History.{run}
use Rattle.def_connection.specs.Talks.{standing}
use Rattle.def_connection.specs.Watching.{Watches}
use Rattle.boss_watching.specs.Notes.{notes, sent}
use Rattle.boss_watching.specs.Turns.{Lasts}
use Rattle.boss_watching.proofs.Ending.{Began}
use Rattle.boss_watching.proofs.waiting.await_notices.Given as goal

-- no turn so far had a notice, and no count has risen that ends it
abbrev pub invariant-loop-quiet : goal.invariant-loop-quiet
invariant-loop-quiet g l = record {
  own : g.G.Desk.owns l.desk l.pass;
  parts : g.G.Desk.parts l.pass ≡ g.G.Desk.parts l.fn.pass;
  held : g.G.Desk.held l.pass ≡ g.G.Desk.held l.fn.pass;
  room : l.text.capacity ≡ l.fn.text.capacity;
  some : 1 ≤ l.next;
  watches : Watches (notes l.catalogue) l.session l.name g.K.Sink.tells g.C.Clock.tells l.from l.next
      (standing (entries_at (g.G.Desk.seen l.fn.pass) (g.G.Desk.mine l.fn.pass)) (g.K.Sink.taken l.fn.sink) (g.K.Sink.faults l.fn.sink) (g.C.Clock.given l.fn.clock) false 0)
      (standing (entries_at (g.G.Desk.seen l.pass) (g.G.Desk.mine l.pass)) (g.K.Sink.taken l.sink) (g.K.Sink.faults l.sink) (g.C.Clock.given l.clock) false 0);
  lasts : Lasts l.idle 0 l.quiet (entries_at (g.G.Desk.seen l.fn.pass) (g.G.Desk.mine l.fn.pass)) (entries_at (g.G.Desk.seen l.pass) (g.G.Desk.mine l.pass))
      g.W.Waiter.tells (g.W.Waiter.waited l.fn.waiter).pauses (g.W.Waiter.waited l.waiter).pauses;
  goes_on : Began l.quiet l.from l.next (sent l.name (run (g.G.Desk.plant l.desk) (g.G.Desk.seen l.fn.pass) (g.G.Desk.opening l.desk)))
      (sent l.name (run (g.G.Desk.plant l.desk) (g.G.Desk.seen l.pass) (g.G.Desk.opening l.desk)));
  waited : g.W.Waiter.tells → PausedFor watch_pause (g.W.Waiter.waited l.fn.waiter) (g.W.Waiter.waited l.waiter);
  clock : g.C.Clock.faults l.clock ≡ g.C.Clock.faults l.fn.clock;
  closes : l.quiet < l.idle → g.W.Waiter.closes l.waiter ≡ g.W.Waiter.closes l.fn.waiter;
}
