use Rattle.std.proofs.Common.{◌≡◌, ◌≤◌, false}
use Rattle.boss_outside_server.specs.Pauses.{watch_idle, watch_pause}
use Rattle.boss_lock.specs.Places.{entries_at}
use Rattle.def_lanes.specs.Waits.{PausedFor}
use Rattle.def_history.specs.History.{run}
use Rattle.def_connection.specs.Talks.{standing}
use Rattle.def_connection.specs.Watching.{Watches}
use Rattle.boss_watching.specs.Notes.{notes, sent}
use Rattle.boss_watching.specs.Turns.{Lasts}
use Rattle.boss_watching.proofs.Ending.{to_come}
use Rattle.boss_watching.proofs.watching.watch_connection.Given as goal

-- each wait so far ended at a notice
abbrev pub invariant-loop-later : goal.invariant-loop-later
invariant-loop-later g l = record {
  own : g.G.Desk.owns l.desk l.pass;
  parts : g.G.Desk.parts l.pass ≡ g.G.Desk.parts l.initial.pass;
  held : g.G.Desk.held l.pass ≡ g.G.Desk.held l.initial.pass;
  room : 32768 ≤ l.text.capacity;
  some : 1 ≤ l.next;
  watches : Watches (notes l.catalogue) l.session l.name g.K.Sink.tells g.C.Clock.tells l.from l.next
      (standing (entries_at (g.G.Desk.seen l.initial.pass) (g.G.Desk.mine l.initial.pass)) (g.K.Sink.taken l.initial.sink) (g.K.Sink.faults l.initial.sink) (g.C.Clock.given l.initial.clock) false 0)
      (standing (entries_at (g.G.Desk.seen l.pass) (g.G.Desk.mine l.pass)) (g.K.Sink.taken l.sink) (g.K.Sink.faults l.sink) (g.C.Clock.given l.clock) false 0);
  lasts : Lasts watch_idle 0 0 (entries_at (g.G.Desk.seen l.initial.pass) (g.G.Desk.mine l.initial.pass)) (entries_at (g.G.Desk.seen l.pass) (g.G.Desk.mine l.pass))
      g.W.Waiter.tells (g.W.Waiter.waited l.initial.waiter).pauses (g.W.Waiter.waited l.waiter).pauses;
  waited : g.W.Waiter.tells → PausedFor watch_pause (g.W.Waiter.waited l.initial.waiter) (g.W.Waiter.waited l.waiter);
  clock : g.C.Clock.faults l.clock ≡ g.C.Clock.faults l.initial.clock;
  sink : g.K.Sink.faults l.sink ≡ g.K.Sink.faults l.initial.sink;
  closes : g.W.Waiter.closes l.waiter ≡ g.W.Waiter.closes l.initial.waiter;
}

-- the number to ask from rises with each wait behind the first, as it is then no greater than that of the next notice
abbrev pub decreases-loop-later : goal.decreases-loop-later
decreases-loop-later g l = to_come l.next (sent l.name (run (g.G.Desk.plant l.desk) (g.G.Desk.seen l.pass) (g.G.Desk.opening l.desk)))
