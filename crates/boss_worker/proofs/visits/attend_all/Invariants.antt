use Rattle.std.proofs.Common.{◌≡◌, ℕ, ◌+◌, ◌*◌, ◌-◌, ◌^◌, ◌≤◌, min, false, List, None, option_copied}
use Rattle.boss_model.specs.Limits.{most_workers}
use Rattle.boss_outside_server.specs.Pauses.{watch_pause}
use Rattle.def_lanes.specs.Waits.{CountsClosed, PausedAround}
use Rattle.def_lanes.specs.Works.{Work, clock_cuts}
use Rattle.boss_sessions.specs.Holding.{Holds}
use Rattle.boss_worker.specs.Desks.{own_of}
use Rattle.boss_worker.specs.Saying.{terms_of}
use Rattle.boss_worker.specs.Troubles.{Counts}
use Rattle.boss_worker.specs.Visits.{SoFar}
use Rattle.boss_worker.proofs.visits.attend_all.Given as goal

-- each connection so far was served and given back, and nothing ended the work
abbrev pub invariant-connections : goal.invariant-connections
invariant-connections g l = record {
  own : g.G.Desk.owns l.server.desk l.pass;
  parts : g.G.Desk.parts l.pass ≡ g.G.Desk.parts l.fn.pass;
  unheld : (session : ℕ) → l.next ≤ session → Holds (g.G.Desk.denies l.server.desk) session None (g.G.Desk.held l.pass);
  sound : g.H.Host.sound l.host;
  back : g.H.Host.away l.host ≡ 0;
  share : g.H.Host.share l.host ≡ g.H.Host.share l.fn.host;
  within : g.H.Host.handed l.host ≤ g.H.Host.share l.fn.host;
  works : List Work;
  so_far : SoFar (terms_of l.server.catalogue.now (g.G.Desk.denies l.server.desk) (option_copied l.server.keys) l.server.workers g.H.In.Source.tells g.H.Out.Sink.tells g.H.Host.tells g.C.Clock.tells g.W.Waiter.tells) l.number works
      (own_of g.G.Desk l.pass) (g.H.Host.served l.fn.host) (g.H.Host.served l.host) (g.C.Clock.given l.fn.clock) (g.C.Clock.given l.clock)
      (g.H.Host.handed l.host) l.next l.flags;
  small : l.next ≤ most_workers + most_workers * g.H.Host.handed l.host;
  counted : l.count ≡ g.H.Host.handed l.host;
  waited : g.W.Waiter.tells → PausedAround watch_pause (g.W.Waiter.waited l.fn.waiter) (g.W.Waiter.waited l.waiter);
  hosted : g.H.Host.faults l.host ≡ 0;
  no_host : l.flags.host ≡ false;
  no_disk : l.flags.disk ≡ false;
  ticked : Counts l.flags.clock (g.C.Clock.faults l.clock);
  cuts : min (clock_cuts works) (2 ^ 64 - 1) ≤ g.C.Clock.faults l.clock;
  closes : g.W.Waiter.tells → CountsClosed works (g.W.Waiter.waited l.waiter);
}

abbrev pub decreases-connections : goal.decreases-connections
decreases-connections g l = g.H.Host.share l.fn.host - g.H.Host.handed l.host
