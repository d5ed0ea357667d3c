use Rattle.std.proofs.Common.{◌≡◌, ◌∙◌, ap, refl, subst, arith, false, true}
use Rattle.boss_model.specs.Held.{Held}
use Rattle.boss_outside_server.specs.Pauses.{watch_idle, watch_pause}
use Rattle.boss_lock.specs.Places.{entries_at}
use Rattle.def_lanes.proofs.WaitLemmas.{closed-both, paused-none, paused-both}
use Rattle.def_history.specs.History.{run}
use Rattle.def_connection.specs.Talks.{standing}
use Rattle.def_connection.proofs.WatchLemmas.{watches-nothing, watches-then}
use Rattle.boss_watching.specs.Ends.{is_closed_end, is_unanswered_end, ClockCause, CloseCause, WriteCause}
use Rattle.boss_watching.specs.Notes.{notes, sent}
use Rattle.boss_watching.proofs.Called.{called-behind, lasts-longer}
use Rattle.boss_watching.proofs.Ending.{comes-less, lasted-behind, lasts-nothing, lasts-then}
use Rattle.boss_watching.proofs.Turning.{watched-behind, watched-whole}
use Rattle.boss_watching.proofs.watching.watch_connection.Goals as goal

-- nothing could be set up
pub returns-in_default-clause-watched : goal.returns-in_default-clause-watched
returns-in_default-clause-watched g c = watched-whole (notes c.args.catalogue.now) c.args.session c.args.name.now g.K.Sink.tells g.C.Clock.tells true c.args.from c.args.from (standing (entries_at (g.G.Desk.seen c.args.pass.now) (g.G.Desk.mine c.args.pass.now)) (g.K.Sink.taken c.args.sink.now) (g.K.Sink.faults c.args.sink.now) (g.C.Clock.given c.args.clock.now) false 0) (standing (entries_at (g.G.Desk.seen c.args.pass.now) (g.G.Desk.mine c.args.pass.now)) (g.K.Sink.taken c.args.sink.now) (g.K.Sink.faults c.args.sink.now) (g.C.Clock.given c.args.clock.now) false 0) (watches-nothing (notes c.args.catalogue.now) c.args.session c.args.name.now g.K.Sink.tells g.C.Clock.tells c.args.from (standing (entries_at (g.G.Desk.seen c.args.pass.now) (g.G.Desk.mine c.args.pass.now)) (g.K.Sink.taken c.args.sink.now) (g.K.Sink.faults c.args.sink.now) (g.C.Clock.given c.args.clock.now) false 0))

pub returns-in_default-clause-lasted : goal.returns-in_default-clause-lasted
returns-in_default-clause-lasted g c = record { quiet = 0; lasts = lasts-nothing watch_idle g.W.Waiter.tells 0 (entries_at (g.G.Desk.seen c.args.pass.now) (g.G.Desk.mine c.args.pass.now)) (g.W.Waiter.waited c.args.waiter.now).pauses; is_idle = tt }

pub returns-in_default-clause-waited : goal.returns-in_default-clause-waited
returns-in_default-clause-waited g c = λ tells. paused-none watch_pause (g.W.Waiter.waited c.args.waiter.now)

pub returns-in_default-clause-closes : goal.returns-in_default-clause-closes
returns-in_default-clause-closes g c = λ tells. (paused-none watch_pause (g.W.Waiter.waited c.args.waiter.now)).closes

pub returns-in-Err-clause-closes : goal.returns-in-Err-clause-closes
returns-in-Err-clause-closes g c = λ tells.
    closed-both false (is_closed_end c.in-Err.end) (g.W.Waiter.waited c.args.waiter.now).closes (g.W.Waiter.waited c.loop-later.waiter).closes (g.W.Waiter.waited c.await_notices.new.waiter).closes
    (c.loop-later.invariant.waited tells).closes (c.in-Err.ensures.closes tells)

pub returns-in-Err-clause-waited : goal.returns-in-Err-clause-waited
returns-in-Err-clause-waited g c = λ tells. paused-both watch_pause (g.W.Waiter.waited c.args.waiter.now) (g.W.Waiter.waited c.loop-later.waiter) (g.W.Waiter.waited c.await_notices.new.waiter)
    (c.loop-later.invariant.waited tells) (c.await_notices.ensures.waited tells)

pub loop-later-init : goal.loop-later-init
loop-later-init g c = record {
  own = c.requires.own;
  parts = refl;
  held = refl;
  room = let same : c.in-Ok.text.capacity ≡ 32768 = ap (λ (b : Held). b.capacity) c.in-Ok.ensures in omega (arith, same);
  some = c.requires.from;
  watches = watches-nothing (notes c.args.catalogue.now) c.args.session c.args.name.now g.K.Sink.tells g.C.Clock.tells c.args.from (standing (entries_at (g.G.Desk.seen c.args.pass.now) (g.G.Desk.mine c.args.pass.now)) (g.K.Sink.taken c.args.sink.now) (g.K.Sink.faults c.args.sink.now) (g.C.Clock.given c.args.clock.now) false 0);
  lasts = lasts-nothing watch_idle g.W.Waiter.tells 0 (entries_at (g.G.Desk.seen c.args.pass.now) (g.G.Desk.mine c.args.pass.now)) (g.W.Waiter.waited c.args.waiter.now).pauses;
  waited = λ tells. paused-none watch_pause (g.W.Waiter.waited c.args.waiter.now);
  clock = refl;
  sink = refl;
  closes = refl;
}

pub returns-in-Err-clause-watched : goal.returns-in-Err-clause-watched
returns-in-Err-clause-watched g c = watched-behind (notes c.args.catalogue.now) c.args.session c.args.name.now g.K.Sink.tells g.C.Clock.tells (is_unanswered_end c.in-Err.end) c.args.from c.loop-later.next (standing (entries_at (g.G.Desk.seen c.args.pass.now) (g.G.Desk.mine c.args.pass.now)) (g.K.Sink.taken c.args.sink.now) (g.K.Sink.faults c.args.sink.now) (g.C.Clock.given c.args.clock.now) false 0) (standing (entries_at (g.G.Desk.seen c.loop-later.pass) (g.G.Desk.mine c.loop-later.pass)) (g.K.Sink.taken c.loop-later.sink) (g.K.Sink.faults c.loop-later.sink) (g.C.Clock.given c.loop-later.clock) false 0) (standing (entries_at (g.G.Desk.seen c.await_notices.new.pass) (g.G.Desk.mine c.await_notices.new.pass)) (g.K.Sink.taken c.await_notices.new.sink) (g.K.Sink.faults c.await_notices.new.sink) (g.C.Clock.given c.await_notices.new.clock) false 0) c.loop-later.invariant.watches c.in-Err.ensures.watched

pub returns-in-Err-clause-lasted : goal.returns-in-Err-clause-lasted
returns-in-Err-clause-lasted g c = lasted-behind watch_idle g.W.Waiter.tells (entries_at (g.G.Desk.seen c.args.pass.now) (g.G.Desk.mine c.args.pass.now)) (entries_at (g.G.Desk.seen c.loop-later.pass) (g.G.Desk.mine c.loop-later.pass)) (entries_at (g.G.Desk.seen c.await_notices.new.pass) (g.G.Desk.mine c.await_notices.new.pass)) (g.W.Waiter.waited c.args.waiter.now).pauses (g.W.Waiter.waited c.loop-later.waiter).pauses (g.W.Waiter.waited c.await_notices.new.waiter).pauses c.in-Err.end
    c.loop-later.invariant.lasts c.in-Err.ensures.lasted

pub returns-in-Err-clause-clock : goal.returns-in-Err-clause-clock
returns-in-Err-clause-clock g c = subst (λ n. ClockCause n (g.C.Clock.faults c.await_notices.new.clock) c.in-Err.end) c.loop-later.invariant.clock c.in-Err.ensures.clock_cause

pub returns-in-Err-clause-write : goal.returns-in-Err-clause-write
returns-in-Err-clause-write g c = subst (λ n. WriteCause n (g.K.Sink.faults c.await_notices.new.sink) c.in-Err.end) c.loop-later.invariant.sink c.in-Err.ensures.write_cause

pub returns-in-Err-clause-close : goal.returns-in-Err-clause-close
returns-in-Err-clause-close g c = subst (λ n. CloseCause g.W.Waiter.tells (g.W.Waiter.waited c.await_notices.new.waiter).closed n (g.W.Waiter.closes c.await_notices.new.waiter) c.in-Err.end) c.loop-later.invariant.closes c.in-Err.ensures.close_cause

pub loop-later-preserved : goal.loop-later-preserved
loop-later-preserved g c = record {
  own = c.in-Ok-await_notices.ensures.own;
  parts = c.in-Ok-await_notices.ensures.parts ∙ c.loop-later.invariant.parts;
  held = c.in-Ok-await_notices.ensures.held ∙ c.loop-later.invariant.held;
  room = omega (arith, c.in-Ok-await_notices.ensures.room, c.loop-later.invariant.room);
  some = c.in-Ok-await_notices.ensures.goes_on.first;
  watches = watches-then (notes c.args.catalogue.now) c.args.session c.args.name.now g.K.Sink.tells g.C.Clock.tells c.args.from c.loop-later.next c.in-Ok-await_notices.later (standing (entries_at (g.G.Desk.seen c.args.pass.now) (g.G.Desk.mine c.args.pass.now)) (g.K.Sink.taken c.args.sink.now) (g.K.Sink.faults c.args.sink.now) (g.C.Clock.given c.args.clock.now) false 0) (standing (entries_at (g.G.Desk.seen c.loop-later.pass) (g.G.Desk.mine c.loop-later.pass)) (g.K.Sink.taken c.loop-later.sink) (g.K.Sink.faults c.loop-later.sink) (g.C.Clock.given c.loop-later.clock) false 0) (standing (entries_at (g.G.Desk.seen c.await_notices.new.pass) (g.G.Desk.mine c.await_notices.new.pass)) (g.K.Sink.taken c.await_notices.new.sink) (g.K.Sink.faults c.await_notices.new.sink) (g.C.Clock.given c.await_notices.new.clock) false 0) c.loop-later.invariant.watches c.in-Ok-await_notices.ensures.watches;
  lasts = lasts-then watch_idle g.W.Waiter.tells 0 0 0 (entries_at (g.G.Desk.seen c.args.pass.now) (g.G.Desk.mine c.args.pass.now)) (entries_at (g.G.Desk.seen c.loop-later.pass) (g.G.Desk.mine c.loop-later.pass)) (entries_at (g.G.Desk.seen c.await_notices.new.pass) (g.G.Desk.mine c.await_notices.new.pass)) (g.W.Waiter.waited c.args.waiter.now).pauses (g.W.Waiter.waited c.loop-later.waiter).pauses (g.W.Waiter.waited c.await_notices.new.waiter).pauses c.loop-later.invariant.lasts c.in-Ok-await_notices.ensures.lasts;
  waited = λ tells. paused-both watch_pause (g.W.Waiter.waited c.args.waiter.now) (g.W.Waiter.waited c.loop-later.waiter) (g.W.Waiter.waited c.await_notices.new.waiter)
      (c.loop-later.invariant.waited tells) (c.await_notices.ensures.waited tells);
  clock = c.in-Ok-await_notices.ensures.calm ∙ c.loop-later.invariant.clock;
  sink = c.in-Ok-await_notices.ensures.watches.calm ∙ c.loop-later.invariant.sink;
  closes = c.in-Ok-await_notices.ensures.open ∙ c.loop-later.invariant.closes;
}

pub loop-later-smaller : goal.loop-later-smaller
loop-later-smaller g c = comes-less c.loop-later.next c.in-Ok-await_notices.later (sent c.args.name.now (run (g.G.Desk.plant c.args.desk.now) (g.G.Desk.seen c.loop-later.pass) (g.G.Desk.opening c.args.desk.now))) (sent c.args.name.now (run (g.G.Desk.plant c.args.desk.now) (g.G.Desk.seen c.await_notices.new.pass) (g.G.Desk.opening c.args.desk.now))) c.loop-later.invariant.some (omega arith) c.in-Ok-await_notices.ensures.goes_on

pub returns-in-Err-clause-called : goal.returns-in-Err-clause-called
returns-in-Err-clause-called g c = called-behind watch_idle (entries_at (g.G.Desk.seen c.args.pass.now) (g.G.Desk.mine c.args.pass.now)) (entries_at (g.G.Desk.seen c.loop-later.pass) (g.G.Desk.mine c.loop-later.pass)) (entries_at (g.G.Desk.seen c.await_notices.new.pass) (g.G.Desk.mine c.await_notices.new.pass)) c.in-Err.end
    (lasts-longer watch_idle g.W.Waiter.tells 0 (entries_at (g.G.Desk.seen c.args.pass.now) (g.G.Desk.mine c.args.pass.now)) (entries_at (g.G.Desk.seen c.loop-later.pass) (g.G.Desk.mine c.loop-later.pass)) (g.W.Waiter.waited c.args.waiter.now).pauses (g.W.Waiter.waited c.loop-later.waiter).pauses c.loop-later.invariant.lasts) c.in-Err.ensures.called
