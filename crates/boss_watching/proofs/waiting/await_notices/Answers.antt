use Rattle.std.proofs.Common.{◌+◌, ◌∙◌, ap, refl, subst, arith, true, false}
use Rattle.boss_outside_server.specs.Pauses.{watch_pause}
use Rattle.boss_outside_server.specs.declared.waited.Waited.{Waited}
use Rattle.boss_lock.specs.Places.{entries_at}
use Rattle.def_lanes.proofs.WaitLemmas.{closed-both, closed-close, paused-none, paused-one, paused-both}
use Rattle.def_history.specs.History.{run}
use Rattle.def_connection.specs.Talks.{standing}
use Rattle.def_connection.proofs.WatchLemmas.{watches-nothing, watches-then}
use Rattle.boss_watching.specs.Ends.{is_unanswered_end}
use Rattle.boss_watching.specs.Notes.{GoesOn, notes, sent}
use Rattle.boss_watching.specs.Turns.{AddsTurn}
use Rattle.boss_watching.proofs.Called.{called-cut, lasts-called, lasts-longer, one-longer}
use Rattle.boss_watching.proofs.Ending.{began-more, closed-cut, lasted-cut, not-closed, lasts-nothing, lasts-quiet, lasts-then, lasts-told}
use Rattle.boss_watching.proofs.Turning.{watched-behind, watched-whole}
use Rattle.boss_watching.proofs.waiting.await_notices.Goals as goal
use Rattle.boss_watching.proofs.waiting.await_notices.Goals.{in-Close+else-quiet-idle, in_default}

pub loop-quiet-init : goal.loop-quiet-init
loop-quiet-init g c = record {
  own = c.requires.own;
  parts = refl;
  held = refl;
  room = refl;
  some = c.requires.from;
  watches = watches-nothing (notes c.args.catalogue.now) c.args.session c.args.name.now g.K.Sink.tells g.C.Clock.tells c.args.from (standing (entries_at (g.G.Desk.seen c.args.pass.now) (g.G.Desk.mine c.args.pass.now)) (g.K.Sink.taken c.args.sink.now) (g.K.Sink.faults c.args.sink.now) (g.C.Clock.given c.args.clock.now) false 0);
  lasts = lasts-nothing c.args.idle g.W.Waiter.tells 0 (entries_at (g.G.Desk.seen c.args.pass.now) (g.G.Desk.mine c.args.pass.now)) (g.W.Waiter.waited c.args.waiter.now).pauses;
  waited = λ tells. paused-none watch_pause (g.W.Waiter.waited c.args.waiter.now);
  goes_on = (refl, refl);
  clock = refl;
  closes = λ less. refl;
}

pub returns-in-Err-clause-watched : goal.returns-in-Err-clause-watched
returns-in-Err-clause-watched g c = watched-behind (notes c.args.catalogue.now) c.args.session c.args.name.now g.K.Sink.tells g.C.Clock.tells (is_unanswered_end c.in-Err.end) c.args.from c.loop-quiet.next (standing (entries_at (g.G.Desk.seen c.args.pass.now) (g.G.Desk.mine c.args.pass.now)) (g.K.Sink.taken c.args.sink.now) (g.K.Sink.faults c.args.sink.now) (g.C.Clock.given c.args.clock.now) false 0) (standing (entries_at (g.G.Desk.seen c.loop-quiet.pass) (g.G.Desk.mine c.loop-quiet.pass)) (g.K.Sink.taken c.loop-quiet.sink) (g.K.Sink.faults c.loop-quiet.sink) (g.C.Clock.given c.loop-quiet.clock) false 0) (standing (entries_at (g.G.Desk.seen c.take_turn.new.pass) (g.G.Desk.mine c.take_turn.new.pass)) (g.K.Sink.taken c.take_turn.new.sink) (g.K.Sink.faults c.take_turn.new.sink) (g.C.Clock.given c.take_turn.new.clock) false 0) c.loop-quiet.invariant.watches c.in-Err.ensures.watched

pub returns-in-Err-clause-lasted : goal.returns-in-Err-clause-lasted
returns-in-Err-clause-lasted g c = lasted-cut c.args.idle g.W.Waiter.tells c.loop-quiet.quiet (entries_at (g.G.Desk.seen c.args.pass.now) (g.G.Desk.mine c.args.pass.now)) (entries_at (g.G.Desk.seen c.loop-quiet.pass) (g.G.Desk.mine c.loop-quiet.pass)) (entries_at (g.G.Desk.seen c.take_turn.new.pass) (g.G.Desk.mine c.take_turn.new.pass)) (g.W.Waiter.waited c.args.waiter.now).pauses (g.W.Waiter.waited c.loop-quiet.waiter).pauses c.in-Err.end
    c.loop-quiet.invariant.lasts c.loop-quiet-test.true c.in-Err.ensures.cut c.in-Err.ensures.added

pub returns-then-turn-clause-watches : goal.returns-then-turn-clause-watches
returns-then-turn-clause-watches g c = watches-then (notes c.args.catalogue.now) c.args.session c.args.name.now g.K.Sink.tells g.C.Clock.tells c.args.from c.loop-quiet.next c.in-Ok.turn.next (standing (entries_at (g.G.Desk.seen c.args.pass.now) (g.G.Desk.mine c.args.pass.now)) (g.K.Sink.taken c.args.sink.now) (g.K.Sink.faults c.args.sink.now) (g.C.Clock.given c.args.clock.now) false 0) (standing (entries_at (g.G.Desk.seen c.loop-quiet.pass) (g.G.Desk.mine c.loop-quiet.pass)) (g.K.Sink.taken c.loop-quiet.sink) (g.K.Sink.faults c.loop-quiet.sink) (g.C.Clock.given c.loop-quiet.clock) false 0) (standing (entries_at (g.G.Desk.seen c.take_turn.new.pass) (g.G.Desk.mine c.take_turn.new.pass)) (g.K.Sink.taken c.take_turn.new.sink) (g.K.Sink.faults c.take_turn.new.sink) (g.C.Clock.given c.take_turn.new.clock) false 0) c.loop-quiet.invariant.watches c.in-Ok.ensures.watches

pub returns-then-turn-clause-lasts : goal.returns-then-turn-clause-lasts
returns-then-turn-clause-lasts g c = lasts-then c.args.idle g.W.Waiter.tells 0 c.loop-quiet.quiet 0 (entries_at (g.G.Desk.seen c.args.pass.now) (g.G.Desk.mine c.args.pass.now)) (entries_at (g.G.Desk.seen c.loop-quiet.pass) (g.G.Desk.mine c.loop-quiet.pass)) (entries_at (g.G.Desk.seen c.take_turn.new.pass) (g.G.Desk.mine c.take_turn.new.pass)) (g.W.Waiter.waited c.args.waiter.now).pauses (g.W.Waiter.waited c.loop-quiet.waiter).pauses (g.W.Waiter.waited c.loop-quiet.waiter).pauses c.loop-quiet.invariant.lasts
    (lasts-told c.args.idle g.W.Waiter.tells c.loop-quiet.quiet (entries_at (g.G.Desk.seen c.loop-quiet.pass) (g.G.Desk.mine c.loop-quiet.pass)) (entries_at (g.G.Desk.seen c.take_turn.new.pass) (g.G.Desk.mine c.take_turn.new.pass)) (g.W.Waiter.waited c.loop-quiet.waiter).pauses c.loop-quiet-test.true (subst (λ b. AddsTurn b (entries_at (g.G.Desk.seen c.loop-quiet.pass) (g.G.Desk.mine c.loop-quiet.pass)) (entries_at (g.G.Desk.seen c.take_turn.new.pass) (g.G.Desk.mine c.take_turn.new.pass))) c.if-turn.true c.in-Ok.ensures.adds))

pub returns-then-quiet-idle-clause-watched : goal.returns-then-quiet-idle-clause-watched
returns-then-quiet-idle-clause-watched g c = watched-whole (notes c.args.catalogue.now) c.args.session c.args.name.now g.K.Sink.tells g.C.Clock.tells false c.args.from c.in-Ok.turn.next (standing (entries_at (g.G.Desk.seen c.args.pass.now) (g.G.Desk.mine c.args.pass.now)) (g.K.Sink.taken c.args.sink.now) (g.K.Sink.faults c.args.sink.now) (g.C.Clock.given c.args.clock.now) false 0) (standing (entries_at (g.G.Desk.seen c.take_turn.new.pass) (g.G.Desk.mine c.take_turn.new.pass)) (g.K.Sink.taken c.take_turn.new.sink) (g.K.Sink.faults c.take_turn.new.sink) (g.C.Clock.given c.take_turn.new.clock) false 0)
    (watches-then (notes c.args.catalogue.now) c.args.session c.args.name.now g.K.Sink.tells g.C.Clock.tells c.args.from c.loop-quiet.next c.in-Ok.turn.next (standing (entries_at (g.G.Desk.seen c.args.pass.now) (g.G.Desk.mine c.args.pass.now)) (g.K.Sink.taken c.args.sink.now) (g.K.Sink.faults c.args.sink.now) (g.C.Clock.given c.args.clock.now) false 0) (standing (entries_at (g.G.Desk.seen c.loop-quiet.pass) (g.G.Desk.mine c.loop-quiet.pass)) (g.K.Sink.taken c.loop-quiet.sink) (g.K.Sink.faults c.loop-quiet.sink) (g.C.Clock.given c.loop-quiet.clock) false 0) (standing (entries_at (g.G.Desk.seen c.take_turn.new.pass) (g.G.Desk.mine c.take_turn.new.pass)) (g.K.Sink.taken c.take_turn.new.sink) (g.K.Sink.faults c.take_turn.new.sink) (g.C.Clock.given c.take_turn.new.clock) false 0) c.loop-quiet.invariant.watches c.in-Ok.ensures.watches)

pub returns-then-quiet-idle-clause-lasted : goal.returns-then-quiet-idle-clause-lasted
returns-then-quiet-idle-clause-lasted g c = record {
  quiet = c.loop-quiet.quiet + 1;
  lasts = lasts-then c.args.idle g.W.Waiter.tells 0 c.loop-quiet.quiet (c.loop-quiet.quiet + 1) (entries_at (g.G.Desk.seen c.args.pass.now) (g.G.Desk.mine c.args.pass.now)) (entries_at (g.G.Desk.seen c.loop-quiet.pass) (g.G.Desk.mine c.loop-quiet.pass)) (entries_at (g.G.Desk.seen c.take_turn.new.pass) (g.G.Desk.mine c.take_turn.new.pass)) (g.W.Waiter.waited c.args.waiter.now).pauses (g.W.Waiter.waited c.loop-quiet.waiter).pauses (g.W.Waiter.waited c.pause.new.self).pauses c.loop-quiet.invariant.lasts
      (lasts-quiet c.args.idle g.W.Waiter.tells c.loop-quiet.quiet (entries_at (g.G.Desk.seen c.loop-quiet.pass) (g.G.Desk.mine c.loop-quiet.pass)) (entries_at (g.G.Desk.seen c.take_turn.new.pass) (g.G.Desk.mine c.take_turn.new.pass)) (g.W.Waiter.waited c.loop-quiet.waiter).pauses (g.W.Waiter.waited c.pause.new.self).pauses c.loop-quiet-test.true (subst (λ b. AddsTurn b (entries_at (g.G.Desk.seen c.loop-quiet.pass) (g.G.Desk.mine c.loop-quiet.pass)) (entries_at (g.G.Desk.seen c.take_turn.new.pass) (g.G.Desk.mine c.take_turn.new.pass))) c.if-turn.false c.in-Ok.ensures.adds)
      (λ tells. ap (λ (it : Waited). it.pauses) (c.pause.ensures.counted tells).0));
  is_idle = omega (arith, c.if-quiet-idle.true);
}

pub returns-clause-watched : goal.returns-clause-watched
returns-clause-watched g c = watched-whole (notes c.args.catalogue.now) c.args.session c.args.name.now g.K.Sink.tells g.C.Clock.tells false c.args.from c.loop-quiet.next (standing (entries_at (g.G.Desk.seen c.args.pass.now) (g.G.Desk.mine c.args.pass.now)) (g.K.Sink.taken c.args.sink.now) (g.K.Sink.faults c.args.sink.now) (g.C.Clock.given c.args.clock.now) false 0) (standing (entries_at (g.G.Desk.seen c.loop-quiet.pass) (g.G.Desk.mine c.loop-quiet.pass)) (g.K.Sink.taken c.loop-quiet.sink) (g.K.Sink.faults c.loop-quiet.sink) (g.C.Clock.given c.loop-quiet.clock) false 0) c.loop-quiet.invariant.watches

pub returns-then-quiet-idle-clause-waited : goal.returns-then-quiet-idle-clause-waited
returns-then-quiet-idle-clause-waited g c = λ tells. paused-both watch_pause (g.W.Waiter.waited c.args.waiter.now) (g.W.Waiter.waited c.loop-quiet.waiter) (g.W.Waiter.waited c.pause.new.self)
    (c.loop-quiet.invariant.waited tells) (paused-one watch_pause c.pause.result (g.W.Waiter.waited c.loop-quiet.waiter) (g.W.Waiter.waited c.pause.new.self) (c.pause.ensures.counted tells).0)

pub loop-quiet-preserved : goal.loop-quiet-preserved
loop-quiet-preserved g c = record {
  own = c.in-Ok.ensures.own;
  parts = c.in-Ok.ensures.parts ∙ c.loop-quiet.invariant.parts;
  held = c.in-Ok.ensures.held ∙ c.loop-quiet.invariant.held;
  room = c.in-Ok.ensures.room ∙ c.loop-quiet.invariant.room;
  some = c.in-Ok.ensures.goes_on.first;
  watches = watches-then (notes c.args.catalogue.now) c.args.session c.args.name.now g.K.Sink.tells g.C.Clock.tells c.args.from c.loop-quiet.next c.in-Ok.turn.next (standing (entries_at (g.G.Desk.seen c.args.pass.now) (g.G.Desk.mine c.args.pass.now)) (g.K.Sink.taken c.args.sink.now) (g.K.Sink.faults c.args.sink.now) (g.C.Clock.given c.args.clock.now) false 0) (standing (entries_at (g.G.Desk.seen c.loop-quiet.pass) (g.G.Desk.mine c.loop-quiet.pass)) (g.K.Sink.taken c.loop-quiet.sink) (g.K.Sink.faults c.loop-quiet.sink) (g.C.Clock.given c.loop-quiet.clock) false 0) (standing (entries_at (g.G.Desk.seen c.take_turn.new.pass) (g.G.Desk.mine c.take_turn.new.pass)) (g.K.Sink.taken c.take_turn.new.sink) (g.K.Sink.faults c.take_turn.new.sink) (g.C.Clock.given c.take_turn.new.clock) false 0) c.loop-quiet.invariant.watches c.in-Ok.ensures.watches;
  lasts = lasts-then c.args.idle g.W.Waiter.tells 0 c.loop-quiet.quiet (c.loop-quiet.quiet + 1) (entries_at (g.G.Desk.seen c.args.pass.now) (g.G.Desk.mine c.args.pass.now)) (entries_at (g.G.Desk.seen c.loop-quiet.pass) (g.G.Desk.mine c.loop-quiet.pass)) (entries_at (g.G.Desk.seen c.take_turn.new.pass) (g.G.Desk.mine c.take_turn.new.pass)) (g.W.Waiter.waited c.args.waiter.now).pauses (g.W.Waiter.waited c.loop-quiet.waiter).pauses (g.W.Waiter.waited c.pause.new.self).pauses c.loop-quiet.invariant.lasts
      (lasts-quiet c.args.idle g.W.Waiter.tells c.loop-quiet.quiet (entries_at (g.G.Desk.seen c.loop-quiet.pass) (g.G.Desk.mine c.loop-quiet.pass)) (entries_at (g.G.Desk.seen c.take_turn.new.pass) (g.G.Desk.mine c.take_turn.new.pass)) (g.W.Waiter.waited c.loop-quiet.waiter).pauses (g.W.Waiter.waited c.pause.new.self).pauses c.loop-quiet-test.true
      (subst (λ b. AddsTurn b (entries_at (g.G.Desk.seen c.loop-quiet.pass) (g.G.Desk.mine c.loop-quiet.pass)) (entries_at (g.G.Desk.seen c.take_turn.new.pass) (g.G.Desk.mine c.take_turn.new.pass))) c.if-turn.false c.in-Ok.ensures.adds) (λ tells. ap (λ (it : Waited). it.pauses) (c.pause.ensures.counted tells).0));
  goes_on = began-more c.loop-quiet.quiet c.args.from c.loop-quiet.next c.in-Ok.turn.next (sent c.args.name.now (run (g.G.Desk.plant c.args.desk.now) (g.G.Desk.seen c.args.pass.now) (g.G.Desk.opening c.args.desk.now))) (sent c.args.name.now (run (g.G.Desk.plant c.args.desk.now) (g.G.Desk.seen c.loop-quiet.pass) (g.G.Desk.opening c.args.desk.now))) (sent c.args.name.now (run (g.G.Desk.plant c.args.desk.now) (g.G.Desk.seen c.take_turn.new.pass) (g.G.Desk.opening c.args.desk.now))) c.loop-quiet.invariant.goes_on
      (subst (λ b. GoesOn c.loop-quiet.next c.in-Ok.turn.next b (sent c.args.name.now (run (g.G.Desk.plant c.args.desk.now) (g.G.Desk.seen c.loop-quiet.pass) (g.G.Desk.opening c.args.desk.now))) (sent c.args.name.now (run (g.G.Desk.plant c.args.desk.now) (g.G.Desk.seen c.take_turn.new.pass) (g.G.Desk.opening c.args.desk.now)))) c.if-turn.false c.in-Ok.ensures.goes_on);
  waited = λ tells. paused-both watch_pause (g.W.Waiter.waited c.args.waiter.now) (g.W.Waiter.waited c.loop-quiet.waiter) (g.W.Waiter.waited c.pause.new.self)
      (c.loop-quiet.invariant.waited tells) (paused-one watch_pause c.pause.result (g.W.Waiter.waited c.loop-quiet.waiter) (g.W.Waiter.waited c.pause.new.self) (c.pause.ensures.counted tells).0);
  clock = c.in-Ok.ensures.calm ∙ c.loop-quiet.invariant.clock;
  closes = λ less. elim c.match-pause.branch [
    | in-Close+else-quiet-idle w ↦ absurd (omega (arith, less, w.if-quiet-idle.false))
    | in_default w ↦ not-closed c.pause.result (g.W.Waiter.closes c.loop-quiet.waiter) (g.W.Waiter.closes c.pause.new.self) (λ is. w.in_default.not-Close is) c.pause.ensures.cause
        ∙ c.loop-quiet.invariant.closes (omega (arith, less))
  ];
}

-- ---- pauses that said Close

pub returns-in-Err-clause-closes : goal.returns-in-Err-clause-closes
returns-in-Err-clause-closes g c = λ tells. closed-cut c.in-Err.end (g.W.Waiter.waited c.args.waiter.now).closes (g.W.Waiter.waited c.loop-quiet.waiter).closes c.in-Err.ensures.cut
    (c.loop-quiet.invariant.waited tells).closes

pub returns-then-quiet-idle-clause-closes : goal.returns-then-quiet-idle-clause-closes
returns-then-quiet-idle-clause-closes g c = λ tells.
    closed-both false true (g.W.Waiter.waited c.args.waiter.now).closes (g.W.Waiter.waited c.loop-quiet.waiter).closes (g.W.Waiter.waited c.pause.new.self).closes
    (c.loop-quiet.invariant.waited tells).closes
    (closed-close c.pause.result watch_pause (g.W.Waiter.waited c.loop-quiet.waiter) (g.W.Waiter.waited c.pause.new.self) c.in-Close.is (c.pause.ensures.counted tells).0)

pub returns-clause-closes : goal.returns-clause-closes
returns-clause-closes g c = λ tells. (c.loop-quiet.invariant.waited tells).closes

-- a call at least was answered
pub returns-in-Err-clause-called : goal.returns-in-Err-clause-called
returns-in-Err-clause-called g c = called-cut c.args.idle (entries_at (g.G.Desk.seen c.args.pass.now) (g.G.Desk.mine c.args.pass.now)) (entries_at (g.G.Desk.seen c.loop-quiet.pass) (g.G.Desk.mine c.loop-quiet.pass)) (entries_at (g.G.Desk.seen c.take_turn.new.pass) (g.G.Desk.mine c.take_turn.new.pass)) c.in-Err.end
    (lasts-longer c.args.idle g.W.Waiter.tells c.loop-quiet.quiet (entries_at (g.G.Desk.seen c.args.pass.now) (g.G.Desk.mine c.args.pass.now)) (entries_at (g.G.Desk.seen c.loop-quiet.pass) (g.G.Desk.mine c.loop-quiet.pass)) (g.W.Waiter.waited c.args.waiter.now).pauses (g.W.Waiter.waited c.loop-quiet.waiter).pauses c.loop-quiet.invariant.lasts) c.in-Err.ensures.cut c.in-Err.ensures.called

pub returns-then-quiet-idle-clause-called : goal.returns-then-quiet-idle-clause-called
returns-then-quiet-idle-clause-called g c =
    let before = lasts-longer c.args.idle g.W.Waiter.tells c.loop-quiet.quiet (entries_at (g.G.Desk.seen c.args.pass.now) (g.G.Desk.mine c.args.pass.now)) (entries_at (g.G.Desk.seen c.loop-quiet.pass) (g.G.Desk.mine c.loop-quiet.pass)) (g.W.Waiter.waited c.args.waiter.now).pauses (g.W.Waiter.waited c.loop-quiet.waiter).pauses c.loop-quiet.invariant.lasts in
    let one = one-longer (entries_at (g.G.Desk.seen c.loop-quiet.pass) (g.G.Desk.mine c.loop-quiet.pass)) (entries_at (g.G.Desk.seen c.take_turn.new.pass) (g.G.Desk.mine c.take_turn.new.pass)) c.in-Ok.ensures.adds.entry c.in-Ok.ensures.adds.grew in
    omega (arith, before, one)

pub returns-clause-called : goal.returns-clause-called
returns-clause-called g c = λ some. lasts-called c.args.idle g.W.Waiter.tells c.loop-quiet.quiet (entries_at (g.G.Desk.seen c.args.pass.now) (g.G.Desk.mine c.args.pass.now)) (entries_at (g.G.Desk.seen c.loop-quiet.pass) (g.G.Desk.mine c.loop-quiet.pass)) (g.W.Waiter.waited c.args.waiter.now).pauses (g.W.Waiter.waited c.loop-quiet.waiter).pauses c.loop-quiet.invariant.lasts
    (omega (arith, some, c.loop-quiet-test.false))
