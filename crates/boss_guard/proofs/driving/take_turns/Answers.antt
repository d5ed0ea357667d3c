use Rattle.std.proofs.Common.{◌+◌, ◌≤◌, refl, sym, ap, subst, arith, ◌∙◌}
use Rattle.boss_outside_server.specs.Pauses.{drive_pause, held_pause}
use Rattle.boss_outside_server.specs.declared.waited.Waited.{Waited}
use Rattle.def_lanes.specs.Waits.{PausedWithin}
use Rattle.def_lanes.proofs.WaitLemmas.{both-within, none-within, one-within}
use Rattle.boss_lock.specs.Places.{entries_at}
use Rattle.boss_expiry.specs.declared.end.WorkEnd.TheVariants.{Closed}
use Rattle.boss_drive.specs.Driving.{Stand}
use Rattle.boss_drive.proofs.Gains.{if_some, less_at_cut, none_of, not_closed}
use Rattle.boss_guard.specs.Trying.{TookTurn}
use Rattle.boss_guard.proofs.Trials.{watch}
use Rattle.boss_guard.proofs.Turned.{took_none, took_idle, took_written, ends_cut, ends_whole}
use Rattle.boss_guard.proofs.driving.take_turns.Goals as goal
use Rattle.boss_guard.proofs.driving.take_turns.Goals.{in-Some+in-Close+else-number-turns, in-Some+in_default-pause, in_default}

-- no turn yet
pub loop-number-init : goal.loop-number-init
loop-number-init g c = record {
  own = c.requires.own;
  parts = refl;
  took = took_none (g.G.Desk.plant c.args.desk.now) c.args.driver c.args.guards.now g.C.Clock.tells g.A.Actuators.tells
      (record { own = entries_at (g.G.Desk.seen c.args.pass.now) (g.G.Desk.mine c.args.pass.now); given = g.C.Clock.given c.args.clock.now; whole = g.A.Actuators.whole c.args.devices.now; calls = g.A.Actuators.calls c.args.devices.now })
      g.W.Waiter.tells (g.W.Waiter.waited c.args.waiter.now).pauses;
  long = refl;
  soon = omega arith;
  waited = λ tells. none-within held_pause drive_pause (g.W.Waiter.waited c.args.waiter.now);
  clock = refl;
  closes = λ _. refl;
}

-- the clock or the disk ended the work in this turn
pub returns-in-Err-clause-turned : goal.returns-in-Err-clause-turned
returns-in-Err-clause-turned g c =
    let old : Stand = record { own = entries_at (g.G.Desk.seen c.args.pass.now) (g.G.Desk.mine c.args.pass.now); given = g.C.Clock.given c.args.clock.now; whole = g.A.Actuators.whole c.args.devices.now; calls = g.A.Actuators.calls c.args.devices.now } in
    let mid : Stand = record { own = entries_at (g.G.Desk.seen c.loop-number.pass) (g.G.Desk.mine c.loop-number.pass); given = g.C.Clock.given c.loop-number.clock; whole = g.A.Actuators.whole c.loop-number.devices; calls = g.A.Actuators.calls c.loop-number.devices } in
    let new : Stand = record { own = entries_at (g.G.Desk.seen c.turn.new.pass) (g.G.Desk.mine c.turn.new.pass); given = g.C.Clock.given c.turn.new.clock; whole = g.A.Actuators.whole c.turn.new.devices; calls = g.A.Actuators.calls c.turn.new.devices } in
    let pauses = (g.W.Waiter.waited c.args.waiter.now).pauses in
    let pauses' = (g.W.Waiter.waited c.loop-number.waiter).pauses in
    let before = watch c.loop-number.now c.loop-number.guards in
    ends_cut (g.G.Desk.plant c.args.desk.now) c.args.driver c.args.guards.now g.C.Clock.tells g.A.Actuators.tells old mid new g.W.Waiter.tells pauses pauses' pauses' c.loop-number.number before c.loop-number.invariant.took c.args.turns c.in-Err.end c.in-Err.ensures.cut
    (less_at_cut (g.G.Desk.seen c.turn.new.pass) c.loop-number.number c.args.turns c.in-Err.end c.in-Err.ensures.disk_cause c.loop-number-test.true)

-- the turns up to this pause were whole
pub returns-then-number-turns-clause-turned : goal.returns-then-number-turns-clause-turned
returns-then-number-turns-clause-turned g c =
    let old : Stand = record { own = entries_at (g.G.Desk.seen c.args.pass.now) (g.G.Desk.mine c.args.pass.now); given = g.C.Clock.given c.args.clock.now; whole = g.A.Actuators.whole c.args.devices.now; calls = g.A.Actuators.calls c.args.devices.now } in
    let mid : Stand = record { own = entries_at (g.G.Desk.seen c.loop-number.pass) (g.G.Desk.mine c.loop-number.pass); given = g.C.Clock.given c.loop-number.clock; whole = g.A.Actuators.whole c.loop-number.devices; calls = g.A.Actuators.calls c.loop-number.devices } in
    let new : Stand = record { own = entries_at (g.G.Desk.seen c.turn.new.pass) (g.G.Desk.mine c.turn.new.pass); given = g.C.Clock.given c.turn.new.clock; whole = g.A.Actuators.whole c.turn.new.devices; calls = g.A.Actuators.calls c.turn.new.devices } in
    let pauses = (g.W.Waiter.waited c.args.waiter.now).pauses in
    let pauses' = (g.W.Waiter.waited c.loop-number.waiter).pauses in
    let before = watch c.loop-number.now c.loop-number.guards in
    let later = watch c.turn.new.now c.turn.new.guards in
    let pauses'' = (g.W.Waiter.waited c.pause.new.self).pauses in
    let turn = subst (λ rest. TookTurn g.C.Clock.tells g.A.Actuators.tells mid new (g.G.Desk.plant c.args.desk.now) c.args.driver before later rest) c.in-Some.is c.in-Ok.ensures.taken in
    let took = took_idle (g.G.Desk.plant c.args.desk.now) c.args.driver c.args.guards.now g.C.Clock.tells g.A.Actuators.tells old mid new g.W.Waiter.tells pauses pauses' pauses'' c.loop-number.number before c.loop-number.invariant.took later c.in-Some.milliseconds turn (λ tells. ap (λ (it : Waited). it.pauses) (c.pause.ensures.counted tells).0) in
    ends_whole (g.G.Desk.plant c.args.desk.now) c.args.driver c.args.guards.now g.C.Clock.tells g.A.Actuators.tells old new g.W.Waiter.tells pauses pauses'' (c.loop-number.number + 1) c.args.turns later Closed took tt
    (omega (arith, c.if-number-turns.true))

pub returns-then-number-turns-clause-waited : goal.returns-then-number-turns-clause-waited
returns-then-number-turns-clause-waited g c = λ tells. both-within held_pause drive_pause (g.W.Waiter.waited c.args.waiter.now) (g.W.Waiter.waited c.loop-number.waiter) (g.W.Waiter.waited c.pause.new.self)
    (c.loop-number.invariant.waited tells) (one-within held_pause drive_pause c.in-Some.milliseconds c.pause.result (g.W.Waiter.waited c.loop-number.waiter) (g.W.Waiter.waited c.pause.new.self)
    (if_some (λ rest. held_pause ≤ rest) c.in-Ok.rest c.in-Some.milliseconds c.in-Some.is c.in-Ok.ensures.least) (if_some (λ rest. rest ≤ drive_pause) c.in-Ok.rest c.in-Some.milliseconds c.in-Some.is c.in-Ok.ensures.most)
    (c.pause.ensures.counted tells).0)

-- one turn more was whole
pub loop-number-preserved : goal.loop-number-preserved
loop-number-preserved g c =
    let old : Stand = record { own = entries_at (g.G.Desk.seen c.args.pass.now) (g.G.Desk.mine c.args.pass.now); given = g.C.Clock.given c.args.clock.now; whole = g.A.Actuators.whole c.args.devices.now; calls = g.A.Actuators.calls c.args.devices.now } in
    let mid : Stand = record { own = entries_at (g.G.Desk.seen c.loop-number.pass) (g.G.Desk.mine c.loop-number.pass); given = g.C.Clock.given c.loop-number.clock; whole = g.A.Actuators.whole c.loop-number.devices; calls = g.A.Actuators.calls c.loop-number.devices } in
    let new : Stand = record { own = entries_at (g.G.Desk.seen c.turn.new.pass) (g.G.Desk.mine c.turn.new.pass); given = g.C.Clock.given c.turn.new.clock; whole = g.A.Actuators.whole c.turn.new.devices; calls = g.A.Actuators.calls c.turn.new.devices } in
    let pauses = (g.W.Waiter.waited c.args.waiter.now).pauses in
    let pauses' = (g.W.Waiter.waited c.loop-number.waiter).pauses in
    let before = watch c.loop-number.now c.loop-number.guards in
    let later = watch c.turn.new.now c.turn.new.guards in
    record {
      own = c.turn.ensures.own;
      parts = c.turn.ensures.parts ∙ c.loop-number.invariant.parts;
      took = elim c.match-rest.branch [
        | in-Some+in-Close+else-number-turns w ↦ took_idle (g.G.Desk.plant c.args.desk.now) c.args.driver c.args.guards.now g.C.Clock.tells g.A.Actuators.tells old mid new g.W.Waiter.tells pauses pauses' (g.W.Waiter.waited c.match-rest.waiter).pauses c.loop-number.number before c.loop-number.invariant.took later
            w.in-Some.milliseconds (subst (λ rest. TookTurn g.C.Clock.tells g.A.Actuators.tells mid new (g.G.Desk.plant c.args.desk.now) c.args.driver before later rest) w.in-Some.is c.in-Ok.ensures.taken)
            (λ tells. ap (λ it. (g.W.Waiter.waited it).pauses) w.waiter-is ∙ ap (λ (it : Waited). it.pauses) (w.pause.ensures.counted tells).0)
        | in-Some+in_default-pause w ↦ took_idle (g.G.Desk.plant c.args.desk.now) c.args.driver c.args.guards.now g.C.Clock.tells g.A.Actuators.tells old mid new g.W.Waiter.tells pauses pauses' (g.W.Waiter.waited c.match-rest.waiter).pauses c.loop-number.number before c.loop-number.invariant.took later
            w.in-Some.milliseconds (subst (λ rest. TookTurn g.C.Clock.tells g.A.Actuators.tells mid new (g.G.Desk.plant c.args.desk.now) c.args.driver before later rest) w.in-Some.is c.in-Ok.ensures.taken)
            (λ tells. ap (λ it. (g.W.Waiter.waited it).pauses) w.waiter-is ∙ ap (λ (it : Waited). it.pauses) (w.pause.ensures.counted tells).0)
        | in_default w ↦ took_written (g.G.Desk.plant c.args.desk.now) c.args.driver c.args.guards.now g.C.Clock.tells g.A.Actuators.tells old mid new g.W.Waiter.tells pauses pauses' (g.W.Waiter.waited c.match-rest.waiter).pauses c.loop-number.number before c.loop-number.invariant.took later
            (subst (λ rest. TookTurn g.C.Clock.tells g.A.Actuators.tells mid new (g.G.Desk.plant c.args.desk.now) c.args.driver before later rest) (none_of c.in-Ok.rest (λ n is. w.in_default.not-Some n is)) c.in-Ok.ensures.taken)
            (λ tells. ap (λ it. (g.W.Waiter.waited it).pauses) w.waiter-is)
      ];
      long = c.turn.ensures.long ∙ c.loop-number.invariant.long;
      soon = c.in-Ok.ensures.soon;
      waited = λ tells. elim c.match-rest.branch [
        | in-Some+in-Close+else-number-turns w ↦ subst (PausedWithin held_pause drive_pause (g.W.Waiter.waited c.args.waiter.now)) (sym (ap g.W.Waiter.waited w.waiter-is))
            (both-within held_pause drive_pause (g.W.Waiter.waited c.args.waiter.now) (g.W.Waiter.waited c.loop-number.waiter) (g.W.Waiter.waited w.pause.new.self)
            (c.loop-number.invariant.waited tells) (one-within held_pause drive_pause w.in-Some.milliseconds w.pause.result (g.W.Waiter.waited c.loop-number.waiter) (g.W.Waiter.waited w.pause.new.self)
            (if_some (λ rest. held_pause ≤ rest) c.in-Ok.rest w.in-Some.milliseconds w.in-Some.is c.in-Ok.ensures.least) (if_some (λ rest. rest ≤ drive_pause) c.in-Ok.rest w.in-Some.milliseconds w.in-Some.is c.in-Ok.ensures.most)
            (w.pause.ensures.counted tells).0))
        | in-Some+in_default-pause w ↦ subst (PausedWithin held_pause drive_pause (g.W.Waiter.waited c.args.waiter.now)) (sym (ap g.W.Waiter.waited w.waiter-is))
            (both-within held_pause drive_pause (g.W.Waiter.waited c.args.waiter.now) (g.W.Waiter.waited c.loop-number.waiter) (g.W.Waiter.waited w.pause.new.self)
            (c.loop-number.invariant.waited tells) (one-within held_pause drive_pause w.in-Some.milliseconds w.pause.result (g.W.Waiter.waited c.loop-number.waiter) (g.W.Waiter.waited w.pause.new.self)
            (if_some (λ rest. held_pause ≤ rest) c.in-Ok.rest w.in-Some.milliseconds w.in-Some.is c.in-Ok.ensures.least) (if_some (λ rest. rest ≤ drive_pause) c.in-Ok.rest w.in-Some.milliseconds w.in-Some.is c.in-Ok.ensures.most)
            (w.pause.ensures.counted tells).0))
        | in_default w ↦ subst (PausedWithin held_pause drive_pause (g.W.Waiter.waited c.args.waiter.now)) (sym (ap g.W.Waiter.waited w.waiter-is)) (c.loop-number.invariant.waited tells)
      ];
      clock = c.in-Ok.ensures.clock ∙ c.loop-number.invariant.clock;
      closes = λ less. elim c.match-rest.branch [
        | in-Some+in-Close+else-number-turns w ↦ absurd (omega (arith, less, w.if-number-turns.false))
        | in-Some+in_default-pause w ↦ ap g.W.Waiter.closes w.waiter-is ∙ not_closed w.pause.result (g.W.Waiter.closes c.loop-number.waiter)
            (g.W.Waiter.closes w.pause.new.self) (λ is. w.in_default-pause.not-Close is) w.pause.ensures.cause ∙ c.loop-number.invariant.closes (omega (arith, less))
        | in_default w ↦ ap g.W.Waiter.closes w.waiter-is ∙ c.loop-number.invariant.closes (omega (arith, less))
      ];
    }
