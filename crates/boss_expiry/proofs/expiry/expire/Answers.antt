use Rattle.std.proofs.Common.{◌+◌, refl, ap, arith, ◌∙◌}
use Rattle.boss_outside_server.specs.Pauses.{tick_pause}
use Rattle.boss_lock.specs.Places.{entries_at}
use Rattle.boss_outside_server.specs.declared.waited.Waited.{Waited}
use Rattle.def_lanes.proofs.WaitLemmas.{paused-none, paused-one, paused-both}
use Rattle.boss_expiry.specs.declared.end.WorkEnd.TheVariants.{Closed}
use Rattle.boss_expiry.proofs.Turns.{not_closed, took_none, took_more, ends_whole}
use Rattle.boss_expiry.proofs.expiry.expire.Goals as goal
use Rattle.boss_expiry.proofs.expiry.expire.Goals.{in-Close+else-turn-turns, in_default-pause}

-- no turn yet
pub loop-turn-init : goal.loop-turn-init
loop-turn-init g c =
    let own = entries_at (g.G.Desk.seen c.args.pass.now) (g.G.Desk.mine c.args.pass.now) in
    let given = g.C.Clock.given c.args.clock.now in
    let pauses = (g.W.Waiter.waited c.args.waiter.now).pauses in record {
      own = c.requires.own;
      parts = refl;
      took = took_none own own own g.C.Clock.tells given given given g.W.Waiter.tells pauses pauses pauses;
      waited = λ tells. paused-none tick_pause (g.W.Waiter.waited c.args.waiter.now);
      clock = refl;
      closes = λ _. refl;
    }

-- the turns up to this pause were whole
pub returns-then-turn-turns-clause-ticks : goal.returns-then-turn-turns-clause-ticks
returns-then-turn-turns-clause-ticks g c =
    let own = entries_at (g.G.Desk.seen c.args.pass.now) (g.G.Desk.mine c.args.pass.now) in
    let own' = entries_at (g.G.Desk.seen c.loop-turn.pass) (g.G.Desk.mine c.loop-turn.pass) in
    let own'' = entries_at (g.G.Desk.seen c.work.new.pass) (g.G.Desk.mine c.work.new.pass) in
    let given = g.C.Clock.given c.args.clock.now in
    let given' = g.C.Clock.given c.loop-turn.clock in
    let given'' = g.C.Clock.given c.now.new.self in
    let pauses = (g.W.Waiter.waited c.args.waiter.now).pauses in
    let pauses' = (g.W.Waiter.waited c.loop-turn.waiter).pauses in
    let pauses'' = (g.W.Waiter.waited c.pause.new.self).pauses in
    let took = took_more own own' own'' g.C.Clock.tells given given' given'' g.W.Waiter.tells pauses pauses' pauses'' c.loop-turn.turn c.in-Ok.moment
    c.in_default-work.field-0 c.loop-turn.invariant.took c.in_default-work.ensures.done c.in-Ok.ensures.moments (λ tells. ap (λ (it : Waited). it.pauses) (c.pause.ensures.counted tells).0) in
    ends_whole own own'' own'' g.C.Clock.tells given given'' given'' g.W.Waiter.tells pauses pauses'' pauses'' (c.loop-turn.turn + 1) c.args.turns Closed took
    refl refl (omega (arith, c.if-turn-turns.true))

pub returns-then-turn-turns-clause-waited : goal.returns-then-turn-turns-clause-waited
returns-then-turn-turns-clause-waited g c = λ tells. paused-both tick_pause (g.W.Waiter.waited c.args.waiter.now) (g.W.Waiter.waited c.loop-turn.waiter) (g.W.Waiter.waited c.pause.new.self)
    (c.loop-turn.invariant.waited tells) (paused-one tick_pause c.pause.result (g.W.Waiter.waited c.loop-turn.waiter) (g.W.Waiter.waited c.pause.new.self) (c.pause.ensures.counted tells).0)

-- one turn more was whole
pub loop-turn-preserved : goal.loop-turn-preserved
loop-turn-preserved g c =
    let own = entries_at (g.G.Desk.seen c.args.pass.now) (g.G.Desk.mine c.args.pass.now) in
    let own' = entries_at (g.G.Desk.seen c.loop-turn.pass) (g.G.Desk.mine c.loop-turn.pass) in
    let own'' = entries_at (g.G.Desk.seen c.work.new.pass) (g.G.Desk.mine c.work.new.pass) in
    let given = g.C.Clock.given c.args.clock.now in
    let given' = g.C.Clock.given c.loop-turn.clock in
    let given'' = g.C.Clock.given c.now.new.self in
    let pauses = (g.W.Waiter.waited c.args.waiter.now).pauses in
    let pauses' = (g.W.Waiter.waited c.loop-turn.waiter).pauses in
    let pauses'' = (g.W.Waiter.waited c.pause.new.self).pauses in record {
      own = c.work.ensures.own;
      parts = c.work.ensures.parts ∙ c.loop-turn.invariant.parts;
      took = took_more own own' own'' g.C.Clock.tells given given' given'' g.W.Waiter.tells pauses pauses' pauses'' c.loop-turn.turn c.in-Ok.moment
          c.in_default-work.field-0 c.loop-turn.invariant.took c.in_default-work.ensures.done c.in-Ok.ensures.moments
          (λ tells. ap (λ (it : Waited). it.pauses) (c.pause.ensures.counted tells).0);
      waited = λ tells. paused-both tick_pause (g.W.Waiter.waited c.args.waiter.now) (g.W.Waiter.waited c.loop-turn.waiter) (g.W.Waiter.waited c.pause.new.self)
          (c.loop-turn.invariant.waited tells) (paused-one tick_pause c.pause.result (g.W.Waiter.waited c.loop-turn.waiter) (g.W.Waiter.waited c.pause.new.self) (c.pause.ensures.counted tells).0);
      clock = c.in-Ok.ensures.cause.fine ∙ c.loop-turn.invariant.clock;
      closes = λ less. elim c.match-pause.branch [
        | in-Close+else-turn-turns w ↦ absurd (omega (arith, less, w.if-turn-turns.false))
        | in_default-pause w ↦ not_closed c.pause.result (g.W.Waiter.closes c.loop-turn.waiter) (g.W.Waiter.closes c.pause.new.self)
            (λ is. w.in_default-pause.not-Close is) c.pause.ensures.cause ∙ c.loop-turn.invariant.closes (omega (arith, less))
      ];
    }
