use Rattle.std.proofs.Common.{◌+◌, ◌≤◌, length, drop, subst, arith, ◌∙◌}
use Rattle.boss_lock.specs.Places.{entries_at}
use Rattle.def_guards.specs.Acts.{due_from}
use Rattle.boss_guard.specs.Trying.{Swept}
use Rattle.boss_guard.proofs.Holding.{due_behind}
use Rattle.boss_guard.proofs.Trials.{stand, watch}
use Rattle.boss_guard.proofs.Sweeps.{cut_placed, swept_then, swept_cut}
use Rattle.boss_guard.proofs.sweeping.sweep.Goals as goal

-- an end cut the trial of a want
pub returns-in-Err-clause-cut : goal.returns-in-Err-clause-cut
returns-in-Err-clause-cut g c =
    let old = stand (entries_at (g.G.Desk.seen c.args.pass.now) (g.G.Desk.mine c.args.pass.now)) (g.C.Clock.given c.args.clock.now) (g.A.Actuators.whole c.args.devices.now)
    (g.A.Actuators.calls c.args.devices.now) in
    let mid = stand (entries_at (g.G.Desk.seen c.loop-place.pass) (g.G.Desk.mine c.loop-place.pass)) (g.C.Clock.given c.loop-place.clock) (g.A.Actuators.whole c.loop-place.devices)
    (g.A.Actuators.calls c.loop-place.devices) in
    let new = stand (entries_at (g.G.Desk.seen c.try_place.new.pass) (g.G.Desk.mine c.try_place.new.pass)) (g.C.Clock.given c.try_place.new.clock) (g.A.Actuators.whole c.try_place.new.devices)
    (g.A.Actuators.calls c.try_place.new.devices) in
    let between = watch c.loop-place.now c.loop-place.guards in
    let place = c.loop-place.place in
    let skipped = c.args.skipped.now in
    swept_cut g.C.Clock.tells g.A.Actuators.tells old mid new (watch c.args.now.now c.args.guards.now) (due_from 0 skipped c.args.guards.now) between
    (due_from place skipped (drop place c.loop-place.guards)) c.loop-place.written c.loop-place.invariant.swept c.in-Err.end
    (cut_placed g.C.Clock.tells g.A.Actuators.tells mid new between skipped place c.in-Err.end c.in-Err.ensures.cut)

pub loop-place-preserved : goal.loop-place-preserved
loop-place-preserved g c =
    let old = stand (entries_at (g.G.Desk.seen c.args.pass.now) (g.G.Desk.mine c.args.pass.now)) (g.C.Clock.given c.args.clock.now) (g.A.Actuators.whole c.args.devices.now)
    (g.A.Actuators.calls c.args.devices.now) in
    let mid = stand (entries_at (g.G.Desk.seen c.loop-place.pass) (g.G.Desk.mine c.loop-place.pass)) (g.C.Clock.given c.loop-place.clock) (g.A.Actuators.whole c.loop-place.devices)
    (g.A.Actuators.calls c.loop-place.devices) in
    let new = stand (entries_at (g.G.Desk.seen c.try_place.new.pass) (g.G.Desk.mine c.try_place.new.pass)) (g.C.Clock.given c.try_place.new.clock) (g.A.Actuators.whole c.try_place.new.devices)
    (g.A.Actuators.calls c.try_place.new.devices) in
    let place = c.loop-place.place in
    let skipped = c.args.skipped.now in
    record {
      own = c.try_place.ensures.own;
      parts = c.try_place.ensures.parts ∙ c.loop-place.invariant.parts;
      swept = swept_then g.C.Clock.tells g.A.Actuators.tells old mid new (watch c.args.now.now c.args.guards.now) (due_from 0 skipped c.args.guards.now)
          (watch c.loop-place.now c.loop-place.guards) (due_from place skipped (drop place c.loop-place.guards)) c.loop-place.written c.loop-place.invariant.swept
          (watch c.try_place.new.now c.try_place.new.guards) (due_from (place + 1) skipped (drop (place + 1) c.try_place.new.guards)) c.in-Ok.one c.in-Ok.ensures.placed;
      long = c.try_place.ensures.long ∙ c.loop-place.invariant.long;
      soon = c.in-Ok.ensures.soon;
      clock = c.in-Ok.ensures.clock ∙ c.loop-place.invariant.clock;
    }

-- no point is left
pub returns-clause-swept : goal.returns-clause-swept
returns-clause-swept g c =
    let old = stand (entries_at (g.G.Desk.seen c.args.pass.now) (g.G.Desk.mine c.args.pass.now)) (g.C.Clock.given c.args.clock.now) (g.A.Actuators.whole c.args.devices.now)
    (g.A.Actuators.calls c.args.devices.now) in
    let mid = stand (entries_at (g.G.Desk.seen c.loop-place.pass) (g.G.Desk.mine c.loop-place.pass)) (g.C.Clock.given c.loop-place.clock) (g.A.Actuators.whole c.loop-place.devices)
    (g.A.Actuators.calls c.loop-place.devices) in
    let long : length c.loop-place.guards ≤ c.loop-place.place = omega (arith, c.loop-place.invariant.long) in
    subst (λ left. Swept g.C.Clock.tells g.A.Actuators.tells old mid (watch c.args.now.now c.args.guards.now) (due_from 0 c.args.skipped.now c.args.guards.now)
    (watch c.loop-place.now c.loop-place.guards) left c.loop-place.written)
    (due_behind c.loop-place.guards c.loop-place.place c.args.skipped.now long) c.loop-place.invariant.swept
