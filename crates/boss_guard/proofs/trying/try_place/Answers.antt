use Rattle.boss_lock.specs.Places.{entries_at}
use Rattle.boss_guard.proofs.Trials.{stand, watch}
use Rattle.boss_guard.proofs.Sweeps.{placed_if, placed_cut_if}
use Rattle.boss_guard.proofs.trying.try_place.Goals as goal

pub returns-in-Some-clause-placed : goal.returns-in-Some-clause-placed
returns-in-Some-clause-placed g c =
    let old = stand (entries_at (g.G.Desk.seen c.args.pass.now) (g.G.Desk.mine c.args.pass.now)) (g.C.Clock.given c.args.clock.now) (g.A.Actuators.whole c.args.devices.now)
    (g.A.Actuators.calls c.args.devices.now) in
    let new = stand (entries_at (g.G.Desk.seen c.try_want.new.pass) (g.G.Desk.mine c.try_want.new.pass)) (g.C.Clock.given c.try_want.new.clock) (g.A.Actuators.whole c.try_want.new.devices)
    (g.A.Actuators.calls c.try_want.new.devices) in
    placed_if g.C.Clock.tells g.A.Actuators.tells old new (watch c.args.now.now c.args.guards.now) c.in-Some.want (watch c.try_want.new.now c.try_want.new.guards)
    c.args.skipped.now c.args.place c.try_want.result c.in-Some.ensures.known c.in-Some.ensures.due c.try_want.ensures.tried

pub returns-in-Some-clause-cut : goal.returns-in-Some-clause-cut
returns-in-Some-clause-cut g c =
    let old = stand (entries_at (g.G.Desk.seen c.args.pass.now) (g.G.Desk.mine c.args.pass.now)) (g.C.Clock.given c.args.clock.now) (g.A.Actuators.whole c.args.devices.now)
    (g.A.Actuators.calls c.args.devices.now) in
    let new = stand (entries_at (g.G.Desk.seen c.try_want.new.pass) (g.G.Desk.mine c.try_want.new.pass)) (g.C.Clock.given c.try_want.new.clock) (g.A.Actuators.whole c.try_want.new.devices)
    (g.A.Actuators.calls c.try_want.new.devices) in
    placed_cut_if g.C.Clock.tells g.A.Actuators.tells old new (watch c.args.now.now c.args.guards.now) c.in-Some.want
    c.args.skipped.now c.args.place c.try_want.result c.in-Some.ensures.due c.try_want.ensures.cut
