use Rattle.std.proofs.Common.{◌≡◌, rules, set, true, false}
use Rattle.boss_lock.specs.Places.{entries_at}
use Rattle.def_guards.specs.Guards.{holding, written}
use Rattle.def_guards.specs.Acts.{decided, guard_at, held_by}
use Rattle.boss_guard.specs.Trying.{Judged, JudgedCut}
use Rattle.boss_guard.proofs.Trials.{stand, tried_kept, tried_written, tried_cut_read, tried_cut_write}
use Rattle.boss_guard.proofs.trying.try_want.Goals as goal

-- the disk failed at the reading
pub returns-in-Err-clause-cut : goal.returns-in-Err-clause-cut
returns-in-Err-clause-cut g c =
    let own = entries_at (g.G.Desk.seen c.args.pass.now) (g.G.Desk.mine c.args.pass.now) in
    let own' = entries_at (g.G.Desk.seen c.judge.new.pass) (g.G.Desk.mine c.judge.new.pass) in
    let seen = g.G.Desk.seen c.judge.new.pass in
    let judged : JudgedCut (guard_at c.args.guards.now c.args.want.now.point) (decided c.args.want.now c.args.now.now) own own' seen c.in-Err.end = search rules in
    tried_cut_read g.C.Clock.tells g.A.Actuators.tells own own' (g.C.Clock.given c.args.clock.now) (g.A.Actuators.whole c.args.devices.now) (g.A.Actuators.calls c.args.devices.now)
    c.args.now.now c.args.guards.now c.args.want.now seen c.in-Err.end judged

-- the want is held
pub returns-then-not-free-clause-tried : goal.returns-then-not-free-clause-tried
returns-then-not-free-clause-tried g c =
    let own = entries_at (g.G.Desk.seen c.args.pass.now) (g.G.Desk.mine c.args.pass.now) in
    let own' = entries_at (g.G.Desk.seen c.judge.new.pass) (g.G.Desk.mine c.judge.new.pass) in
    let guards = c.args.guards.now in
    let want = c.args.want.now in
    let judged : Judged (guard_at guards want.point) (decided want c.args.now.now) own own' false = search rules in
    let is : set guards c.want.inside.0.0.0 c.holding.result ≡ set guards want.point (holding (held_by (decided want c.args.now.now)) (guard_at guards want.point)) = search rules in
    tried_kept g.C.Clock.tells g.A.Actuators.tells own own' (g.C.Clock.given c.args.clock.now) (g.A.Actuators.whole c.args.devices.now) (g.A.Actuators.calls c.args.devices.now)
    c.args.now.now guards want judged (set guards c.want.inside.0.0.0 c.holding.result) is

-- the write was cut
pub returns-in-Err-write-clause-cut : goal.returns-in-Err-write-clause-cut
returns-in-Err-write-clause-cut g c =
    let own = entries_at (g.G.Desk.seen c.args.pass.now) (g.G.Desk.mine c.args.pass.now) in
    let own' = entries_at (g.G.Desk.seen c.judge.new.pass) (g.G.Desk.mine c.judge.new.pass) in
    let new = stand (entries_at (g.G.Desk.seen c.write.new.pass) (g.G.Desk.mine c.write.new.pass)) (g.C.Clock.given c.write.new.clock) (g.A.Actuators.whole c.write.new.devices)
    (g.A.Actuators.calls c.write.new.devices) in
    let judged : Judged (guard_at c.args.guards.now c.args.want.now.point) (decided c.args.want.now c.args.now.now) own own' true = search rules in
    tried_cut_write g.C.Clock.tells g.A.Actuators.tells own own' (g.C.Clock.given c.args.clock.now) (g.A.Actuators.whole c.args.devices.now) (g.A.Actuators.calls c.args.devices.now)
    c.args.now.now c.args.guards.now c.args.want.now judged new c.in-Err-write.end c.in-Err-write.ensures.cut

-- the want is written
pub returns-clause-tried : goal.returns-clause-tried
returns-clause-tried g c =
    let own = entries_at (g.G.Desk.seen c.args.pass.now) (g.G.Desk.mine c.args.pass.now) in
    let own' = entries_at (g.G.Desk.seen c.judge.new.pass) (g.G.Desk.mine c.judge.new.pass) in
    let new = stand (entries_at (g.G.Desk.seen c.write.new.pass) (g.G.Desk.mine c.write.new.pass)) (g.C.Clock.given c.write.new.clock) (g.A.Actuators.whole c.write.new.devices)
    (g.A.Actuators.calls c.write.new.devices) in
    let guards = c.args.guards.now in
    let want = c.args.want.now in
    let judged : Judged (guard_at guards want.point) (decided want c.args.now.now) own own' true = search rules in
    let is : set guards c.want.inside.0.0.0 c.written.result ≡ set guards want.point (written want.value c.args.now.now (guard_at guards want.point)) = search rules in
    tried_written g.C.Clock.tells g.A.Actuators.tells own own' (g.C.Clock.given c.args.clock.now) (g.A.Actuators.whole c.args.devices.now) (g.A.Actuators.calls c.args.devices.now)
    c.args.now.now guards want judged new c.write.new.now (set guards c.want.inside.0.0.0 c.written.result) c.in_default.ensures.written is
