use Rattle.std.proofs.Common.{Some, [], ◌∷◌}
use Rattle.boss_lock.specs.Places.{entries_at}
use Rattle.def_guards.specs.Acts.{due_from}
use Rattle.boss_guard.proofs.Trials.{stand, watch}
use Rattle.boss_guard.proofs.Sweeps.{cut_swept, one_given, swept_then, swept_cut}
use Rattle.boss_guard.proofs.sweeping.try_given.Goals as goal

-- an end cut the trial of the given want
pub returns-in-Err-clause-cut : goal.returns-in-Err-clause-cut
returns-in-Err-clause-cut g c =
    let old = stand (entries_at (g.G.Desk.seen c.args.pass.now) (g.G.Desk.mine c.args.pass.now)) (g.C.Clock.given c.args.clock.now) (g.A.Actuators.whole c.args.devices.now)
    (g.A.Actuators.calls c.args.devices.now) in
    let new = stand (entries_at (g.G.Desk.seen c.try_want.new.pass) (g.G.Desk.mine c.try_want.new.pass)) (g.C.Clock.given c.try_want.new.clock) (g.A.Actuators.whole c.try_want.new.devices)
    (g.A.Actuators.calls c.try_want.new.devices) in
    cut_swept g.C.Clock.tells g.A.Actuators.tells old new (watch c.args.now.now c.args.guards.now) c.args.want.now
    (due_from 0 (Some c.args.want.now.point) c.args.guards.now) c.in-Err.end c.in-Err.ensures.cut

-- or that of a held one
pub returns-in-Err-sweep-clause-cut : goal.returns-in-Err-sweep-clause-cut
returns-in-Err-sweep-clause-cut g c =
    let old = stand (entries_at (g.G.Desk.seen c.args.pass.now) (g.G.Desk.mine c.args.pass.now)) (g.C.Clock.given c.args.clock.now) (g.A.Actuators.whole c.args.devices.now)
    (g.A.Actuators.calls c.args.devices.now) in
    let mid = stand (entries_at (g.G.Desk.seen c.try_want.new.pass) (g.G.Desk.mine c.try_want.new.pass)) (g.C.Clock.given c.try_want.new.clock) (g.A.Actuators.whole c.try_want.new.devices)
    (g.A.Actuators.calls c.try_want.new.devices) in
    let new = stand (entries_at (g.G.Desk.seen c.sweep.new.pass) (g.G.Desk.mine c.sweep.new.pass)) (g.C.Clock.given c.sweep.new.clock) (g.A.Actuators.whole c.sweep.new.devices)
    (g.A.Actuators.calls c.sweep.new.devices) in
    let before = watch c.args.now.now c.args.guards.now in
    let between = watch c.try_want.new.now c.try_want.new.guards in
    let want = c.args.want.now in
    swept_cut g.C.Clock.tells g.A.Actuators.tells old mid new before (want ∷ due_from 0 (Some want.point) c.args.guards.now) between
    (due_from 0 (Some want.point) c.try_want.new.guards) c.in-Ok.written
    (one_given g.C.Clock.tells g.A.Actuators.tells old mid before want between c.in-Ok.written c.in-Ok.ensures.tried) c.in-Err-sweep.end c.in-Err-sweep.ensures.cut

pub returns-in-Ok-sweep-clause-swept : goal.returns-in-Ok-sweep-clause-swept
returns-in-Ok-sweep-clause-swept g c =
    let old = stand (entries_at (g.G.Desk.seen c.args.pass.now) (g.G.Desk.mine c.args.pass.now)) (g.C.Clock.given c.args.clock.now) (g.A.Actuators.whole c.args.devices.now)
    (g.A.Actuators.calls c.args.devices.now) in
    let mid = stand (entries_at (g.G.Desk.seen c.try_want.new.pass) (g.G.Desk.mine c.try_want.new.pass)) (g.C.Clock.given c.try_want.new.clock) (g.A.Actuators.whole c.try_want.new.devices)
    (g.A.Actuators.calls c.try_want.new.devices) in
    let new = stand (entries_at (g.G.Desk.seen c.sweep.new.pass) (g.G.Desk.mine c.sweep.new.pass)) (g.C.Clock.given c.sweep.new.clock) (g.A.Actuators.whole c.sweep.new.devices)
    (g.A.Actuators.calls c.sweep.new.devices) in
    let before = watch c.args.now.now c.args.guards.now in
    let between = watch c.try_want.new.now c.try_want.new.guards in
    let want = c.args.want.now in
    swept_then g.C.Clock.tells g.A.Actuators.tells old mid new before (want ∷ due_from 0 (Some want.point) c.args.guards.now) between
    (due_from 0 (Some want.point) c.try_want.new.guards) c.in-Ok.written
    (one_given g.C.Clock.tells g.A.Actuators.tells old mid before want between c.in-Ok.written c.in-Ok.ensures.tried)
    (watch c.sweep.new.now c.sweep.new.guards) [] c.in-Ok-sweep.more c.in-Ok-sweep.ensures.swept
