use Rattle.std.proofs.Common.{refl, sym, subst, ◌∙◌}
use Rattle.boss_lock.specs.Places.{entries_at}
use Rattle.boss_shared.specs.Passes.{IsPassOf}
use Rattle.def_guards.specs.Guards.{guards_of}
use Rattle.boss_drive.specs.Driving.{Driven, Stand}
use Rattle.boss_guard.specs.Guarding.{Guarded}
use Rattle.boss_worker.specs.Drove.{Drove, WasTold}
use Rattle.boss_worker.specs.Troubles.{ClockTrouble}
use Rattle.boss_worker.proofs.CauseLemmas.{broken-worked, clock-worked}
use Rattle.boss_worker.proofs.DroveLemmas.{drove-plain, drove-guarded, clock-guarded, broken-guarded, told-plain, told-guarded}
use Rattle.boss_worker.proofs.devices.drive_devices.Goals as goal

pub returns-then-is_guarded-clause-drove : goal.returns-then-is_guarded-clause-drove
returns-then-is_guarded-clause-drove g c =
    let old : Stand = record { own = entries_at (g.G.Desk.seen c.args.pass.now) (g.G.Desk.mine c.args.pass.now); given = g.C.Clock.given c.args.clock.now; whole = g.A.Actuators.whole c.args.devices.now; calls = g.A.Actuators.calls c.args.devices.now } in
    let new : Stand = record { own = entries_at (g.G.Desk.seen c.guarded_drive.new.pass) (g.G.Desk.mine c.guarded_drive.new.pass); given = g.C.Clock.given c.guarded_drive.new.clock; whole = g.A.Actuators.whole c.guarded_drive.new.devices; calls = g.A.Actuators.calls c.guarded_drive.new.devices } in
    let pass = subst (λ plant. IsPassOf plant (g.G.Desk.opening c.args.desk.now) (g.G.Desk.seen c.guarded_drive.new.pass) (g.G.Desk.mine c.guarded_drive.new.pass)) (sym c.requires.plant)
    (g.met.G.Desk.owned c.args.desk.now c.guarded_drive.new.pass c.guarded_drive.ensures.own) in
    subst (Drove c.args.catalogue.now c.args.driver g.C.Clock.tells g.A.Actuators.tells old new g.W.Waiter.tells (g.W.Waiter.waited c.guarded_drive.new.waiter).pauses) (sym c.guard_trouble.ensures)
    (drove-guarded c.args.catalogue.now (g.G.Desk.opening c.args.desk.now) (g.G.Desk.seen c.guarded_drive.new.pass) (g.G.Desk.mine c.guarded_drive.new.pass) c.args.driver g.C.Clock.tells g.A.Actuators.tells old new
    g.W.Waiter.tells (g.W.Waiter.waited c.args.waiter.now).pauses (g.W.Waiter.waited c.guarded_drive.new.waiter).pauses c.args.turns pass refl c.requires.paused c.guarded_drive.result (sym c.if-is_guarded.ensures)
    (subst (λ plant. Guarded plant c.args.driver (guards_of c.args.catalogue.now) g.C.Clock.tells g.A.Actuators.tells old new g.W.Waiter.tells
    (g.W.Waiter.waited c.args.waiter.now).pauses (g.W.Waiter.waited c.guarded_drive.new.waiter).pauses c.args.turns c.guarded_drive.result) (sym c.requires.plant) c.guarded_drive.ensures.guarded))

pub returns-then-is_guarded-clause-clock : goal.returns-then-is_guarded-clause-clock
returns-then-is_guarded-clause-clock g c = subst (ClockTrouble (g.C.Clock.faults c.args.clock.now) (g.C.Clock.faults c.guarded_drive.new.clock)) (sym c.guard_trouble.ensures)
    (clock-guarded c.guarded_drive.result (g.C.Clock.faults c.args.clock.now) (g.C.Clock.faults c.guarded_drive.new.clock) c.guarded_drive.ensures.clock)

pub returns-then-is_guarded-clause-disk : goal.returns-then-is_guarded-clause-disk
returns-then-is_guarded-clause-disk g c = λ is. broken-guarded c.guarded_drive.result (g.G.Desk.seen c.guarded_drive.new.pass) g.W.Waiter.tells (g.W.Waiter.waited c.guarded_drive.new.waiter).closed (g.W.Waiter.closes c.args.waiter.now) (g.W.Waiter.closes c.guarded_drive.new.waiter)
    c.guarded_drive.ensures.cause (sym c.guard_trouble.ensures ∙ is)

pub returns-then-is_guarded-clause-told : goal.returns-then-is_guarded-clause-told
returns-then-is_guarded-clause-told g c =
    let old : Stand = record { own = entries_at (g.G.Desk.seen c.args.pass.now) (g.G.Desk.mine c.args.pass.now); given = g.C.Clock.given c.args.clock.now; whole = g.A.Actuators.whole c.args.devices.now; calls = g.A.Actuators.calls c.args.devices.now } in
    let new : Stand = record { own = entries_at (g.G.Desk.seen c.guarded_drive.new.pass) (g.G.Desk.mine c.guarded_drive.new.pass); given = g.C.Clock.given c.guarded_drive.new.clock; whole = g.A.Actuators.whole c.guarded_drive.new.devices; calls = g.A.Actuators.calls c.guarded_drive.new.devices } in
    subst (WasTold old.own new.own g.W.Waiter.tells (g.W.Waiter.waited c.guarded_drive.new.waiter).closed c.args.turns) (sym c.guard_trouble.ensures)
    (told-guarded (g.G.Desk.plant c.args.desk.now) c.args.driver g.C.Clock.tells g.A.Actuators.tells old new g.W.Waiter.tells (g.W.Waiter.waited c.args.waiter.now).pauses (g.W.Waiter.waited c.guarded_drive.new.waiter).pauses c.args.turns
    (g.G.Desk.seen c.guarded_drive.new.pass) (g.W.Waiter.waited c.guarded_drive.new.waiter).closed (g.W.Waiter.closes c.args.waiter.now) (g.W.Waiter.closes c.guarded_drive.new.waiter) (guards_of c.args.catalogue.now) c.guarded_drive.result c.guarded_drive.ensures.guarded c.guarded_drive.ensures.cause)

pub returns-else-is_guarded-clause-drove : goal.returns-else-is_guarded-clause-drove
returns-else-is_guarded-clause-drove g c =
    let old : Stand = record { own = entries_at (g.G.Desk.seen c.args.pass.now) (g.G.Desk.mine c.args.pass.now); given = g.C.Clock.given c.args.clock.now; whole = g.A.Actuators.whole c.args.devices.now; calls = g.A.Actuators.calls c.args.devices.now } in
    let new : Stand = record { own = entries_at (g.G.Desk.seen c.drive.new.pass) (g.G.Desk.mine c.drive.new.pass); given = g.C.Clock.given c.drive.new.clock; whole = g.A.Actuators.whole c.drive.new.devices; calls = g.A.Actuators.calls c.drive.new.devices } in
    let pass = subst (λ plant. IsPassOf plant (g.G.Desk.opening c.args.desk.now) (g.G.Desk.seen c.drive.new.pass) (g.G.Desk.mine c.drive.new.pass)) (sym c.requires.plant)
    (g.met.G.Desk.owned c.args.desk.now c.drive.new.pass c.drive.ensures.own) in
    subst (Drove c.args.catalogue.now c.args.driver g.C.Clock.tells g.A.Actuators.tells old new g.W.Waiter.tells (g.W.Waiter.waited c.drive.new.waiter).pauses) (sym c.work_trouble.ensures)
    (drove-plain c.args.catalogue.now (g.G.Desk.opening c.args.desk.now) (g.G.Desk.seen c.drive.new.pass) (g.G.Desk.mine c.drive.new.pass) c.args.driver g.C.Clock.tells g.A.Actuators.tells old new
    g.W.Waiter.tells (g.W.Waiter.waited c.args.waiter.now).pauses (g.W.Waiter.waited c.drive.new.waiter).pauses c.args.turns pass refl c.requires.paused c.drive.result (sym c.if-is_guarded.ensures)
    (subst (λ plant. Driven plant c.args.driver g.C.Clock.tells g.A.Actuators.tells old new g.W.Waiter.tells
    (g.W.Waiter.waited c.args.waiter.now).pauses (g.W.Waiter.waited c.drive.new.waiter).pauses c.args.turns c.drive.result) (sym c.requires.plant) c.drive.ensures.driven))

pub returns-else-is_guarded-clause-clock : goal.returns-else-is_guarded-clause-clock
returns-else-is_guarded-clause-clock g c = subst (ClockTrouble (g.C.Clock.faults c.args.clock.now) (g.C.Clock.faults c.drive.new.clock)) (sym c.work_trouble.ensures)
    (clock-worked c.drive.result (g.C.Clock.faults c.args.clock.now) (g.C.Clock.faults c.drive.new.clock) c.drive.ensures.clock)

pub returns-else-is_guarded-clause-disk : goal.returns-else-is_guarded-clause-disk
returns-else-is_guarded-clause-disk g c = λ is. broken-worked c.drive.result (g.G.Desk.seen c.drive.new.pass) g.W.Waiter.tells (g.W.Waiter.waited c.drive.new.waiter).closed (g.W.Waiter.closes c.args.waiter.now) (g.W.Waiter.closes c.drive.new.waiter)
    c.drive.ensures.cause (sym c.work_trouble.ensures ∙ is)

pub returns-else-is_guarded-clause-told : goal.returns-else-is_guarded-clause-told
returns-else-is_guarded-clause-told g c =
    let old : Stand = record { own = entries_at (g.G.Desk.seen c.args.pass.now) (g.G.Desk.mine c.args.pass.now); given = g.C.Clock.given c.args.clock.now; whole = g.A.Actuators.whole c.args.devices.now; calls = g.A.Actuators.calls c.args.devices.now } in
    let new : Stand = record { own = entries_at (g.G.Desk.seen c.drive.new.pass) (g.G.Desk.mine c.drive.new.pass); given = g.C.Clock.given c.drive.new.clock; whole = g.A.Actuators.whole c.drive.new.devices; calls = g.A.Actuators.calls c.drive.new.devices } in
    subst (WasTold old.own new.own g.W.Waiter.tells (g.W.Waiter.waited c.drive.new.waiter).closed c.args.turns) (sym c.work_trouble.ensures)
    (told-plain (g.G.Desk.plant c.args.desk.now) c.args.driver g.C.Clock.tells g.A.Actuators.tells old new g.W.Waiter.tells (g.W.Waiter.waited c.args.waiter.now).pauses (g.W.Waiter.waited c.drive.new.waiter).pauses c.args.turns
    (g.G.Desk.seen c.drive.new.pass) (g.W.Waiter.waited c.drive.new.waiter).closed (g.W.Waiter.closes c.args.waiter.now) (g.W.Waiter.closes c.drive.new.waiter) c.drive.result c.drive.ensures.driven c.drive.ensures.cause)
