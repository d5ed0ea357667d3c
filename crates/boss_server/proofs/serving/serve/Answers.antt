use Rattle.std.proofs.Common.{◌≡◌, ℕ, ◌+◌, ◌≤◌, Bool, List, [], ◌++◌, length, take, drop, vec_len, vec_capacity, Vec, Global, refl, sym, ap, ◌∙◌, subst, arith, append-nil, length-append, option_copied}
use Rattle.boss_worker.specs.Desks.{own_of}
use Rattle.boss_worker.specs.Saying.{terms_of}
use Rattle.boss_worker.specs.Workers.{share_at, was_at, IsReady}
use Rattle.boss_server.specs.Accounts.{Account}
use Rattle.boss_server.specs.Hosted.{hosted_at}
use Rattle.boss_server.specs.Making.{StaysClock, StaysHost}
use Rattle.boss_server.specs.Turns.{devices_of, shares_of, AllInTurn}
use Rattle.boss_server.proofs.AccountLemmas.{account-from, clock-stays, front-taken, gains-from, host-stays, on-ok}
use Rattle.boss_outside_server.specs.declared.waited.Waited.{Waited}
use Rattle.boss_server.proofs.serving.serve.Goals as goal

pub returns-then-is_err-clause-waiter : goal.returns-then-is_err-clause-waiter
returns-then-is_err-clause-waiter g c = record { notes = []; noted = λ told. sym (append-nil (g.W.Waiter.waits c.args.outside.now.waiter.now)); unpaused = λ told. tt }

pub returns-then-is_err-2-clause-host : goal.returns-then-is_err-2-clause-host
returns-then-is_err-2-clause-host g c = host-stays g.H.Host c.args.outside.now.host.now c.make_all.new.outside.host.now c.return_all.new.outside.host.now c.make_all.ensures.host c.return_all.ensures.host

pub returns-then-is_err-2-clause-listens : goal.returns-then-is_err-2-clause-listens
returns-then-is_err-2-clause-listens g c told = c.return_all.ensures.host.listens told ∙ c.make_all.ensures.host.listens told

pub returns-then-is_err-2-clause-clock : goal.returns-then-is_err-2-clause-clock
returns-then-is_err-2-clause-clock g c = clock-stays g.C.Clock c.args.outside.now.clock.now c.make_all.new.outside.clock.now c.return_all.new.outside.clock.now c.make_all.ensures.clock c.return_all.ensures.clock

pub returns-then-is_err-2-clause-waiter : goal.returns-then-is_err-2-clause-waiter
returns-then-is_err-2-clause-waiter g c = gains-from g.W.Waiter.tells (g.W.Waiter.waits c.make_all.new.outside.waiter.now) (g.W.Waiter.waits c.args.outside.now.waiter.now) (g.W.Waiter.waits c.return_all.new.outside.waiter.now)
    (λ told. c.make_all.ensures.waiter.waits told ∙ (c.expect.ensures.expects told).1) c.return_all.ensures.waiter

pub return_all-requires-in-Err-clause-ready : goal.return_all-requires-in-Err-clause-ready
return_all-requires-in-Err-clause-ready g c = subst (λ items. AllInTurn items 0 (λ number worker. (worker.server.now ≡ c.args.server.now) × (worker.number ≡ number)
    × IsReady g.G.Desk g.H.Host g.C.Clock g.W.Waiter g.A.Actuators c.args.server.now.catalogue.now c.args.server.now.desk c.args.server.now.workers number worker.pass worker.duty worker.clock worker.waiter worker.flags)) (sym c.in-Err.ensures.refused.0) c.make_all.ensures.ready

pub return_all-requires-in-Err-clause-room : goal.return_all-requires-in-Err-clause-room
return_all-requires-in-Err-clause-room g c =
    let same = c.in-Err.ensures.refused in
    let all = ap length c.make_all.ensures.devices in
    omega (
      arith,
      ap vec_len same.5,
      ap vec_capacity same.5,
      ap (λ items. length (devices_of items (λ worker. was_at worker.duty))) same.0,
      all,
      length-append (devices_of c.make_all.new.made.items (λ worker. was_at worker.duty)) c.make_all.new.outside.devices.now.items,
      c.make_all.ensures.devices_room,
    )

pub returns-in-Ok-clause-listens : goal.returns-in-Ok-clause-listens
returns-in-Ok-clause-listens g c told = c.run_and_join.ensures.listens told ∙ c.make_all.ensures.host.listens told

pub returns-in-Ok-clause-account : goal.returns-in-Ok-clause-account
returns-in-Ok-clause-account g c =
    let fine = sym c.is_err-2.ensures.value ∙ c.if-is_err-2.false in
    let count = on-ok c.make_all.result _ c.make_all.ensures.count fine in
    let shared = on-ok c.make_all.result _ c.make_all.ensures.share fine in
    let taken = front-taken c.args.drives (devices_of c.make_all.new.made.items (λ worker. was_at worker.duty)) c.make_all.new.outside.devices.now.items c.args.outside.now.devices.now.items c.make_all.ensures.devices (omega (arith, on-ok c.make_all.result _ c.make_all.ensures.taken fine)) in
    subst (λ others. Account g.A.Actuators.calls (λ device. g.A.Actuators.tells × g.A.Actuators.whole device) (terms_of c.args.server.now.catalogue.now (g.G.Desk.denies c.args.server.now.desk) (option_copied c.args.server.now.keys) c.args.server.now.workers g.H.In.Source.tells g.H.Out.Sink.tells g.H.Host.tells g.C.Clock.tells g.W.Waiter.tells) g.W.Waiter.tells (c.args.server.now.workers + 1 + c.args.drives) c.args.connections (own_of g.G.Desk c.run_and_join.new.pass) (g.G.Desk.seen c.run_and_join.new.pass)
    (g.H.Host.served c.args.outside.now.host.now) (g.H.Host.served c.run_and_join.new.outside.host.now) (g.C.Clock.given c.args.outside.now.clock.now) (g.C.Clock.given c.run_and_join.new.outside.clock.now) (hosted_at g.H.Host c.args.outside.now.host.now) (hosted_at g.H.Host c.run_and_join.new.outside.host.now)
    (g.C.Clock.faults c.args.outside.now.clock.now) (g.C.Clock.faults c.run_and_join.new.outside.clock.now) (g.W.Waiter.waits c.args.outside.now.waiter.now) (g.W.Waiter.waits c.run_and_join.new.outside.waiter.now) (take c.args.drives c.args.outside.now.devices.now.items) others c.run_and_join.new.outside.devices.now.items c.in-Ok.told.0 c.in-Ok.told.1) (sym taken.1)
    (subst (λ was. Account g.A.Actuators.calls (λ device. g.A.Actuators.tells × g.A.Actuators.whole device) (terms_of c.args.server.now.catalogue.now (g.G.Desk.denies c.args.server.now.desk) (option_copied c.args.server.now.keys) c.args.server.now.workers g.H.In.Source.tells g.H.Out.Sink.tells g.H.Host.tells g.C.Clock.tells g.W.Waiter.tells) g.W.Waiter.tells (c.args.server.now.workers + 1 + c.args.drives) c.args.connections (own_of g.G.Desk c.run_and_join.new.pass) (g.G.Desk.seen c.run_and_join.new.pass)
    (g.H.Host.served c.args.outside.now.host.now) (g.H.Host.served c.run_and_join.new.outside.host.now) (g.C.Clock.given c.args.outside.now.clock.now) (g.C.Clock.given c.run_and_join.new.outside.clock.now) (hosted_at g.H.Host c.args.outside.now.host.now) (hosted_at g.H.Host c.run_and_join.new.outside.host.now)
    (g.C.Clock.faults c.args.outside.now.clock.now) (g.C.Clock.faults c.run_and_join.new.outside.clock.now) (g.W.Waiter.waits c.args.outside.now.waiter.now) (g.W.Waiter.waits c.run_and_join.new.outside.waiter.now) was c.make_all.new.outside.devices.now.items c.run_and_join.new.outside.devices.now.items c.in-Ok.told.0 c.in-Ok.told.1) (sym taken.0)
    (subst (λ shares. Account g.A.Actuators.calls (λ device. g.A.Actuators.tells × g.A.Actuators.whole device) (terms_of c.args.server.now.catalogue.now (g.G.Desk.denies c.args.server.now.desk) (option_copied c.args.server.now.keys) c.args.server.now.workers g.H.In.Source.tells g.H.Out.Sink.tells g.H.Host.tells g.C.Clock.tells g.W.Waiter.tells) g.W.Waiter.tells (c.args.server.now.workers + 1 + c.args.drives) shares (own_of g.G.Desk c.run_and_join.new.pass) (g.G.Desk.seen c.run_and_join.new.pass)
    (g.H.Host.served c.args.outside.now.host.now) (g.H.Host.served c.run_and_join.new.outside.host.now) (g.C.Clock.given c.args.outside.now.clock.now) (g.C.Clock.given c.run_and_join.new.outside.clock.now) (hosted_at g.H.Host c.args.outside.now.host.now) (hosted_at g.H.Host c.run_and_join.new.outside.host.now)
    (g.C.Clock.faults c.args.outside.now.clock.now) (g.C.Clock.faults c.run_and_join.new.outside.clock.now) (g.W.Waiter.waits c.args.outside.now.waiter.now) (g.W.Waiter.waits c.run_and_join.new.outside.waiter.now) (devices_of c.make_all.new.made.items (λ worker. was_at worker.duty)) c.make_all.new.outside.devices.now.items c.run_and_join.new.outside.devices.now.items c.in-Ok.told.0 c.in-Ok.told.1) shared
    (subst (λ n. Account g.A.Actuators.calls (λ device. g.A.Actuators.tells × g.A.Actuators.whole device) (terms_of c.args.server.now.catalogue.now (g.G.Desk.denies c.args.server.now.desk) (option_copied c.args.server.now.keys) c.args.server.now.workers g.H.In.Source.tells g.H.Out.Sink.tells g.H.Host.tells g.C.Clock.tells g.W.Waiter.tells) g.W.Waiter.tells n (shares_of c.make_all.new.made.items (λ worker. share_at g.H.Host worker.duty)) (own_of g.G.Desk c.run_and_join.new.pass) (g.G.Desk.seen c.run_and_join.new.pass)
    (g.H.Host.served c.args.outside.now.host.now) (g.H.Host.served c.run_and_join.new.outside.host.now) (g.C.Clock.given c.args.outside.now.clock.now) (g.C.Clock.given c.run_and_join.new.outside.clock.now) (hosted_at g.H.Host c.args.outside.now.host.now) (hosted_at g.H.Host c.run_and_join.new.outside.host.now)
    (g.C.Clock.faults c.args.outside.now.clock.now) (g.C.Clock.faults c.run_and_join.new.outside.clock.now) (g.W.Waiter.waits c.args.outside.now.waiter.now) (g.W.Waiter.waits c.run_and_join.new.outside.waiter.now) (devices_of c.make_all.new.made.items (λ worker. was_at worker.duty)) c.make_all.new.outside.devices.now.items c.run_and_join.new.outside.devices.now.items c.in-Ok.told.0 c.in-Ok.told.1) count
    (account-from g.A.Actuators.calls (λ device. g.A.Actuators.tells × g.A.Actuators.whole device) (terms_of c.args.server.now.catalogue.now (g.G.Desk.denies c.args.server.now.desk) (option_copied c.args.server.now.keys) c.args.server.now.workers g.H.In.Source.tells g.H.Out.Sink.tells g.H.Host.tells g.C.Clock.tells g.W.Waiter.tells) g.W.Waiter.tells (length c.make_all.new.made.items) (shares_of c.make_all.new.made.items (λ worker. share_at g.H.Host worker.duty)) (own_of g.G.Desk c.run_and_join.new.pass) (g.G.Desk.seen c.run_and_join.new.pass) c.in-Ok.told.0 c.in-Ok.told.1
    (g.H.Host.served c.make_all.new.outside.host.now) (g.H.Host.served c.run_and_join.new.outside.host.now) (g.H.Host.served c.args.outside.now.host.now) (g.C.Clock.given c.make_all.new.outside.clock.now) (g.C.Clock.given c.run_and_join.new.outside.clock.now) (g.C.Clock.given c.args.outside.now.clock.now)
    (hosted_at g.H.Host c.make_all.new.outside.host.now) (hosted_at g.H.Host c.run_and_join.new.outside.host.now) (hosted_at g.H.Host c.args.outside.now.host.now) (g.C.Clock.faults c.make_all.new.outside.clock.now) (g.C.Clock.faults c.run_and_join.new.outside.clock.now) (g.C.Clock.faults c.args.outside.now.clock.now)
    (g.W.Waiter.waits c.make_all.new.outside.waiter.now) (g.W.Waiter.waits c.run_and_join.new.outside.waiter.now) (g.W.Waiter.waits c.args.outside.now.waiter.now) (devices_of c.make_all.new.made.items (λ worker. was_at worker.duty)) c.make_all.new.outside.devices.now.items c.run_and_join.new.outside.devices.now.items
    c.in-Ok.ensures.account c.make_all.ensures.host.served c.make_all.ensures.clock.given c.make_all.ensures.host.faults c.make_all.ensures.host.handed c.make_all.ensures.clock.faults
    (λ told. c.make_all.ensures.waiter.waits told ∙ (c.expect.ensures.expects told).1)))))

pub returns-in-Err-clause-host : goal.returns-in-Err-clause-host
returns-in-Err-clause-host g c = host-stays g.H.Host c.args.outside.now.host.now c.make_all.new.outside.host.now c.return_all-in-Err.new.outside.host.now c.make_all.ensures.host
    (subst (λ host. StaysHost g.H.Host host c.return_all-in-Err.new.outside.host.now) c.in-Err.ensures.refused.2 c.return_all-in-Err.ensures.host)

pub returns-in-Err-clause-listens : goal.returns-in-Err-clause-listens
returns-in-Err-clause-listens g c told =
    c.return_all-in-Err.ensures.host.listens told ∙ ap g.H.Host.listens c.in-Err.ensures.refused.2 ∙ c.make_all.ensures.host.listens told

pub returns-in-Err-clause-clock : goal.returns-in-Err-clause-clock
returns-in-Err-clause-clock g c = clock-stays g.C.Clock c.args.outside.now.clock.now c.make_all.new.outside.clock.now c.return_all-in-Err.new.outside.clock.now c.make_all.ensures.clock
    (subst (λ clock. StaysClock g.C.Clock clock c.return_all-in-Err.new.outside.clock.now) c.in-Err.ensures.refused.3 c.return_all-in-Err.ensures.clock)

pub returns-in-Err-clause-waiter : goal.returns-in-Err-clause-waiter
returns-in-Err-clause-waiter g c = gains-from g.W.Waiter.tells (g.W.Waiter.waits c.run_and_join.new.outside.waiter.now) (g.W.Waiter.waits c.args.outside.now.waiter.now) (g.W.Waiter.waits c.return_all-in-Err.new.outside.waiter.now)
    (λ told. ap g.W.Waiter.waits c.in-Err.ensures.refused.4 ∙ c.make_all.ensures.waiter.waits told ∙ (c.expect.ensures.expects told).1) c.return_all-in-Err.ensures.waiter

pub returns-in-Err-clause-devices : goal.returns-in-Err-clause-devices
returns-in-Err-clause-devices g c =
    let same = c.in-Err.ensures.refused in
    c.return_all-in-Err.ensures.devices
    ∙ ap (λ items. devices_of items (λ worker. was_at worker.duty) ++ c.run_and_join.new.outside.devices.now.items) same.0
    ∙ ap (λ devices. (devices_of c.make_all.new.made.items (λ worker. was_at worker.duty)) ++ devices) (ap (λ (all : Vec g.row.A.Denot Global). all.items) same.5)
    ∙ c.make_all.ensures.devices

pub make_all-requires-clause-told : goal.make_all-requires-clause-told
make_all-requires-clause-told g c = λ told. ap (λ (it : Waited). it.expected) (c.expect.ensures.expects told).0
