use Rattle.std.proofs.Common.{◌≡◌, ℕ, ◌+◌, Bool, List, length, map, refl, sym, ap, ◌∙◌, subst, arith, length-append, option_copied}
use denote.Param.{param}
use denote.Exit.{no}
use denote.Param.Send.{IsSend, param_send}
use denote.RattleType.{RattleType}
use denote.Signature.{named_lft}
use Rattle.boss_worker.specs.contracts.worker.Worker as Worker
use Rattle.boss_worker.specs.Desks.{own_of}
use Rattle.boss_worker.specs.Saying.{terms_of}
use Rattle.boss_worker.specs.Workers.{share_at, was_at, HasLeft, IsReady}
use Rattle.boss_server.specs.Accounts.{Account}
use Rattle.boss_server.specs.Hosted.{hosted_at}
use Rattle.boss_server.specs.Together.{RoseWhere}
use Rattle.boss_server.specs.Turns.{devices_in, devices_of, is_any_unrun, shares_in, shares_of, AllInTurn, EachInTurn}
use Rattle.boss_server.proofs.Crosses.{Worker-send}
use Rattle.boss_server.proofs.RanLemmas.{all-each, rose-where, workers-ran}
use Rattle.boss_server.proofs.running.run_and_join.Goals as goal

pub join_all-requires-clause-left : goal.join_all-requires-clause-left
join_all-requires-clause-left g c =
    let all = workers-ran c.args.workers.items c.in-Ok.done.items c.args.server.now (λ worker. worker.server.now) (λ worker. worker.number) (λ worker. share_at g.H.Host worker.duty) (λ worker. was_at worker.duty)
    (λ number worker. (worker.server.now ≡ c.args.server.now) × (worker.number ≡ number)
    × IsReady g.G.Desk g.H.Host g.C.Clock g.W.Waiter g.A.Actuators c.args.server.now.catalogue.now c.args.server.now.desk c.args.server.now.workers number worker.pass worker.duty worker.clock worker.waiter worker.flags)
    (λ ran server number worker. HasLeft g.G.Desk g.H.Host g.C.Clock g.W.Waiter g.A.Actuators ran (terms_of server.catalogue.now (g.G.Desk.denies server.desk) (option_copied server.keys) server.workers g.H.In.Source.tells g.H.Out.Sink.tells g.H.Host.tells g.C.Clock.tells g.W.Waiter.tells)
    server.desk number worker.pass worker.duty worker.clock worker.waiter worker.flags)
    (λ n worker ready. (ready.0, ready.1)) c.requires.ready c.in-Ok.ensures.each in
    all.0

pub join_all-requires-clause-room : goal.join_all-requires-clause-room
join_all-requires-clause-room g c =
    let all = workers-ran c.args.workers.items c.in-Ok.done.items c.args.server.now (λ worker. worker.server.now) (λ worker. worker.number) (λ worker. share_at g.H.Host worker.duty) (λ worker. was_at worker.duty)
    (λ number worker. (worker.server.now ≡ c.args.server.now) × (worker.number ≡ number)
    × IsReady g.G.Desk g.H.Host g.C.Clock g.W.Waiter g.A.Actuators c.args.server.now.catalogue.now c.args.server.now.desk c.args.server.now.workers number worker.pass worker.duty worker.clock worker.waiter worker.flags)
    (λ ran server number worker. HasLeft g.G.Desk g.H.Host g.C.Clock g.W.Waiter g.A.Actuators ran (terms_of server.catalogue.now (g.G.Desk.denies server.desk) (option_copied server.keys) server.workers g.H.In.Source.tells g.H.Out.Sink.tells g.H.Host.tells g.C.Clock.tells g.W.Waiter.tells)
    server.desk number worker.pass worker.duty worker.clock worker.waiter worker.flags)
    (λ n worker ready. (ready.0, ready.1)) c.requires.ready c.in-Ok.ensures.each in
    omega (arith, c.requires.room, ap length all.3)

pub returns-in-Ok-clause-parts : goal.returns-in-Ok-clause-parts
returns-in-Ok-clause-parts g c =
    let all = workers-ran c.args.workers.items c.in-Ok.done.items c.args.server.now (λ worker. worker.server.now) (λ worker. worker.number) (λ worker. share_at g.H.Host worker.duty) (λ worker. was_at worker.duty)
    (λ number worker. (worker.server.now ≡ c.args.server.now) × (worker.number ≡ number)
    × IsReady g.G.Desk g.H.Host g.C.Clock g.W.Waiter g.A.Actuators c.args.server.now.catalogue.now c.args.server.now.desk c.args.server.now.workers number worker.pass worker.duty worker.clock worker.waiter worker.flags)
    (λ ran server number worker. HasLeft g.G.Desk g.H.Host g.C.Clock g.W.Waiter g.A.Actuators ran (terms_of server.catalogue.now (g.G.Desk.denies server.desk) (option_copied server.keys) server.workers g.H.In.Source.tells g.H.Out.Sink.tells g.H.Host.tells g.C.Clock.tells g.W.Waiter.tells)
    server.desk number worker.pass worker.duty worker.clock worker.waiter worker.flags)
    (λ n worker ready. (ready.0, ready.1)) c.requires.ready c.in-Ok.ensures.each in
    omega (arith, c.join_all.ensures.parts, all.1)

pub returns-in-Ok-clause-account : goal.returns-in-Ok-clause-account
returns-in-Ok-clause-account g c =
    let all = workers-ran c.args.workers.items c.in-Ok.done.items c.args.server.now (λ worker. worker.server.now) (λ worker. worker.number) (λ worker. share_at g.H.Host worker.duty) (λ worker. was_at worker.duty)
    (λ number worker. (worker.server.now ≡ c.args.server.now) × (worker.number ≡ number)
    × IsReady g.G.Desk g.H.Host g.C.Clock g.W.Waiter g.A.Actuators c.args.server.now.catalogue.now c.args.server.now.desk c.args.server.now.workers number worker.pass worker.duty worker.clock worker.waiter worker.flags)
    (λ ran server number worker. HasLeft g.G.Desk g.H.Host g.C.Clock g.W.Waiter g.A.Actuators ran (terms_of server.catalogue.now (g.G.Desk.denies server.desk) (option_copied server.keys) server.workers g.H.In.Source.tells g.H.Out.Sink.tells g.H.Host.tells g.C.Clock.tells g.W.Waiter.tells)
    server.desk number worker.pass worker.duty worker.clock worker.waiter worker.flags)
    (λ n worker ready. (ready.0, ready.1)) c.requires.ready c.in-Ok.ensures.each in
    subst (λ was. Account g.A.Actuators.calls (λ device. g.A.Actuators.tells × g.A.Actuators.whole device) (terms_of c.args.server.now.catalogue.now (g.G.Desk.denies c.args.server.now.desk) (option_copied c.args.server.now.keys) c.args.server.now.workers g.H.In.Source.tells g.H.Out.Sink.tells g.H.Host.tells g.C.Clock.tells g.W.Waiter.tells) g.W.Waiter.tells (length c.args.workers.items) (shares_of c.args.workers.items (λ worker. share_at g.H.Host worker.duty)) (own_of g.G.Desk c.join_all.new.pass) (g.G.Desk.seen c.join_all.new.pass)
    (g.H.Host.served c.args.outside.now.host.now) (g.H.Host.served c.join_all.new.outside.host.now) (g.C.Clock.given c.args.outside.now.clock.now) (g.C.Clock.given c.join_all.new.outside.clock.now) (hosted_at g.H.Host c.args.outside.now.host.now) (hosted_at g.H.Host c.join_all.new.outside.host.now)
    (g.C.Clock.faults c.args.outside.now.clock.now) (g.C.Clock.faults c.join_all.new.outside.clock.now) (g.W.Waiter.waits c.args.outside.now.waiter.now) (g.W.Waiter.waits c.join_all.new.outside.waiter.now)
    was c.args.outside.now.devices.now.items c.join_all.new.outside.devices.now.items c.join_all.result.0 c.join_all.result.1) all.3
    (subst (λ shares. Account g.A.Actuators.calls (λ device. g.A.Actuators.tells × g.A.Actuators.whole device) (terms_of c.args.server.now.catalogue.now (g.G.Desk.denies c.args.server.now.desk) (option_copied c.args.server.now.keys) c.args.server.now.workers g.H.In.Source.tells g.H.Out.Sink.tells g.H.Host.tells g.C.Clock.tells g.W.Waiter.tells) g.W.Waiter.tells (length c.args.workers.items) shares (own_of g.G.Desk c.join_all.new.pass) (g.G.Desk.seen c.join_all.new.pass)
    (g.H.Host.served c.args.outside.now.host.now) (g.H.Host.served c.join_all.new.outside.host.now) (g.C.Clock.given c.args.outside.now.clock.now) (g.C.Clock.given c.join_all.new.outside.clock.now) (hosted_at g.H.Host c.args.outside.now.host.now) (hosted_at g.H.Host c.join_all.new.outside.host.now)
    (g.C.Clock.faults c.args.outside.now.clock.now) (g.C.Clock.faults c.join_all.new.outside.clock.now) (g.W.Waiter.waits c.args.outside.now.waiter.now) (g.W.Waiter.waits c.join_all.new.outside.waiter.now)
    (devices_in c.in-Ok.done.items (λ worker. was_at worker.duty)) c.args.outside.now.devices.now.items c.join_all.new.outside.devices.now.items c.join_all.result.0 c.join_all.result.1) all.2
    (subst (λ n. Account g.A.Actuators.calls (λ device. g.A.Actuators.tells × g.A.Actuators.whole device) (terms_of c.args.server.now.catalogue.now (g.G.Desk.denies c.args.server.now.desk) (option_copied c.args.server.now.keys) c.args.server.now.workers g.H.In.Source.tells g.H.Out.Sink.tells g.H.Host.tells g.C.Clock.tells g.W.Waiter.tells) g.W.Waiter.tells n (shares_in c.in-Ok.done.items (λ worker. share_at g.H.Host worker.duty)) (own_of g.G.Desk c.join_all.new.pass) (g.G.Desk.seen c.join_all.new.pass)
    (g.H.Host.served c.args.outside.now.host.now) (g.H.Host.served c.join_all.new.outside.host.now) (g.C.Clock.given c.args.outside.now.clock.now) (g.C.Clock.given c.join_all.new.outside.clock.now) (hosted_at g.H.Host c.args.outside.now.host.now) (hosted_at g.H.Host c.join_all.new.outside.host.now)
    (g.C.Clock.faults c.args.outside.now.clock.now) (g.C.Clock.faults c.join_all.new.outside.clock.now) (g.W.Waiter.waits c.args.outside.now.waiter.now) (g.W.Waiter.waits c.join_all.new.outside.waiter.now)
    (devices_in c.in-Ok.done.items (λ worker. was_at worker.duty)) c.args.outside.now.devices.now.items c.join_all.new.outside.devices.now.items c.join_all.result.0 c.join_all.result.1) all.1
    c.join_all.ensures.account))

pub returns-in-Ok-clause-started : goal.returns-in-Ok-clause-started
returns-in-Ok-clause-started g c =
    subst (λ faults. RoseWhere c.join_all.result.1 (g.P.Spawner.faults c.args.outside.now.spawner.now) faults) (sym (ap g.P.Spawner.faults c.join_all.ensures.spawner))
    (subst (λ unrun. RoseWhere unrun (g.P.Spawner.faults c.args.outside.now.spawner.now) (g.P.Spawner.faults c.run_all.new.self)) (sym c.join_all.ensures.unrun)
    (rose-where (g.P.Spawner.faults c.args.outside.now.spawner.now) (g.P.Spawner.faults c.run_all.new.self) c.in-Ok.done.items c.in-Ok.ensures.cause))

pub run_all-requires-send-T : goal.run_all-requires-send-T
run_all-requires-send-T g c κs within =
    let bounds = c.type_bounds in
    let it : RattleType = Worker.the_row (named_lft 5 4 tt κs) (param 0 g.row.G) (param 1 g.row.H) (param 2 g.row.C) (param 3 g.row.W) (param 4 g.row.A) (param 6 g.row.G-Pass) in
    let sends : IsSend it = Worker-send (named_lft 5 4 tt κs) (param 0 g.row.G) (param 1 g.row.H) (param 2 g.row.C) (param 3 g.row.W) (param 4 g.row.A) (param 6 g.row.G-Pass)
    bounds.sync-G bounds.send-H bounds.send-C bounds.send-W bounds.send-A bounds.send-G-Pass in
    let kept : RattleType = record it { exit = λ k. it.exit no } in
    let all = param_send 2 kept (record { owned = sends.owned; leaving = λ k. sends.leaving no }) in
    record { owned = all.owned; leaving = all.leaving }

pub run_all-requires-after_bounds : goal.run_all-requires-after_bounds
run_all-requires-after_bounds g c κs within =
    all-each c.args.workers.items 0
    (λ number worker. (worker.server.now ≡ c.args.server.now) × (worker.number ≡ number)
    × IsReady g.G.Desk g.H.Host g.C.Clock g.W.Waiter g.A.Actuators c.args.server.now.catalogue.now c.args.server.now.desk c.args.server.now.workers number worker.pass worker.duty worker.clock worker.waiter worker.flags)
    (λ worker. IsReady g.G.Desk g.H.Host g.C.Clock g.W.Waiter g.A.Actuators worker.server.now.catalogue.now worker.server.now.desk worker.server.now.workers worker.number worker.pass worker.duty worker.clock worker.waiter worker.flags)
    (λ n worker ready. subst (λ number. IsReady g.G.Desk g.H.Host g.C.Clock g.W.Waiter g.A.Actuators worker.server.now.catalogue.now worker.server.now.desk worker.server.now.workers number worker.pass worker.duty worker.clock worker.waiter worker.flags) (sym ready.1)
    (subst (λ server. IsReady g.G.Desk g.H.Host g.C.Clock g.W.Waiter g.A.Actuators server.catalogue.now server.desk server.workers n worker.pass worker.duty worker.clock worker.waiter worker.flags) (sym ready.0) ready.2))
    c.requires.ready
