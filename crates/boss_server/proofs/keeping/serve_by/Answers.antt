use Rattle.std.proofs.Common.{◌≡◌, ◌+◌, List, [], take, drop, refl, sym, ap, ◌∙◌, subst, append-nil, option_copied}
use Rattle.boss_lock.specs.Places.{entries_at}
use Rattle.boss_lock.proofs.Entries.{entries_at_all}
use Rattle.boss_shared.specs.Keeping.{IsHeld}
use Rattle.boss_worker.specs.Saying.{terms_of}
use Rattle.boss_server.specs.Hosted.{hosted_at}
use Rattle.boss_server.specs.Sites.{gates_of}
use Rattle.boss_server.specs.Kept.{Ran, drives_of}
use Rattle.boss_server.proofs.KeptLemmas.{kept-ran}
use Rattle.boss_server.proofs.keeping.serve_by.Goals as goal

pub returns-in-Err-clause-waiter : goal.returns-in-Err-clause-waiter
returns-in-Err-clause-waiter g c = record { notes = []; noted = λ told. sym (append-nil (g.W.Waiter.waits c.args.outside.now.waiter.now)); unpaused = λ told. tt }

pub returns-in-Ok-told-clause-ran : goal.returns-in-Ok-told-clause-ran
returns-in-Ok-told-clause-ran g c =
    let pass = c.serve_behind-pass.result.0 in
    let whole : entries_at pass.seen pass.places ≡ pass.seen = ap (entries_at pass.seen) c.close-keeper.ensures.places ∙ entries_at_all pass.seen in
    let held = subst (λ start. IsHeld g.K.Keeper.plant g.K.Keeper.state g.K.Keeper.stopped g.K.Keeper.faults g.K.Keeper.leaves g.K.Keeper.passes g.K.Keeper.keeps start c.close-keeper.result pass.seen)
    c.in-Ok.ensures.start c.close-keeper.ensures.held in
    subst (λ drives. Ran g.K.Keeper g.A.Actuators.calls (λ device. g.A.Actuators.tells × g.A.Actuators.whole device)
    (terms_of c.args.catalogue.now (gates_of c.args.catalogue.now c.args.rules) (option_copied c.args.keys) c.args.workers g.H.In.Source.tells g.H.Out.Sink.tells g.H.Host.tells g.C.Clock.tells g.W.Waiter.tells) g.W.Waiter.tells
    (c.args.workers + 1 + drives) c.args.connections c.args.keeper c.close-keeper.result (g.H.Host.served c.args.outside.now.host.now) (g.H.Host.served c.serve_behind-pass.new.outside.host.now)
    (g.C.Clock.given c.args.outside.now.clock.now) (g.C.Clock.given c.serve_behind-pass.new.outside.clock.now) (hosted_at g.H.Host c.args.outside.now.host.now) (hosted_at g.H.Host c.serve_behind-pass.new.outside.host.now)
    (g.C.Clock.faults c.args.outside.now.clock.now) (g.C.Clock.faults c.serve_behind-pass.new.outside.clock.now) (g.W.Waiter.waits c.args.outside.now.waiter.now) (g.W.Waiter.waits c.serve_behind-pass.new.outside.waiter.now)
    (take drives c.args.outside.now.devices.now.items) (drop drives c.args.outside.now.devices.now.items) c.serve_behind-pass.new.outside.devices.now.items
    (record { disk = c.has_stopped.result; host = c.in-Ok-told.flags.host; clock = c.in-Ok-told.flags.clock; memory = c.in-Ok-told.flags.memory }) c.in-Ok-told.unstarted) c.drives_for-drives.ensures.drives
    (kept-ran g.A.Actuators.calls (λ device. g.A.Actuators.tells × g.A.Actuators.whole device)
    (terms_of c.args.catalogue.now (gates_of c.args.catalogue.now c.args.rules) (option_copied c.args.keys) c.args.workers g.H.In.Source.tells g.H.Out.Sink.tells g.H.Host.tells g.C.Clock.tells g.W.Waiter.tells) g.W.Waiter.tells
    (c.args.workers + 1 + c.drives_for-drives.result) c.args.connections pass.seen (g.H.Host.served c.args.outside.now.host.now) (g.H.Host.served c.serve_behind-pass.new.outside.host.now)
    (g.C.Clock.given c.args.outside.now.clock.now) (g.C.Clock.given c.serve_behind-pass.new.outside.clock.now) (hosted_at g.H.Host c.args.outside.now.host.now) (hosted_at g.H.Host c.serve_behind-pass.new.outside.host.now)
    (g.C.Clock.faults c.args.outside.now.clock.now) (g.C.Clock.faults c.serve_behind-pass.new.outside.clock.now) (g.W.Waiter.waits c.args.outside.now.waiter.now) (g.W.Waiter.waits c.serve_behind-pass.new.outside.waiter.now)
    (take c.drives_for-drives.result c.args.outside.now.devices.now.items) (drop c.drives_for-drives.result c.args.outside.now.devices.now.items) c.serve_behind-pass.new.outside.devices.now.items
    c.in-Ok-told.flags c.in-Ok-told.unstarted c.has_stopped.result g.K.Keeper c.args.keeper c.close-keeper.result (entries_at pass.seen pass.places) whole (rw (c.in-Ok-told.is, c.server_at-server.ensures.catalogue, c.server_at-server.ensures.keys, c.server_at-server.ensures.workers) at c.serve_behind-pass.ensures.account) held c.has_stopped.ensures)

pub returns-in-Err-told-clause-nothing : goal.returns-in-Err-told-clause-nothing
returns-in-Err-told-clause-nothing g c =
    let pass = c.serve_behind-pass.result.0 in
    let whole : entries_at pass.seen pass.places ≡ pass.seen = ap (entries_at pass.seen) c.close-keeper.ensures.places ∙ entries_at_all pass.seen in
    subst (λ log. IsHeld g.K.Keeper.plant g.K.Keeper.state g.K.Keeper.stopped g.K.Keeper.faults g.K.Keeper.leaves g.K.Keeper.passes g.K.Keeper.keeps c.args.keeper c.close-keeper.result log)
    (sym whole ∙ (rw c.in-Err-told.is at c.serve_behind-pass.ensures.nothing))
    (subst (λ start. IsHeld g.K.Keeper.plant g.K.Keeper.state g.K.Keeper.stopped g.K.Keeper.faults g.K.Keeper.leaves g.K.Keeper.passes g.K.Keeper.keeps start c.close-keeper.result pass.seen)
    c.in-Ok.ensures.start c.close-keeper.ensures.held)
