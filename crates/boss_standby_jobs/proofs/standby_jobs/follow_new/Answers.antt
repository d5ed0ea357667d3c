use Rattle.std.proofs.Common.{if◌then◌else◌, sym, ap, ◌∙◌}
use Rattle.boss_standby_jobs.specs.Followings.{streams}
use Rattle.boss_standby_jobs.proofs.Lifted.{new-so}
use Rattle.boss_standby_jobs.proofs.standby_jobs.follow_new.Goals as goal

pub returns-then-eq : goal.returns-then-eq
returns-then-eq g c =
    let call = c.standby_on_disks in
    let over = call.result.1.0 in
    new-so g.D.Disk g.S.Source g.K.Sink c.args.catalogue.now (c.args.first, c.args.second) call.result.0 (streams c.args.source.now c.args.sink.now) (streams call.new.source call.new.sink) over
    call.ensures c.requires.tells c.requires.empty c.requires.synced c.requires.fresh 8 (ap (λ b. if b then 8 else over) (sym (sym c.eq.ensures ∙ c.if-eq.true)))

pub returns-else-eq : goal.returns-else-eq
returns-else-eq g c =
    let call = c.standby_on_disks in
    let over = call.result.1.0 in
    new-so g.D.Disk g.S.Source g.K.Sink c.args.catalogue.now (c.args.first, c.args.second) call.result.0 (streams c.args.source.now c.args.sink.now) (streams call.new.source call.new.sink) over
    call.ensures c.requires.tells c.requires.empty c.requires.synced c.requires.fresh over (ap (λ b. if b then 8 else over) (sym (sym c.eq.ensures ∙ c.if-eq.false)))
