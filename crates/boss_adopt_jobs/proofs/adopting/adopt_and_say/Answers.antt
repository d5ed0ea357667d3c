use Rattle.std.proofs.Common.{subst, ◌∙◌}
use Rattle.boss_jobs.specs.Jobs.{TellsLine}
use Rattle.boss_adopt_jobs.proofs.Coming.{adopted-so, fault-so}
use Rattle.boss_adopt_jobs.proofs.Moving.{changed-moves}
use Rattle.boss_adopt_jobs.proofs.adopting.adopt_and_say.Goals as goal

pub returns-in-Ok-clause-comes : goal.returns-in-Ok-clause-comes
returns-in-Ok-clause-comes g c =
    let answer = c.in-Ok.ensures in
    adopted-so g.D.Disk g.K.Sink c.args.old.now c.args.new.now c.args.durable c.requires.plant c.requires.digest c.requires.keeps c.requires.leaves
    c.args.sink.now c.say-status.new.sink c.say-status.result.0 c.in-Ok.durable c.close.result
    (record { parts = c.close.ensures.disks; opens = c.close.ensures.opens; left = c.close.ensures.left })
    answer.plant answer.state answer.digest answer.keeps answer.leaves answer.cause answer.may
    (subst (λ line. TellsLine g.K.Sink line 0 c.args.sink.now c.say-status.new.sink c.say-status.result.0) c.requires.line c.say-status.ensures)

pub returns-in-Err-clause-comes : goal.returns-in-Err-clause-comes
returns-in-Err-clause-comes g c =
    let answer = c.in-Err.ensures in
    fault-so g.D.Disk g.K.Sink c.args.old.now c.args.new.now c.args.durable c.requires.plant c.requires.digest c.requires.keeps c.requires.leaves
    c.args.sink.now c.say_fault-status.new.sink c.say_fault-status.result.0 c.close-in-Err.result c.in-Err.durable
    (record { parts = c.close-in-Err.ensures.disks; opens = c.close-in-Err.ensures.opens; left = c.close-in-Err.ensures.left })
    c.in-Err.fault answer.refuses answer.unchanged (answer.stopped ∙ c.requires.going) answer.cause answer.holds c.say_fault-status.ensures

pub returns-in-Ok-clause-moves : goal.returns-in-Ok-clause-moves
returns-in-Ok-clause-moves g c told =
    changed-moves g.D.Disk c.args.old.now c.args.new.now c.args.durable c.requires.plant c.requires.digest c.requires.keeps c.requires.leaves
    c.in-Ok.durable c.close.result c.close.ensures.disks told c.in-Ok.ensures.images

pub returns-in-Err-clause-moves : goal.returns-in-Err-clause-moves
returns-in-Err-clause-moves g c told =
    changed-moves g.D.Disk c.args.old.now c.args.new.now c.args.durable c.requires.plant c.requires.digest c.requires.keeps c.requires.leaves
    c.in-Err.durable c.close-in-Err.result c.close-in-Err.ensures.disks told c.in-Err.ensures.images
