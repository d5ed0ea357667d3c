use Rattle.std.proofs.Common.{refl}
use Rattle.boss_pair_find.specs.Two.{counts, two}
use Rattle.boss_jobs.specs.Journals.{on_disks}
use Rattle.boss_jobs.proofs.Carrying.{still-looked}
use Rattle.boss_jobs.proofs.Refusals.{found-so}
use Rattle.boss_jobs.proofs.checking.check_on_disks.Goals as goal

pub returns : goal.returns
returns g c =
    let d = g.D.Disk in
    let disks = c.check-disks.result.0 in
    found-so g.K.Sink c.args.catalogue.now (on_disks d (c.args.first, c.args.second)) (on_disks d disks) c.args.sink.now c.say_found.new.sink c.say_found.result.0
    (counts (d.faults c.args.first) (d.faults c.args.second)) (counts (d.faults disks.0) (d.faults disks.1)) refl refl c.check-disks.result.1
    c.check-disks.ensures.tells c.check-disks.ensures.refuses (λ tells. (c.check-disks.ensures.first_reads tells, c.check-disks.ensures.second_reads tells))
    (λ tells. still-looked (on_disks d (c.args.first, c.args.second)).stories (on_disks d disks).stories (λ i. two (c.check-disks.ensures.first_story tells i) (c.check-disks.ensures.second_story tells i))) c.say_found.ensures c.check-disks.ensures.cause
