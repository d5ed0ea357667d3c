use Rattle.std.proofs.Common.{refl}
use Rattle.boss_jobs.specs.Journals.{on_disks}
use Rattle.boss_jobs.proofs.Carrying.{still-looked}
use Rattle.boss_pair_find.specs.Two.{counts, two}
use Rattle.boss_standby_jobs.proofs.Fed.{fed-so}
use Rattle.boss_standby_jobs.proofs.feeding.feed_on_disks.Goals as goal

pub returns : goal.returns
returns g c =
    let d = g.D.Disk in
    let call = c.feed-disks in
    let disks = call.result.0 in
    record {
      did = fed-so g.K.Sink c.args.catalogue.now c.args.from (on_disks d (c.args.first, c.args.second)) (on_disks d disks)
          c.args.sink.now call.new.sink c.say_fed.new.sink c.say_fed.result.0
          (counts (d.faults c.args.first) (d.faults c.args.second)) (counts (d.faults disks.0) (d.faults disks.1)) refl refl call.result.1
          call.ensures.told call.ensures.stands call.ensures.broke call.ensures.refuses call.ensures.silent call.ensures.cause call.ensures.sink c.say_fed.ensures;
      holds = λ tells. (call.ensures.first_reads tells, call.ensures.second_reads tells);
      images = λ tells _. still-looked (on_disks d (c.args.first, c.args.second)).stories (on_disks d disks).stories (λ i. two (call.ensures.first_story tells i) (call.ensures.second_story tells i));
    }
