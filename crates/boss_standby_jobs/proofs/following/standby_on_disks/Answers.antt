use Rattle.std.proofs.Common.{◌≡◌, inl, inr, ◌+◌, refl, ap, subst, ◌∙◌}
use Rattle.boss_disk.specs.Legs.{Legs, LeaveBoth}
use Rattle.boss_disk_pair.specs.Causes.{first_disk, second_disk}
use Rattle.boss_disk_pair.specs.Rests.{stories}
use Rattle.boss_durable.specs.Words.{lasting}
use Rattle.boss_jobs.specs.Crashes.{WhileMoved}
use Rattle.boss_jobs.specs.Journals.{on_disks}
use Rattle.boss_jobs.proofs.OpenedLemmas.{moved-so}
use Rattle.boss_jobs.proofs.Refusals.{both, told-so}
use Rattle.boss_jobs.proofs.StandingLemmas.{disks-stand}
use Rattle.boss_outside.specs.Counts.{Rose}
use Rattle.boss_model.specs.Catalogue.{actuators}
use Rattle.boss_opening.specs.Opens.{digest_of}
use Rattle.boss_pair_find.specs.Two.{counts, two}
use Rattle.boss_standby_jobs.specs.Followings.{streams}
use Rattle.boss_standby_jobs.proofs.Lifted.{followed-so}
use Rattle.boss_standby_jobs.proofs.following.standby_on_disks.Goals as goal

pub returns-in-Ok : goal.returns-in-Ok
returns-in-Ok g c =
    let d = g.D.Disk in
    let durable = c.in-Ok.durable in
    let same : d.faults (first_disk durable.disks) + d.faults (second_disk durable.disks) ≡ d.faults c.args.first + d.faults c.args.second = ap both c.in-Ok.ensures.cause in
    let now = on_disks d c.follow_opened.result.0 in
    inr (inr (record {
      state = durable.engine.state;
      number = durable.disks.events;
      opened = c.in-Ok.ensures.opens;
      followed = followed-so (on_disks d (c.args.first, c.args.second)) now (on_disks d (first_disk durable.disks, second_disk durable.disks)) now
          g.S.Source g.K.Sink c.args.catalogue.now (lasting durable) durable.disks.events
          (λ Is. d.tells → Unit {0} → WhileMoved (actuators c.args.catalogue.now) (digest_of c.args.catalogue.now) (d.reads c.args.first) (d.reads c.args.second)
          (two (d.story c.args.first) (d.story c.args.second)) Is (two (d.story c.follow_opened.result.0.0) (d.story c.follow_opened.result.0.1)))
          (λ Is. d.tells → Legs (LeaveBoth Is) (stories durable.disks) (two (d.story c.follow_opened.result.0.0) (d.story c.follow_opened.result.0.1)))
          (streams c.args.source.now c.args.sink.now) (streams c.follow_opened.new.source c.follow_opened.new.sink) c.follow_opened.result.1.0
          (λ tells. tells)
          (λ Is moves told _.
          moved-so d c.args.catalogue.now c.args.first c.args.second durable c.in-Ok.ensures.keeps c.in-Ok.ensures.leaves c.in-Ok.ensures.digest c.in-Ok.ensures.plant c.in-Ok.ensures.images told Is
          (two (d.story c.follow_opened.result.0.0) (d.story c.follow_opened.result.0.1)) (moves told))
          (λ _. (refl, refl)) (λ rose. subst (λ n. Rose n now.faults) same rose) (λ stood. stood ∙ same) c.follow_opened.ensures;
    }))

pub returns-in-Err : goal.returns-in-Err
returns-in-Err g c =
    let d = g.D.Disk in
    let it = told-so g.K.Sink c.args.catalogue.now (on_disks d (c.args.first, c.args.second)) (on_disks d c.in-Err.disks) c.args.sink.now c.say_journal-status.new.sink c.say_journal-status.result.0
    (counts (d.faults c.args.first) (d.faults c.args.second)) (counts (d.faults c.in-Err.disks.0) (d.faults c.in-Err.disks.1)) refl refl c.in-Err.refusal
    c.in-Err.ensures.refuses c.in-Err.ensures.unchanged c.in-Err.ensures.looked c.say_journal-status.ensures c.in-Err.ensures.cause in
    elim it [
      | inl none ↦ inl (
        record { why = none.why; untouched = ap (λ k. streams c.args.source.now k) none.untouched },
        disks-stand d c.args.catalogue.now c.args.first c.args.second c.in-Err.disks g.met.D.Disk.reads_stay c.in-Err.ensures.images,
      )
      | inr refused ↦ inr (inl (refused, refl))
    ]
