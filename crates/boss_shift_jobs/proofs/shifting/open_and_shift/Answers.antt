use Rattle.std.proofs.Common.{◌≡◌, refl, inl, inr, ap, ◌∙◌, subst}
use Rattle.boss_disk_pair.specs.Images.{OpensTo}
use Rattle.boss_model.specs.Catalogue.{actuators}
use Rattle.boss_opening.specs.Opens.{digest_of}
use Rattle.boss_pair_find.specs.Two.{counts, two}
use Rattle.boss_outside.specs.Counts.{Rose}
use Rattle.boss_jobs.specs.Journals.{on_disks}
use Rattle.boss_jobs.proofs.OpenedLemmas.{moved-so}
use Rattle.boss_jobs.proofs.Refusals.{both, told-so}
use Rattle.boss_jobs.proofs.StandingLemmas.{disks-stand}
use Rattle.boss_shift_jobs.specs.Shifts.{OpensToEither}
use Rattle.boss_shift_jobs.proofs.Coming.{of_durable}
use Rattle.boss_shift_jobs.proofs.Following.{comes-so}
use Rattle.boss_shift_jobs.proofs.shifting.open_and_shift.Goals as goal

pub returns-in-Ok : goal.returns-in-Ok
returns-in-Ok g c =
    let d = g.D.Disk in
    let durable = c.in-Ok.durable in
    let was = on_disks d (c.args.first, c.args.second) in
    let now = on_disks d c.shift_opened.result.0 in
    let same : (of_durable d durable).faults ≡ was.faults = ap both c.in-Ok.ensures.cause in
    inr (inr (record {
      state = durable.engine.state;
      number = durable.disks.events;
      opened = c.in-Ok.ensures.opens;
      comes = comes-so was now (of_durable d durable) now g.K.Sink c.args.catalogue.now c.args.by c.args.sink.now c.shift_opened.new.sink c.shift_opened.result.1.0
          (λ tells. tells) (λ _. (refl, refl)) (λ rose. subst (λ n. Rose n now.faults) same rose) (λ stood. stood ∙ same)
          durable.engine.state.persistent durable.disks.events c.shift_opened.ensures.comes;
      images = λ told _.
          moved-so d c.args.catalogue.now c.args.first c.args.second durable c.in-Ok.ensures.keeps c.in-Ok.ensures.leaves c.in-Ok.ensures.digest c.in-Ok.ensures.plant c.in-Ok.ensures.images told
          (OpensToEither c.args.catalogue.now c.args.by durable.engine.state.persistent)
          (two (d.story c.shift_opened.result.0.0) (d.story c.shift_opened.result.0.1)) (c.shift_opened.ensures.moves told);
      stays = λ refuses told _.
          moved-so d c.args.catalogue.now c.args.first c.args.second durable c.in-Ok.ensures.keeps c.in-Ok.ensures.leaves c.in-Ok.ensures.digest c.in-Ok.ensures.plant c.in-Ok.ensures.images told
          (OpensTo (actuators c.args.catalogue.now) (digest_of c.args.catalogue.now) durable.engine.state.persistent)
          (two (d.story c.shift_opened.result.0.0) (d.story c.shift_opened.result.0.1)) (c.shift_opened.ensures.stays refuses told);
    }))

pub returns-in-Err : goal.returns-in-Err
returns-in-Err g c =
    let d = g.D.Disk in
    let it = told-so g.K.Sink c.args.catalogue.now (on_disks d (c.args.first, c.args.second)) (on_disks d c.in-Err.disks) c.args.sink.now c.say_journal-status.new.sink c.say_journal-status.result.0
    (counts (d.faults c.args.first) (d.faults c.args.second)) (counts (d.faults c.in-Err.disks.0) (d.faults c.in-Err.disks.1)) refl refl c.in-Err.refusal
    c.in-Err.ensures.refuses c.in-Err.ensures.unchanged c.in-Err.ensures.looked c.say_journal-status.ensures c.in-Err.ensures.cause in
    elim it [
      | inl none ↦ inl (none, disks-stand d c.args.catalogue.now c.args.first c.args.second c.in-Err.disks g.met.D.Disk.reads_stay c.in-Err.ensures.images)
      | inr refused ↦ inr (inl refused)
    ]
