use Rattle.std.proofs.Common.{refl, inl, inr, ap}
use Rattle.boss_pair_find.specs.Two.{counts}
use Rattle.boss_jobs.specs.Journals.{beside, on_disks}
use Rattle.boss_jobs.proofs.OpenedLemmas.{ran-journal}
use Rattle.boss_jobs.proofs.Refusals.{told-so}
use Rattle.boss_jobs.proofs.StandingLemmas.{disks-stand}
use Rattle.boss_jobs.proofs.journal.script_on_disks.Goals as goal

pub returns-in-Ok : goal.returns-in-Ok
returns-in-Ok g c =
    inr (inr (ran-journal g.D.Disk g.S.Source g.K.Sink g.A.Actuators c.args.catalogue.now c.args.first c.args.second c.in-Ok.durable c.run_from.result.0 _ _ _
    c.in-Ok.ensures.opens c.in-Ok.ensures.keeps c.in-Ok.ensures.leaves c.in-Ok.ensures.digest c.in-Ok.ensures.plant c.in-Ok.ensures.images c.in-Ok.ensures.cause c.run_from.ensures))

pub returns-in-Err : goal.returns-in-Err
returns-in-Err g c =
    let d = g.D.Disk in
    let it = told-so g.K.Sink c.args.catalogue.now (on_disks d (c.args.first, c.args.second)) (on_disks d c.in-Err.disks) c.args.sink.now c.say_journal-status.new.sink c.say_journal-status.result.0
    (counts (d.faults c.args.first) (d.faults c.args.second)) (counts (d.faults c.in-Err.disks.0) (d.faults c.in-Err.disks.1)) refl refl c.in-Err.refusal
    c.in-Err.ensures.refuses c.in-Err.ensures.unchanged c.in-Err.ensures.looked c.say_journal-status.ensures c.in-Err.ensures.cause in
    elim it [
      | inl none ↦ inl (
        record { why = none.why; untouched = ap (λ k. beside c.args.source.now k c.args.devices.now.items) none.untouched },
        disks-stand d c.args.catalogue.now c.args.first c.args.second c.in-Err.disks g.met.D.Disk.reads_stay c.in-Err.ensures.images,
      )
      | inr refused ↦ inr (inl (refused, refl, refl))
    ]
