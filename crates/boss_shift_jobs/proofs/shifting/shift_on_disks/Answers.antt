use Rattle.std.proofs.Common.{◌≡◌, refl, inl, inr, ap, sym, ◌∙◌, subst, Ok, IfErr}
use Rattle.boss_disk.specs.Legs.{stand}
use Rattle.boss_disk.specs.Window.{settled}
use Rattle.boss_model.specs.Catalogue.{actuators}
use Rattle.boss_outside.specs.Counts.{Rose}
use Rattle.boss_opening.specs.Checks.{CheckCause}
use Rattle.boss_opening.specs.declared.checking.Checked.TheVariants.{New, Found}
use Rattle.boss_opening.specs.Opens.{digest_of, OpenRefuses}
use Rattle.boss_pair_find.specs.Two.{counts, two}
use Rattle.boss_jobs.specs.Jobs.{TellsLine}
use Rattle.boss_jobs.specs.Journals.{on_disks}
use Rattle.boss_jobs.proofs.Carrying.{Quietly, still-looked}
use Rattle.boss_jobs.proofs.Lifting.{same-carries}
use Rattle.boss_jobs.proofs.Refusals.{both, told-so}
use Rattle.boss_jobs.proofs.StandingLemmas.{same-stands}
use Rattle.boss_shift_jobs.proofs.Checking.{is-new, no-fault, not-new}
use Rattle.boss_shift_jobs.proofs.Following.{opened-so}
use Rattle.boss_shift_jobs.proofs.shifting.shift_on_disks.Goals as goal

-- it is new

pub returns-in-Ok-New : goal.returns-in-Ok-New
returns-in-Ok-New g c =
    let d = g.D.Disk in
    let checked = c.check-disks.ensures in
    let disks = c.check-disks.result.0 in
    let answer = c.check-disks.result.1 in
    let one = rw c.in-Ok-New.is at c.in-Ok-New.field-0-is in
    let is : answer ≡ Ok New = c.in-Ok-New.is ∙ ap Ok one in
    inr (inr (inl (record {
      new_pair = λ told. is-new answer (actuators c.args.catalogue.now) (digest_of c.args.catalogue.now) (d.reads c.args.first) (d.reads c.args.second) is (checked.tells told);
      tells = subst (λ line. TellsLine g.K.Sink line 0 c.args.sink.now c.say-status.new.sink c.say-status.result.0) c.new_line.ensures c.say-status.ensures;
      holds = λ told. (checked.first_reads told, checked.second_reads told);
      faults = ap both (no-fault answer New (counts (d.faults c.args.first) (d.faults c.args.second)) (counts (d.faults disks.0) (d.faults disks.1)) is checked.cause);
      images = λ told _. still-looked (on_disks d (c.args.first, c.args.second)).stories (on_disks d disks).stories (λ i. two (checked.first_story told i) (checked.second_story told i));
    })))

-- it is not

pub returns-in-Ok-Found : goal.returns-in-Ok-Found
returns-in-Ok-Found g c =
    let d = g.D.Disk in
    let arm = c.in-Ok-Found in
    let checked = c.check-disks.ensures in
    let disks = c.check-disks.result.0 in
    let answer = c.check-disks.result.1 in
    let found = Found arm.field-0-0 arm.field-0-1 arm.field-0-2 arm.field-0-3 in
    let one = rw arm.is at arm.field-0-is in
    let is : answer ≡ Ok found = arm.is ∙ ap Ok one in
    let was = on_disks d (c.args.first, c.args.second) in
    let mid = on_disks d disks in
    let now = on_disks d c.open_and_shift.result.0 in
    let same : mid.faults ≡ was.faults =
    ap both (no-fault answer found (counts (d.faults c.args.first) (d.faults c.args.second)) (counts (d.faults disks.0) (d.faults disks.1)) is checked.cause) in
    opened-so was now mid now g.K.Sink c.args.catalogue.now c.args.by c.args.sink.now c.open_and_shift.new.sink c.open_and_shift.result.1.0
    (record {
      tells = λ tells. tells;
      lasts = λ tells lasts. (
        ap (λ s. s.window) (checked.first_story tells) ∙ lasts.0 ∙ ap settled (sym (checked.first_reads tells)),
        ap (λ s. s.window) (checked.second_story tells) ∙ lasts.1 ∙ ap settled (sym (checked.second_reads tells)),
      );
      began = λ tells. (checked.first_reads tells, checked.second_reads tells);
      left = λ tells. (refl, refl);
      rose = λ rose. subst (λ n. Rose n now.faults) same rose;
      stood = λ stood. stood ∙ same;
      whole = λ tells whole. whole;
      carries = λ tells _. same-carries mid.stories now.stories was.stories (λ i. two (sym (checked.first_story tells) i) (sym (checked.second_story tells) i));
    })
    (λ told. not-new answer (actuators c.args.catalogue.now) (digest_of c.args.catalogue.now) (d.reads c.args.first) (d.reads c.args.second)
    arm.field-0-0 arm.field-0-1 arm.field-0-2 arm.field-0-3 is (checked.tells told)) c.open_and_shift.ensures

-- it is refused

pub returns-in-Err : goal.returns-in-Err
returns-in-Err g c =
    let d = g.D.Disk in
    let checked = c.check-disks.ensures in
    let disks = c.check-disks.result.0 in
    let was = on_disks d (c.args.first, c.args.second) in
    let now = on_disks d disks in
    let before = counts (d.faults c.args.first) (d.faults c.args.second) in
    let after = counts (d.faults disks.0) (d.faults disks.1) in
    let it = told-so g.K.Sink c.args.catalogue.now was now c.args.sink.now c.say_journal-status.new.sink c.say_journal-status.result.0 before after refl refl c.in-Err.refusal
    (λ told. subst (λ r. IfErr r (OpenRefuses (actuators c.args.catalogue.now) (digest_of c.args.catalogue.now) (d.reads c.args.first) (d.reads c.args.second))) c.in-Err.is (checked.refuses told))
    (λ told _. (checked.first_reads told, checked.second_reads told)) (λ told _. still-looked was.stories now.stories (λ i. two (checked.first_story told i) (checked.second_story told i))) c.say_journal-status.ensures (subst (CheckCause before after) c.in-Err.is checked.cause) in
    elim it [
      | inl none ↦ inl (
        none,
        λ told _. same-stands c.args.catalogue.now was now (checked.first_reads told, checked.second_reads told)
            (λ _. subst (λ at. Quietly was.stories at) (λ i. two (sym (checked.first_story told) i) (sym (checked.second_story told) i)) (stand was.stories (λ _ is. is, λ _ is. is))),
      )
      | inr refused ↦ inr (inl refused)
    ]
