use Rattle.std.proofs.Common.{◌≡◌, refl, inl, inr, Err, [], ◌∷◌, sym, ap, subst, ◌∙◌}
use Rattle.boss_files.specs.Names.{second_name}
use Rattle.boss_jobs.specs.Journals.{AsksFront, in_files, on_disks}
use Rattle.boss_jobs.proofs.KeptLemmas.{front-asked}
use Rattle.boss_jobs.proofs.Lifting.{stores-follow}
use Rattle.boss_jobs.proofs.StandingLemmas.{failed-rose, files-stand, lacking-stood, nothing-stands}
use Rattle.boss_shift_jobs.proofs.Following.{shifts-so}
use Rattle.boss_shift_jobs.proofs.jobs.shift_in_files.Goals as goal

pub returns-in-Ok-open_stores-clause-shifts : goal.returns-in-Ok-open_stores-clause-shifts
returns-in-Ok-open_stores-clause-shifts g c =
    let f = g.F.Files in
    let d = g.F.Store.Disk in
    let journal = c.args.journal.now in
    let first = c.in-Ok-open_stores.first in
    let other = c.in-Ok-open_stores.other in
    let back = c.shift_on_disks-stores.result.0 in
    let named : c.as_str.result.now ≡ second_name journal = c.as_str.ensures.value ∙ c.in-Ok.ensures.name in
    let again : c.as_str-in-Ok-open_stores.result.now ≡ second_name journal = c.as_str-in-Ok-open_stores.ensures.value ∙ c.in-Ok.ensures.name in
    shifts-so (in_files f journal c.args.files.now) (in_files f journal c.close_stores.new.files) (on_disks d (first, other)) (on_disks d back)
    g.K.Sink c.args.catalogue.now c.args.by c.args.sink.now c.shift_on_disks-stores.new.sink c.shift_on_disks-stores.result.1.0
    (stores-follow f d journal c.args.files.now c.open_stores.new.files c.close_stores.new.files c.as_str.result.now c.as_str-in-Ok-open_stores.result.now (first, other) back named again
    c.in-Ok-open_stores.ensures.told c.in-Ok-open_stores.ensures.first_bytes c.in-Ok-open_stores.ensures.second_bytes c.in-Ok-open_stores.ensures.settled
    c.in-Ok-open_stores.ensures.begin g.met.F.Store.Disk.reads_stay c.in-Ok-open_stores.ensures.past c.close_stores.ensures.gains c.in-Ok-open_stores.ensures.fresh
    c.close_stores.ensures.first_bytes c.close_stores.ensures.second_bytes c.in-Ok-open_stores.ensures.cause c.close_stores.ensures.cause)
    c.shift_on_disks-stores.ensures

pub returns-in_default-clause-shifts : goal.returns-in_default-clause-shifts
returns-in_default-clause-shifts g c =
    let files = in_files g.F.Files c.args.journal.now c.args.files.now in
    inl (record { why = inr (refl, refl); untouched = refl }, λ told lasts. nothing-stands c.args.catalogue.now files)

pub returns-in-Err-Failed-clause-shifts : goal.returns-in-Err-Failed-clause-shifts
returns-in-Err-Failed-clause-shifts g c =
    inl (
      record { why = inl (refl, failed-rose _ _ c.open_stores.result (c.in-Err-Failed.is ∙ ap Err c.in-Err-Failed.field-0-is) c.open_stores.ensures.cause); untouched = refl },
      λ told lasts. files-stand g.F.Files c.args.catalogue.now c.args.journal.now c.args.files.now c.open_stores.new.files c.as_str.result.now (c.as_str.ensures.value ∙ c.in-Ok.ensures.name)
          (λ is. c.in-Ok.ensures.other (sym is ∙ c.as_str.ensures.value ∙ c.in-Ok.ensures.name)) c.in-Err-Failed.ensures.keeps c.in-Err-Failed.ensures.tried c.in-Err-Failed.ensures.others told,
    )

pub returns-clause-shifts : goal.returns-clause-shifts
returns-clause-shifts g c =
    inl (
      record { why = inr (refl, lacking-stood _ _ c.open_stores.result (c.in-Err-NoMemory.is ∙ ap Err c.in-Err-NoMemory.field-0-is) c.open_stores.ensures.cause); untouched = refl },
      λ told lasts. files-stand g.F.Files c.args.catalogue.now c.args.journal.now c.args.files.now c.open_stores.new.files c.as_str.result.now (c.as_str.ensures.value ∙ c.in-Ok.ensures.name)
          (λ is. c.in-Ok.ensures.other (sym is ∙ c.as_str.ensures.value ∙ c.in-Ok.ensures.name)) c.in-Err-NoMemory.ensures.keeps c.in-Err-NoMemory.ensures.tried c.in-Err-NoMemory.ensures.others told,
    )

pub returns-in-Err-Failed-clause-asks : goal.returns-in-Err-Failed-clause-asks
returns-in-Err-Failed-clause-asks g c tells =
    let ends = rw c.in-Err-Failed.field-0-is at c.in-Err-Failed.ensures in
    let named : c.as_str.result.now ≡ second_name c.args.journal.now = c.as_str.ensures.value ∙ c.in-Ok.ensures.name in
    subst (λ n. AsksFront (c.args.journal.now ∷ n ∷ []) (g.F.Files.asked c.args.files.now) (g.F.Files.asked c.open_stores.new.files)) named (front-asked _ _ _ _ (ends.asks tells))

pub returns-clause-asks : goal.returns-clause-asks
returns-clause-asks g c tells =
    let ends = rw c.in-Err-NoMemory.field-0-is at c.in-Err-NoMemory.ensures in
    let named : c.as_str.result.now ≡ second_name c.args.journal.now = c.as_str.ensures.value ∙ c.in-Ok.ensures.name in
    subst (λ n. AsksFront (c.args.journal.now ∷ n ∷ []) (g.F.Files.asked c.args.files.now) (g.F.Files.asked c.open_stores.new.files)) named (front-asked _ _ _ _ (ends.asks tells))
