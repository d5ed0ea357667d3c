use Rattle.std.proofs.Common.{◌≡◌, ◌≢◌, inl, inr, List, ℕ, [], Err, unwrap_or, ap, refl, ◌∙◌, sym}
use Rattle.boss_files.proofs.Held.{of-each}
use Rattle.boss_files.specs.Names.{second_name}
use Rattle.boss_jobs.specs.Journals.{in_files, on_disks}
use Rattle.boss_jobs.proofs.Carrying.{quiet-looked, still-looked}
use Rattle.boss_jobs.proofs.Lifting.{checks-so, stores-follow}
use Rattle.boss_jobs.proofs.StandingLemmas.{failed-rose, files-quiet, lacking-stood}
use Rattle.boss_jobs.proofs.kept_jobs.check_in_files.Goals as goal

pub returns-in-Ok-open_stores-clause-checks : goal.returns-in-Ok-open_stores-clause-checks
returns-in-Ok-open_stores-clause-checks g c =
    let f = g.F.Files in
    let d = g.F.Store.Disk in
    let journal = c.args.journal.now in
    let first = c.in-Ok-open_stores.first in
    let other = c.in-Ok-open_stores.other in
    let back = c.check_on_disks-stores.result.0 in
    let named : c.as_str.result.now ≡ second_name journal = c.as_str.ensures.value ∙ c.in-Ok.ensures.name in
    let again : c.as_str-in-Ok-open_stores.result.now ≡ second_name journal = c.as_str-in-Ok-open_stores.ensures.value ∙ c.in-Ok.ensures.name in
    checks-so (in_files f journal c.args.files.now) (in_files f journal c.close_stores.new.files) (on_disks d (first, other)) (on_disks d back)
    (stores-follow f d journal c.args.files.now c.open_stores.new.files c.close_stores.new.files c.as_str.result.now c.as_str-in-Ok-open_stores.result.now (first, other) back named again
    c.in-Ok-open_stores.ensures.told c.in-Ok-open_stores.ensures.first_bytes c.in-Ok-open_stores.ensures.second_bytes c.in-Ok-open_stores.ensures.settled
    c.in-Ok-open_stores.ensures.begin g.met.F.Store.Disk.reads_stay c.in-Ok-open_stores.ensures.past c.close_stores.ensures.gains c.in-Ok-open_stores.ensures.fresh
    c.close_stores.ensures.first_bytes c.close_stores.ensures.second_bytes c.in-Ok-open_stores.ensures.cause c.close_stores.ensures.cause)
    g.K.Sink c.args.catalogue.now c.args.sink.now c.check_on_disks-stores.new.sink c.check_on_disks-stores.result.1.0 c.check_on_disks-stores.ensures

pub returns-in_default-clause-checks : goal.returns-in_default-clause-checks
returns-in_default-clause-checks g c =
    let same = (in_files g.F.Files c.args.journal.now c.args.files.now).stories in
    record {
      did = inl (record { why = inr (refl, refl); untouched = refl });
      holds = λ told. (refl, refl);
      images = λ told whole. still-looked same same refl;
    }

pub returns-in-Err-Failed-clause-checks : goal.returns-in-Err-Failed-clause-checks
returns-in-Err-Failed-clause-checks g c =
    let f = g.F.Files in
    let journal = c.args.journal.now in
    record {
      did = inl (record {
        why = inl (refl, failed-rose _ _ c.open_stores.result (c.in-Err-Failed.is ∙ ap Err c.in-Err-Failed.field-0-is) c.open_stores.ensures.cause);
        untouched = refl;
      });
      holds = λ told. (c.in-Err-Failed.ensures.keeps told journal, c.in-Err-Failed.ensures.keeps told (second_name journal));
      images = λ told whole. quiet-looked (in_files f journal c.args.files.now).stories (in_files f journal c.open_stores.new.files).stories
          (files-quiet f journal c.args.files.now c.open_stores.new.files c.as_str.result.now (c.as_str.ensures.value ∙ c.in-Ok.ensures.name)
          (λ is. c.in-Ok.ensures.other (sym is ∙ c.as_str.ensures.value ∙ c.in-Ok.ensures.name)) c.in-Err-Failed.ensures.keeps c.in-Err-Failed.ensures.tried c.in-Err-Failed.ensures.others told whole);
    }

pub returns-clause-checks : goal.returns-clause-checks
returns-clause-checks g c =
    let f = g.F.Files in
    let journal = c.args.journal.now in
    record {
      did = inl (record {
        why = inr (refl, lacking-stood _ _ c.open_stores.result (c.in-Err-NoMemory.is ∙ ap Err c.in-Err-NoMemory.field-0-is) c.open_stores.ensures.cause);
        untouched = refl;
      });
      holds = λ told. (c.in-Err-NoMemory.ensures.keeps told journal, c.in-Err-NoMemory.ensures.keeps told (second_name journal));
      images = λ told whole. quiet-looked (in_files f journal c.args.files.now).stories (in_files f journal c.open_stores.new.files).stories
          (files-quiet f journal c.args.files.now c.open_stores.new.files c.as_str.result.now (c.as_str.ensures.value ∙ c.in-Ok.ensures.name)
          (λ is. c.in-Ok.ensures.other (sym is ∙ c.as_str.ensures.value ∙ c.in-Ok.ensures.name)) c.in-Err-NoMemory.ensures.keeps c.in-Err-NoMemory.ensures.tried c.in-Err-NoMemory.ensures.others told whole);
    }

pub returns-in-Ok-open_stores-clause-keeps : goal.returns-in-Ok-open_stores-clause-keeps
returns-in-Ok-open_stores-clause-keeps g c tells =
    let f = g.F.Files in
    let journal = c.args.journal.now in
    let same = c.check_on_disks-stores.ensures.holds (c.in-Ok-open_stores.ensures.told tells) in
    let again : c.as_str-in-Ok-open_stores.result.now ≡ c.as_str.result.now = c.as_str-in-Ok-open_stores.ensures.value ∙ sym c.as_str.ensures.value in
    let P : List ℕ → Type 0 = λ file. unwrap_or (f.holds c.close_stores.new.files file) [] ≡ unwrap_or (f.holds c.args.files.now file) [] in
    let second : P c.as_str.result.now =
    ap (λ n. unwrap_or (f.holds c.close_stores.new.files n) []) (sym again)
    ∙ ap (λ h. unwrap_or h []) (c.close_stores.ensures.second_bytes tells) ∙ same.1 ∙ c.in-Ok-open_stores.ensures.second_bytes tells in
    of-each P journal
    (ap (λ h. unwrap_or h []) (c.close_stores.ensures.first_bytes tells) ∙ same.0 ∙ c.in-Ok-open_stores.ensures.first_bytes tells)
    (λ file not_first.
    of-each (λ n. n ≢ journal → P n) c.as_str.result.now (λ _. second)
    (λ n not_second apart.
    ap (λ h. unwrap_or h []) (c.close_stores.ensures.stays tells n apart (λ is. not_second (is ∙ again)))
    ∙ c.in-Ok-open_stores.ensures.keeps tells n) file not_first)
