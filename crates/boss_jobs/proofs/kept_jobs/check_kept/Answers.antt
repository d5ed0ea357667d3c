use Rattle.std.proofs.Common.{◌≡◌, [], Some, Ok, List, ℕ, unwrap_or, inl, inr, refl, sym, ap, subst, ◌∙◌, append-nil, vec_len, rules}
use Rattle.boss_jobs.specs.Jobs.{world}
use Rattle.boss_jobs.specs.Journals.{in_files}
use Rattle.boss_jobs.specs.Programs.{usable}
use Rattle.boss_jobs.proofs.KeptLemmas.{checks-kept, more-asked, one-asked}
use Rattle.boss_jobs.proofs.Lifting.{checks-so, later-follow}
use Rattle.boss_jobs.proofs.kept_jobs.check_kept.Goals as goal

pub returns-in-Ok : goal.returns-in-Ok
returns-in-Ok g c =
    let f = g.F.Files in
    let journal = c.args.journal.now in
    let count : c.len.result ≡ vec_len c.args.devices.now = search rules in
    let loads : f.tells → (file : List ℕ) × (f.holds c.args.files.now c.args.name.now ≡ Some file) × (usable (vec_len c.args.devices.now) file ≡ Ok c.in-Ok.catalogue) =
    subst (λ n. f.tells → (file : List ℕ) × (f.holds c.args.files.now c.args.name.now ≡ Some file) × (usable n file ≡ Ok c.in-Ok.catalogue)) count c.in-Ok.ensures.loads in
    checks-kept f g.S.Source g.K.Sink g.A.Actuators
    (world c.args.files.now c.args.source.now c.args.sink.now c.args.devices.now.items)
    (world c.check_in_files.new.files c.args.source.now c.check_in_files.new.sink c.args.devices.now.items) c.check_in_files.result.0
    c.args.name.now (vec_len c.args.devices.now) journal
    (inr (inr (record {
      catalogue = c.in-Ok.catalogue;
      spells = loads;
      checks = checks-so (in_files f journal c.args.files.now) (in_files f journal c.check_in_files.new.files) (in_files f journal c.load.new.files) (in_files f journal c.check_in_files.new.files)
          (later-follow f journal c.args.files.now c.load.new.files c.check_in_files.new.files c.in-Ok.ensures.stays c.in-Ok.ensures.past c.in-Ok.ensures.cause)
          g.K.Sink c.in-Ok.catalogue c.args.sink.now c.check_in_files.new.sink c.check_in_files.result.0 c.check_in_files.ensures.checks;
    })))
    (λ tells file. c.check_in_files.ensures.keeps tells file ∙ ap (λ h. unwrap_or h []) (c.in-Ok.ensures.stays tells file))
    refl refl
    (λ tells. more-asked c.args.name.now _ (f.asked c.args.files.now) (f.asked c.load.new.files) (f.asked c.check_in_files.new.files) (c.in-Ok.ensures.asks tells) (c.check_in_files.ensures.asks tells))

pub returns-in-Err-NoMemory : goal.returns-in-Err-NoMemory
returns-in-Err-NoMemory g c =
    let f = g.F.Files in
    let ends = rw c.in-Err-NoMemory.field-0-is at c.in-Err-NoMemory.ensures in
    checks-kept f g.S.Source g.K.Sink g.A.Actuators
    (world c.args.files.now c.args.source.now c.args.sink.now c.args.devices.now.items)
    (world c.load.new.files c.args.source.now c.args.sink.now c.args.devices.now.items) 8
    c.args.name.now (vec_len c.args.devices.now) c.args.journal.now
    (inl (record { why = inr (refl, ends.cause); source = refl; sink = refl; devices = refl }))
    (λ tells file. ap (λ h. unwrap_or h []) (ends.stays tells file))
    refl refl
    (λ tells. elim (ends.asks tells) [
      | inl none ↦ ([], (_, refl), none ∙ sym (append-nil (f.asked c.args.files.now)))
      | inr noted ↦ one-asked c.args.name.now _ _ _ noted
    ])
