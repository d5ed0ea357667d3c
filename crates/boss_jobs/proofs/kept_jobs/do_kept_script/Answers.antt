use Rattle.std.proofs.Common.{◌≡◌, [], Some, Ok, List, ℕ, inl, inr, refl, sym, subst, ◌∙◌, append-nil, vec_len, rules}
use Rattle.boss_jobs.specs.Jobs.{world}
use Rattle.boss_jobs.specs.Journals.{in_files}
use Rattle.boss_jobs.specs.Programs.{usable}
use Rattle.boss_jobs.proofs.KeptLemmas.{does-kept, more-asked, one-asked}
use Rattle.boss_jobs.proofs.Lifting.{later-follow, runs-so}
use Rattle.boss_jobs.proofs.kept_jobs.do_kept_script.Goals as goal

pub returns-in-Ok : goal.returns-in-Ok
returns-in-Ok g c =
    let f = g.F.Files in
    let journal = c.args.journal.now in
    let count : c.len.result ≡ vec_len c.args.devices.now = search rules in
    let loads : f.tells → (file : List ℕ) × (f.holds c.args.files.now c.args.name.now ≡ Some file) × (usable (vec_len c.args.devices.now) file ≡ Ok c.in-Ok.catalogue) =
    subst (λ n. f.tells → (file : List ℕ) × (f.holds c.args.files.now c.args.name.now ≡ Some file) × (usable n file ≡ Ok c.in-Ok.catalogue)) count c.in-Ok.ensures.loads in
    does-kept f g.S.Source g.K.Sink g.A.Actuators
    (world c.args.files.now c.args.source.now c.args.sink.now c.args.devices.now.items)
    (world c.run_in_files.new.files c.run_in_files.new.source c.run_in_files.new.sink c.run_in_files.new.devices.items) c.run_in_files.result.0
    c.args.name.now (vec_len c.args.devices.now) journal
    (inr (inr (record {
      catalogue = c.in-Ok.catalogue;
      spells = loads;
      runs = runs-so (in_files f journal c.args.files.now) (in_files f journal c.run_in_files.new.files) (in_files f journal c.load.new.files) (in_files f journal c.run_in_files.new.files)
          (later-follow f journal c.args.files.now c.load.new.files c.run_in_files.new.files c.in-Ok.ensures.stays c.in-Ok.ensures.past c.in-Ok.ensures.cause)
          g.S.Source g.K.Sink g.A.Actuators c.in-Ok.catalogue _ _ _ c.run_in_files.ensures.runs;
    })))
    (λ tells. more-asked c.args.name.now _ (f.asked c.args.files.now) (f.asked c.load.new.files) (f.asked c.run_in_files.new.files) (c.in-Ok.ensures.asks tells) (c.run_in_files.ensures.asks tells))
    (λ tells file first second. c.run_in_files.ensures.others tells file first second ∙ c.in-Ok.ensures.stays tells file)

pub returns-in-Err-NoMemory : goal.returns-in-Err-NoMemory
returns-in-Err-NoMemory g c =
    let f = g.F.Files in
    let ends = rw c.in-Err-NoMemory.field-0-is at c.in-Err-NoMemory.ensures in
    does-kept f g.S.Source g.K.Sink g.A.Actuators
    (world c.args.files.now c.args.source.now c.args.sink.now c.args.devices.now.items)
    (world c.load.new.files c.args.source.now c.args.sink.now c.args.devices.now.items) 8
    c.args.name.now (vec_len c.args.devices.now) c.args.journal.now
    (inl (record { why = inr (refl, ends.cause); source = refl; sink = refl; devices = refl }))
    (λ tells. elim (ends.asks tells) [
      | inl none ↦ ([], (_, refl), none ∙ sym (append-nil (f.asked c.args.files.now)))
      | inr noted ↦ one-asked c.args.name.now _ _ _ noted
    ])
    (λ tells file first second. ends.stays tells file)
