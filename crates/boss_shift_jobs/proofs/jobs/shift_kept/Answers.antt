use Rattle.std.proofs.Common.{[], append-nil, Err, inl, inr, List, Ok, refl, rules, Some, subst, sym, vec_len, ℕ, ◌∙◌, ◌≡◌}
use Rattle.boss_jobs.specs.Jobs.{world}
use Rattle.boss_jobs.specs.Journals.{in_files}
use Rattle.boss_jobs.specs.Programs.{usable}
use Rattle.boss_jobs.proofs.KeptLemmas.{more-asked, one-asked}
use Rattle.boss_jobs.proofs.Lifting.{later-follow}
use Rattle.boss_shift_jobs.proofs.Completing.{does-shift}
use Rattle.boss_shift_jobs.proofs.Following.{shifts-so}
use Rattle.boss_shift_jobs.proofs.jobs.shift_kept.Goals as goal

pub returns-in-Ok : goal.returns-in-Ok
returns-in-Ok g c =
    let f = g.F.Files in
    let journal = c.args.journal.now in
    let count : c.len.result ≡ vec_len c.args.devices.now = search rules in
    let loads : f.tells → (file : List ℕ) × (f.holds c.args.files.now c.args.name.now ≡ Some file) × (usable (vec_len c.args.devices.now) file ≡ Ok c.in-Ok.catalogue) =
    subst (λ n. f.tells → (file : List ℕ) × (f.holds c.args.files.now c.args.name.now ≡ Some file) × (usable n file ≡ Ok c.in-Ok.catalogue)) count c.in-Ok.ensures.loads in
    does-shift f g.S.Source g.K.Sink g.A.Actuators c.args.name.now c.args.journal.now c.args.by (vec_len c.args.devices.now)
    (world c.args.files.now c.args.source.now c.args.sink.now c.args.devices.now.items)
    (world c.shift_in_files.new.files c.args.source.now c.shift_in_files.new.sink c.args.devices.now.items) c.shift_in_files.result.0
    (inr (inr (record {
      catalogue = c.in-Ok.catalogue;
      spells = loads;
      shifts = shifts-so (in_files f journal c.args.files.now) (in_files f journal c.shift_in_files.new.files) (in_files f journal c.load.new.files) (in_files f journal c.shift_in_files.new.files)
          g.K.Sink c.in-Ok.catalogue c.args.by c.args.sink.now c.shift_in_files.new.sink c.shift_in_files.result.0
          (later-follow f journal c.args.files.now c.load.new.files c.shift_in_files.new.files c.in-Ok.ensures.stays c.in-Ok.ensures.past c.in-Ok.ensures.cause) c.shift_in_files.ensures.shifts;
    })))
    refl refl
    (λ tells. more-asked c.args.name.now _ (f.asked c.args.files.now) (f.asked c.load.new.files) (f.asked c.shift_in_files.new.files) (c.in-Ok.ensures.asks tells) (c.shift_in_files.ensures.asks tells))
    (λ tells file first second. c.shift_in_files.ensures.others tells file first second ∙ c.in-Ok.ensures.stays tells file)

pub returns-in-Err-Refused : goal.returns-in-Err-Refused
returns-in-Err-Refused g c =
    let f = g.F.Files in
    let ends = rw c.in-Err-Refused.field-0-is at c.in-Err-Refused.ensures in
    let count : c.len.result ≡ vec_len c.args.devices.now = search rules in
    let loads : f.tells → (file : List ℕ) × (f.holds c.args.files.now c.args.name.now ≡ Some file) × (usable (vec_len c.args.devices.now) file ≡ Err c.in-Err-Refused.refusal) =
    subst (λ n. f.tells → (file : List ℕ) × (f.holds c.args.files.now c.args.name.now ≡ Some file) × (usable n file ≡ Err c.in-Err-Refused.refusal)) count ends.loads in
    does-shift f g.S.Source g.K.Sink g.A.Actuators c.args.name.now c.args.journal.now c.args.by (vec_len c.args.devices.now)
    (world c.args.files.now c.args.source.now c.args.sink.now c.args.devices.now.items)
    (world c.load.new.files c.args.source.now c.say_refusal.new.sink c.args.devices.now.items) c.say_refusal.result.0
    (inr (inl (record { refusal = c.in-Err-Refused.refusal; spells = loads; tells = c.say_refusal.ensures; files = ends.cause; source = refl; devices = refl })))
    refl refl
    (λ tells. one-asked c.args.name.now _ _ _ (ends.asks tells))
    (λ tells file first second. ends.stays tells file)

pub returns-in-Err-FileFault : goal.returns-in-Err-FileFault
returns-in-Err-FileFault g c =
    let f = g.F.Files in
    let ends = rw c.in-Err-FileFault.field-0-is at c.in-Err-FileFault.ensures in
    does-shift f g.S.Source g.K.Sink g.A.Actuators c.args.name.now c.args.journal.now c.args.by (vec_len c.args.devices.now)
    (world c.args.files.now c.args.source.now c.args.sink.now c.args.devices.now.items)
    (world c.load.new.files c.args.source.now c.args.sink.now c.args.devices.now.items) 5
    (inl (record { why = inl (refl, ends.cause); source = refl; sink = refl; devices = refl }))
    refl refl
    (λ tells. one-asked c.args.name.now _ _ _ (ends.asks tells))
    (λ tells file first second. ends.stays tells file)

pub returns-in-Err-NoMemory : goal.returns-in-Err-NoMemory
returns-in-Err-NoMemory g c =
    let f = g.F.Files in
    let ends = rw c.in-Err-NoMemory.field-0-is at c.in-Err-NoMemory.ensures in
    does-shift f g.S.Source g.K.Sink g.A.Actuators c.args.name.now c.args.journal.now c.args.by (vec_len c.args.devices.now)
    (world c.args.files.now c.args.source.now c.args.sink.now c.args.devices.now.items)
    (world c.load.new.files c.args.source.now c.args.sink.now c.args.devices.now.items) 8
    (inl (record { why = inr (refl, ends.cause); source = refl; sink = refl; devices = refl }))
    refl refl
    (λ tells. elim (ends.asks tells) [
      | inl none ↦ ([], (_, refl), none ∙ sym (append-nil (f.asked c.args.files.now)))
      | inr noted ↦ one-asked c.args.name.now _ _ _ noted
    ])
    (λ tells file first second. ends.stays tells file)
