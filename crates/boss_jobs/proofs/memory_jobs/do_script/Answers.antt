use Rattle.std.proofs.Common.{◌≡◌, Some, Ok, Err, List, ℕ, inl, inr, refl, subst, vec_len, rules}
use Rattle.boss_jobs.specs.Jobs.{world}
use Rattle.boss_jobs.specs.Programs.{usable}
use Rattle.boss_jobs.proofs.JobLemmas.{does}
use Rattle.boss_jobs.proofs.memory_jobs.do_script.Goals as goal

pub returns-in-Ok : goal.returns-in-Ok
returns-in-Ok g c =
    let count : c.len.result ≡ vec_len c.args.devices.now = search rules in
    let loads : g.F.Files.tells → (file : List ℕ) × (g.F.Files.holds c.args.files.now c.args.name.now ≡ Some file) × (usable (vec_len c.args.devices.now) file ≡ Ok c.in-Ok.catalogue) =
    subst (λ n. g.F.Files.tells → (file : List ℕ) × (g.F.Files.holds c.args.files.now c.args.name.now ≡ Some file) × (usable n file ≡ Ok c.in-Ok.catalogue)) count c.in-Ok.ensures.loads in
    does g.F.Files g.S.Source g.K.Sink g.A.Actuators c.args.name.now (vec_len c.args.devices.now)
    (world c.args.files.now c.args.source.now c.args.sink.now c.args.devices.now.items)
    (world c.load.new.files c.script_run.new.source c.script_run.new.sink c.script_run.new.devices.items) _
    (inr (inr (record { catalogue = c.in-Ok.catalogue; spells = loads; files = c.in-Ok.ensures.cause; script = c.script_run.ensures })))
    (λ tells. inl (c.in-Ok.ensures.asks tells))

pub returns-in-Err-Refused : goal.returns-in-Err-Refused
returns-in-Err-Refused g c =
    let count : c.len.result ≡ vec_len c.args.devices.now = search rules in
    let ends = rw c.in-Err-Refused.field-0-is at c.in-Err-Refused.ensures in
    let loads : g.F.Files.tells → (file : List ℕ) × (g.F.Files.holds c.args.files.now c.args.name.now ≡ Some file) × (usable (vec_len c.args.devices.now) file ≡ Err c.in-Err-Refused.refusal) =
    subst (λ n. g.F.Files.tells → (file : List ℕ) × (g.F.Files.holds c.args.files.now c.args.name.now ≡ Some file) × (usable n file ≡ Err c.in-Err-Refused.refusal)) count ends.loads in
    does g.F.Files g.S.Source g.K.Sink g.A.Actuators c.args.name.now (vec_len c.args.devices.now)
    (world c.args.files.now c.args.source.now c.args.sink.now c.args.devices.now.items)
    (world c.load.new.files c.args.source.now c.say_refusal.new.sink c.args.devices.now.items) _
    (inr (inl (record { refusal = c.in-Err-Refused.refusal; spells = loads; tells = c.say_refusal.ensures; files = ends.cause; source = refl; devices = refl })))
    (λ tells. inl (ends.asks tells))

pub returns-in-Err-FileFault : goal.returns-in-Err-FileFault
returns-in-Err-FileFault g c =
    let ends = rw c.in-Err-FileFault.field-0-is at c.in-Err-FileFault.ensures in
    does g.F.Files g.S.Source g.K.Sink g.A.Actuators c.args.name.now (vec_len c.args.devices.now)
    (world c.args.files.now c.args.source.now c.args.sink.now c.args.devices.now.items)
    (world c.load.new.files c.args.source.now c.args.sink.now c.args.devices.now.items) 5
    (inl (record { why = inl (refl, ends.cause); source = refl; sink = refl; devices = refl }))
    (λ tells. inl (ends.asks tells))

pub returns-in-Err-NoMemory : goal.returns-in-Err-NoMemory
returns-in-Err-NoMemory g c =
    let ends = rw c.in-Err-NoMemory.field-0-is at c.in-Err-NoMemory.ensures in
    does g.F.Files g.S.Source g.K.Sink g.A.Actuators c.args.name.now (vec_len c.args.devices.now)
    (world c.args.files.now c.args.source.now c.args.sink.now c.args.devices.now.items)
    (world c.load.new.files c.args.source.now c.args.sink.now c.args.devices.now.items) 8
    (inl (record { why = inr (refl, ends.cause); source = refl; sink = refl; devices = refl }))
    (λ tells. elim (ends.asks tells) [ inl none ↦ inr (refl, none) | inr noted ↦ inl noted ])
