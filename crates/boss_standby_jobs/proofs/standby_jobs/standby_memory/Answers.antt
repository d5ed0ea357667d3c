use Rattle.std.proofs.Common.{[], ap, append-nil, Err, inl, inr, List, Ok, refl, rules, Some, subst, sym, unwrap_or, vec_len, ℕ, ◌∙◌, ◌≡◌}
use Rattle.boss_jobs.specs.Jobs.{world}
use Rattle.boss_jobs.specs.Programs.{usable}
use Rattle.boss_jobs.proofs.KeptLemmas.{one-asked}
use Rattle.boss_standby_jobs.proofs.Completed.{standby-memory}
use Rattle.boss_standby_jobs.proofs.standby_jobs.standby_memory.Goals as goal

pub returns-in-Ok : goal.returns-in-Ok
returns-in-Ok g c =
    let f = g.F.Files in
    let count : c.len.result ≡ vec_len c.args.devices.now = search rules in
    let loads : f.tells → (file : List ℕ) × (f.holds c.args.files.now c.args.name.now ≡ Some file) × (usable (vec_len c.args.devices.now) file ≡ Ok c.in-Ok.catalogue) =
    subst (λ n. f.tells → (file : List ℕ) × (f.holds c.args.files.now c.args.name.now ≡ Some file) × (usable n file ≡ Ok c.in-Ok.catalogue)) count c.in-Ok.ensures.loads in
    standby-memory f g.S.Source g.K.Sink g.A.Actuators
    (world c.args.files.now c.args.source.now c.args.sink.now c.args.devices.now.items)
    (world c.load.new.files c.follow_in_memory.new.source c.follow_in_memory.new.sink c.args.devices.now.items) c.follow_in_memory.result.0
    c.args.name.now (vec_len c.args.devices.now)
    (inr (inr (record {
      catalogue = c.in-Ok.catalogue;
      spells = loads;
      follows = c.follow_in_memory.ensures;
      files = c.in-Ok.ensures.cause;
    })))
    (λ tells file. ap (λ h. unwrap_or h []) (c.in-Ok.ensures.stays tells file))
    refl
    (λ tells. one-asked c.args.name.now _ _ _ (c.in-Ok.ensures.asks tells))

pub returns-in-Err-Refused : goal.returns-in-Err-Refused
returns-in-Err-Refused g c =
    let f = g.F.Files in
    let ends = rw c.in-Err-Refused.field-0-is at c.in-Err-Refused.ensures in
    let count : c.len.result ≡ vec_len c.args.devices.now = search rules in
    let loads : f.tells → (file : List ℕ) × (f.holds c.args.files.now c.args.name.now ≡ Some file) × (usable (vec_len c.args.devices.now) file ≡ Err c.in-Err-Refused.refusal) =
    subst (λ n. f.tells → (file : List ℕ) × (f.holds c.args.files.now c.args.name.now ≡ Some file) × (usable n file ≡ Err c.in-Err-Refused.refusal)) count ends.loads in
    standby-memory f g.S.Source g.K.Sink g.A.Actuators
    (world c.args.files.now c.args.source.now c.args.sink.now c.args.devices.now.items)
    (world c.load.new.files c.args.source.now c.say_refusal.new.sink c.args.devices.now.items) c.say_refusal.result.0
    c.args.name.now (vec_len c.args.devices.now)
    (inr (inl (record { refusal = c.in-Err-Refused.refusal; spells = loads; tells = c.say_refusal.ensures; files = ends.cause; source = refl; devices = refl })))
    (λ tells file. ap (λ h. unwrap_or h []) (ends.stays tells file))
    refl
    (λ tells. one-asked c.args.name.now _ _ _ (ends.asks tells))

pub returns-in-Err-FileFault : goal.returns-in-Err-FileFault
returns-in-Err-FileFault g c =
    let f = g.F.Files in
    let ends = rw c.in-Err-FileFault.field-0-is at c.in-Err-FileFault.ensures in
    standby-memory f g.S.Source g.K.Sink g.A.Actuators
    (world c.args.files.now c.args.source.now c.args.sink.now c.args.devices.now.items)
    (world c.load.new.files c.args.source.now c.args.sink.now c.args.devices.now.items) 5
    c.args.name.now (vec_len c.args.devices.now)
    (inl (record { why = inl (refl, ends.cause); source = refl; sink = refl; devices = refl }))
    (λ tells file. ap (λ h. unwrap_or h []) (ends.stays tells file))
    refl
    (λ tells. one-asked c.args.name.now _ _ _ (ends.asks tells))

pub returns-in-Err-NoMemory : goal.returns-in-Err-NoMemory
returns-in-Err-NoMemory g c =
    let f = g.F.Files in
    let ends = rw c.in-Err-NoMemory.field-0-is at c.in-Err-NoMemory.ensures in
    standby-memory f g.S.Source g.K.Sink g.A.Actuators
    (world c.args.files.now c.args.source.now c.args.sink.now c.args.devices.now.items)
    (world c.load.new.files c.args.source.now c.args.sink.now c.args.devices.now.items) 8
    c.args.name.now (vec_len c.args.devices.now)
    (inl (record { why = inr (refl, ends.cause); source = refl; sink = refl; devices = refl }))
    (λ tells file. ap (λ h. unwrap_or h []) (ends.stays tells file))
    refl
    (λ tells. elim (ends.asks tells) [
      | inl none ↦ ([], (_, refl), none ∙ sym (append-nil (f.asked c.args.files.now)))
      | inr noted ↦ one-asked c.args.name.now _ _ _ noted
    ])
