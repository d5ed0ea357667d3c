use Rattle.std.proofs.Common.{◌≡◌, [], Ok, Err, inl, inr, refl, subst, vec_len, rules, unwrap_or, ap}
use Rattle.boss_jobs.specs.Jobs.{TellsLine, world}
use Rattle.boss_jobs.specs.declared.catalogue.Unusable.TheVariants as unusable
use Rattle.boss_adopt_jobs.specs.Loads.{LoadsBoth}
use Rattle.boss_adopt_jobs.proofs.Completing.{does-adopt-memory}
use Rattle.boss_jobs.proofs.KeptLemmas.{none-asked}
use Rattle.boss_adopt_jobs.proofs.Loading.{both-asked}
use Rattle.boss_adopt_jobs.proofs.jobs.adopt_memory.Goals as goal

pub returns-in-Ok : goal.returns-in-Ok
returns-in-Ok g c =
    let f = g.F.Files in
    let ends = c.in-Ok.ensures in
    let count : c.len.result ≡ vec_len c.args.devices.now = search rules in
    let loads : LoadsBoth f (vec_len c.args.devices.now) c.args.files.now c.args.old_name.now c.args.new_name.now (Ok c.in-Ok._change) =
    subst (λ n. LoadsBoth f n c.args.files.now c.args.old_name.now c.args.new_name.now (Ok c.in-Ok._change)) count ends.loads in
    does-adopt-memory f g.S.Source g.K.Sink g.A.Actuators c.args.old_name.now c.args.new_name.now (vec_len c.args.devices.now)
    (world c.args.files.now c.args.source.now c.args.sink.now c.args.devices.now.items)
    (world c.load_both.new.files c.args.source.now c.say.new.sink c.args.devices.now.items) c.say.result.0
    (inr (inr (inr (record {
      old_catalogue = c.in-Ok._change.old;
      old_spells = loads.0;
      new_catalogue = c.in-Ok._change.new;
      new_spells = loads.1;
      tells = subst (λ line. TellsLine g.K.Sink line 0 c.args.sink.now c.say.new.sink c.say.result.0) c.new_line.ensures c.say.ensures;
      files = ends.cause;
    }))))
    (λ tells file. ap (λ h. unwrap_or h []) (ends.stays tells file))
    refl refl
    (λ tells. both-asked c.args.old_name.now c.args.new_name.now _ _ _ _ (ends.asks tells) (none-asked [] _))

pub returns-in-Err-Refused : goal.returns-in-Err-Refused
returns-in-Err-Refused g c =
    let f = g.F.Files in
    let ends = rw c.in-Err-Refused.field-0-is at c.in-Err-Refused.ensures in
    let count : c.len.result ≡ vec_len c.args.devices.now = search rules in
    let loads : LoadsBoth f (vec_len c.args.devices.now) c.args.files.now c.args.old_name.now c.args.new_name.now (Err (unusable.Refused c.in-Err-Refused.refusal)) =
    subst (λ n. LoadsBoth f n c.args.files.now c.args.old_name.now c.args.new_name.now (Err (unusable.Refused c.in-Err-Refused.refusal))) count ends.loads in
    does-adopt-memory f g.S.Source g.K.Sink g.A.Actuators c.args.old_name.now c.args.new_name.now (vec_len c.args.devices.now)
    (world c.args.files.now c.args.source.now c.args.sink.now c.args.devices.now.items)
    (world c.load_both.new.files c.args.source.now c.say_refusal.new.sink c.args.devices.now.items) c.say_refusal.result.0
    (elim loads [
      | inl first ↦ inr (inl (record { refusal = c.in-Err-Refused.refusal; spells = first; tells = c.say_refusal.ensures; files = ends.cause; source = refl; devices = refl }))
      | inr second ↦ inr (inr (inl (record {
        old_catalogue = second.0;
        old_spells = second.1;
        refused = record { refusal = c.in-Err-Refused.refusal; spells = second.2; tells = c.say_refusal.ensures; files = ends.cause; source = refl; devices = refl };
      })))
    ])
    (λ tells file. ap (λ h. unwrap_or h []) (ends.stays tells file))
    refl refl
    (λ tells. ends.asks tells)

pub returns-in-Err-FileFault : goal.returns-in-Err-FileFault
returns-in-Err-FileFault g c =
    let f = g.F.Files in
    let ends = rw c.in-Err-FileFault.field-0-is at c.in-Err-FileFault.ensures in
    does-adopt-memory f g.S.Source g.K.Sink g.A.Actuators c.args.old_name.now c.args.new_name.now (vec_len c.args.devices.now)
    (world c.args.files.now c.args.source.now c.args.sink.now c.args.devices.now.items)
    (world c.load_both.new.files c.args.source.now c.args.sink.now c.args.devices.now.items) 5
    (inl (record { why = inl (refl, ends.cause); source = refl; sink = refl; devices = refl }))
    (λ tells file. ap (λ h. unwrap_or h []) (ends.stays tells file))
    refl refl
    (λ tells. ends.asks tells)

pub returns-in-Err-NoMemory : goal.returns-in-Err-NoMemory
returns-in-Err-NoMemory g c =
    let f = g.F.Files in
    let ends = rw c.in-Err-NoMemory.field-0-is at c.in-Err-NoMemory.ensures in
    does-adopt-memory f g.S.Source g.K.Sink g.A.Actuators c.args.old_name.now c.args.new_name.now (vec_len c.args.devices.now)
    (world c.args.files.now c.args.source.now c.args.sink.now c.args.devices.now.items)
    (world c.load_both.new.files c.args.source.now c.args.sink.now c.args.devices.now.items) 8
    (inl (record { why = inr (refl, ends.cause); source = refl; sink = refl; devices = refl }))
    (λ tells file. ap (λ h. unwrap_or h []) (ends.stays tells file))
    refl refl
    (λ tells. ends.asks tells)
