use Rattle.std.proofs.Common.{◌≡◌, [], ◌∷◌, Ok, Err, inl, inr, refl, subst, vec_len, rules, ◌∙◌}
use Rattle.boss_files.specs.Names.{second_name}
use Rattle.boss_jobs.specs.Jobs.{world}
use Rattle.boss_jobs.specs.Journals.{in_files}
use Rattle.boss_jobs.proofs.Lifting.{later-follow}
use Rattle.boss_jobs.specs.declared.catalogue.Unusable.TheVariants as unusable
use Rattle.boss_adopt_jobs.specs.Loads.{LoadsBoth}
use Rattle.boss_adopt_jobs.proofs.Completing.{does-adopt}
use Rattle.boss_adopt_jobs.proofs.Following.{adopts-so}
use Rattle.boss_adopt_jobs.proofs.Loading.{both-asked, front-of}
use Rattle.boss_adopt_jobs.proofs.jobs.adopt_kept.Goals as goal

pub returns-in-Ok : goal.returns-in-Ok
returns-in-Ok g c =
    let f = g.F.Files in
    let ends = c.in-Ok.ensures in
    let count : c.len.result ≡ vec_len c.args.devices.now = search rules in
    let loads : LoadsBoth f (vec_len c.args.devices.now) c.args.files.now c.args.old_name.now c.args.new_name.now (Ok c.in-Ok.change) =
    subst (λ n. LoadsBoth f n c.args.files.now c.args.old_name.now c.args.new_name.now (Ok c.in-Ok.change)) count ends.loads in
    let journal = c.args.journal.now in
    does-adopt f g.S.Source g.K.Sink g.A.Actuators c.args.old_name.now c.args.new_name.now (vec_len c.args.devices.now)
    (world c.args.files.now c.args.source.now c.args.sink.now c.args.devices.now.items)
    (world c.adopt_in_files.new.files c.args.source.now c.adopt_in_files.new.sink c.args.devices.now.items) c.adopt_in_files.result.0 c.args.journal.now
    (inr (inr (inr (record {
      old_catalogue = c.in-Ok.change.old;
      old_spells = loads.0;
      new_catalogue = c.in-Ok.change.new;
      new_spells = loads.1;
      adopts = adopts-so (in_files f journal c.args.files.now) (in_files f journal c.adopt_in_files.new.files) (in_files f journal c.load_both.new.files) (in_files f journal c.adopt_in_files.new.files)
          g.K.Sink c.in-Ok.change.old c.in-Ok.change.new c.args.sink.now c.adopt_in_files.new.sink c.adopt_in_files.result.0
          (later-follow f journal c.args.files.now c.load_both.new.files c.adopt_in_files.new.files ends.stays ends.past ends.cause) c.adopt_in_files.ensures.adopts;
    }))))
    refl refl
    (λ tells. both-asked c.args.old_name.now c.args.new_name.now _ _ _ _ (ends.asks tells) (c.adopt_in_files.ensures.asks tells))
    (λ tells file first second. c.adopt_in_files.ensures.others tells file first second ∙ ends.stays tells file)

pub returns-in-Err-Refused : goal.returns-in-Err-Refused
returns-in-Err-Refused g c =
    let f = g.F.Files in
    let ends = rw c.in-Err-Refused.field-0-is at c.in-Err-Refused.ensures in
    let count : c.len.result ≡ vec_len c.args.devices.now = search rules in
    let loads : LoadsBoth f (vec_len c.args.devices.now) c.args.files.now c.args.old_name.now c.args.new_name.now (Err (unusable.Refused c.in-Err-Refused.refusal)) =
    subst (λ n. LoadsBoth f n c.args.files.now c.args.old_name.now c.args.new_name.now (Err (unusable.Refused c.in-Err-Refused.refusal))) count ends.loads in
    does-adopt f g.S.Source g.K.Sink g.A.Actuators c.args.old_name.now c.args.new_name.now (vec_len c.args.devices.now)
    (world c.args.files.now c.args.source.now c.args.sink.now c.args.devices.now.items)
    (world c.load_both.new.files c.args.source.now c.say_refusal.new.sink c.args.devices.now.items) c.say_refusal.result.0 c.args.journal.now
    (elim loads [
      | inl first ↦ inr (inl (record { refusal = c.in-Err-Refused.refusal; spells = first; tells = c.say_refusal.ensures; files = ends.cause; source = refl; devices = refl }))
      | inr second ↦ inr (inr (inl (record {
        old_catalogue = second.0;
        old_spells = second.1;
        refused = record { refusal = c.in-Err-Refused.refusal; spells = second.2; tells = c.say_refusal.ensures; files = ends.cause; source = refl; devices = refl };
      })))
    ])
    refl refl
    (λ tells. front-of (c.args.old_name.now ∷ c.args.new_name.now ∷ []) (c.args.journal.now ∷ second_name c.args.journal.now ∷ []) _ _ (ends.asks tells))
    (λ tells file first second. ends.stays tells file)

pub returns-in-Err-FileFault : goal.returns-in-Err-FileFault
returns-in-Err-FileFault g c =
    let f = g.F.Files in
    let ends = rw c.in-Err-FileFault.field-0-is at c.in-Err-FileFault.ensures in
    does-adopt f g.S.Source g.K.Sink g.A.Actuators c.args.old_name.now c.args.new_name.now (vec_len c.args.devices.now)
    (world c.args.files.now c.args.source.now c.args.sink.now c.args.devices.now.items)
    (world c.load_both.new.files c.args.source.now c.args.sink.now c.args.devices.now.items) 5 c.args.journal.now
    (inl (record { why = inl (refl, ends.cause); source = refl; sink = refl; devices = refl }))
    refl refl
    (λ tells. front-of (c.args.old_name.now ∷ c.args.new_name.now ∷ []) (c.args.journal.now ∷ second_name c.args.journal.now ∷ []) _ _ (ends.asks tells))
    (λ tells file first second. ends.stays tells file)

pub returns-in-Err-NoMemory : goal.returns-in-Err-NoMemory
returns-in-Err-NoMemory g c =
    let f = g.F.Files in
    let ends = rw c.in-Err-NoMemory.field-0-is at c.in-Err-NoMemory.ensures in
    does-adopt f g.S.Source g.K.Sink g.A.Actuators c.args.old_name.now c.args.new_name.now (vec_len c.args.devices.now)
    (world c.args.files.now c.args.source.now c.args.sink.now c.args.devices.now.items)
    (world c.load_both.new.files c.args.source.now c.args.sink.now c.args.devices.now.items) 8 c.args.journal.now
    (inl (record { why = inr (refl, ends.cause); source = refl; sink = refl; devices = refl }))
    refl refl
    (λ tells. front-of (c.args.old_name.now ∷ c.args.new_name.now ∷ []) (c.args.journal.now ∷ second_name c.args.journal.now ∷ []) _ _ (ends.asks tells))
    (λ tells file first second. ends.stays tells file)
