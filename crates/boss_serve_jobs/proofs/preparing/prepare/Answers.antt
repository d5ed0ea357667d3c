use Rattle.std.proofs.Common.{◌≡◌, ◌⊎◌, inl, inr, ℕ, List, [], ◌∷◌, ◌++◌, Some, Ok, refl, subst, ◌∙◌, vec_len, rules}
use Rattle.boss_access.specs.Lines.{refusal_line as rules_refusal_line}
use Rattle.boss_keys.specs.Lines.{refusal_line as keys_refusal_line}
use Rattle.boss_plans.specs.Lines.{refusal_line as plan_refusal_line}
use Rattle.boss_jobs.specs.Programs.{usable}
use Rattle.boss_serve_jobs.specs.Preparing.{listed, reading, setting}
use Rattle.boss_serve_jobs.proofs.PreparingLemmas.{all-then-front, all-then-more, front-of-more, keyed-before, keys-refused-before, maybe-asked, none-then, plan-refused-before, refused-then, ruled-before, rules-refused-before}
use Rattle.boss_serve_jobs.proofs.preparing.prepare.Goals as goal

-- ---- no memory for the catalogue

pub returns-in-Err-NoMemory-clause-asks : goal.returns-in-Err-NoMemory-clause-asks
returns-in-Err-NoMemory-clause-asks g c tells =
    let old = g.F.Files.asked c.args.files.now in
    let new = g.F.Files.asked c.load.new.files in
    let asked : (new ≡ old) ⊎ (new ≡ old ++ c.args.name.now ∷ []) = rw c.in-Err-NoMemory.field-0-is at (c.in-Err-NoMemory.ensures.asks tells) in
    let one = maybe-asked (Some c.args.name.now) c.args.name.now old new refl asked in
    let ruled = front-of-more (c.args.name.now ∷ []) (listed c.args.rules.now) old new one in
    let keyed = front-of-more (c.args.name.now ∷ listed c.args.rules.now) (listed c.args.keys.now) old new ruled in
    front-of-more (c.args.name.now ∷ listed c.args.rules.now ++ listed c.args.keys.now) (listed c.args.plan.now) old new keyed

-- ---- the rules were refused, or not to be had

pub returns-in-Err-clause-prepares : goal.returns-in-Err-clause-prepares
returns-in-Err-clause-prepares g c =
    let f = g.F.Files in
    let k = g.K.Sink in
    let old = setting c.args.files.now c.args.sink.now c.args.devices.now.items in
    let mid = setting c.load.new.files c.args.sink.now c.args.devices.now.items in
    let new = setting c.take_rules.new.files c.take_rules.new.sink c.args.devices.now.items in
    let was = reading c.load.new.files c.args.sink.now in
    let now = reading c.take_rules.new.files c.take_rules.new.sink in
    let count : c.len.result ≡ vec_len c.args.devices.now = search rules in
    elim c.in-Err.ensures.gives [
      | inl none ↦ inl (none-then f k old mid new was now c.in-Err.status.0 refl refl refl refl refl c.in-Ok.ensures.cause refl none)
      | inr refused ↦ inr (inr (inl (record {
        catalogue = c.in-Ok.catalogue;
        comes = subst (λ n. f.tells → (file : List ℕ) × (f.holds c.args.files.now c.args.name.now ≡ Some file) × (usable n file ≡ Ok c.in-Ok.catalogue)) count c.in-Ok.ensures.loads;
        refusal = refused.0;
        refuses = rules-refused-before f c.args.files.now c.load.new.files c.in-Ok.ensures.stays c.args.rules.now refused.0 refused.1;
        ends = refused-then f k old mid new was now c.in-Err.status.0 refl refl refl refl refl c.in-Ok.ensures.cause refl (rules_refusal_line refused.0) 16 refused.2;
      })))
    ]

pub returns-in-Err-clause-asks : goal.returns-in-Err-clause-asks
returns-in-Err-clause-asks g c tells =
    let f = g.F.Files in
    let old = f.asked c.args.files.now in
    let new = f.asked c.take_rules.new.files in
    let ruled = all-then-front (c.args.name.now ∷ []) (listed c.args.rules.now) old (f.asked c.load.new.files) new (c.in-Ok.ensures.asks tells) (c.in-Err.ensures.asks tells) in
    let keyed = front-of-more (c.args.name.now ∷ listed c.args.rules.now) (listed c.args.keys.now) old new ruled in
    front-of-more (c.args.name.now ∷ listed c.args.rules.now ++ listed c.args.keys.now) (listed c.args.plan.now) old new keyed

-- ---- the keys were

pub returns-in-Err-take_keys-clause-prepares : goal.returns-in-Err-take_keys-clause-prepares
returns-in-Err-take_keys-clause-prepares g c =
    let f = g.F.Files in
    let k = g.K.Sink in
    let old = setting c.args.files.now c.args.sink.now c.args.devices.now.items in
    let mid = setting c.take_rules.new.files c.take_rules.new.sink c.args.devices.now.items in
    let new = setting c.take_keys.new.files c.take_keys.new.sink c.args.devices.now.items in
    let was = reading c.take_rules.new.files c.take_rules.new.sink in
    let now = reading c.take_keys.new.files c.take_keys.new.sink in
    let ruled = c.in-Ok-take_rules.ensures in
    let fine : f.faults mid.files ≡ f.faults old.files = ruled.gives.1 ∙ c.in-Ok.ensures.cause in
    let untold : mid.sink ≡ old.sink = ruled.gives.2 in
    let count : c.len.result ≡ vec_len c.args.devices.now = search rules in
    elim c.in-Err-take_keys.ensures.gives [
      | inl none ↦ inl (none-then f k old mid new was now c.in-Err-take_keys.status.0 refl refl refl refl refl fine untold none)
      | inr refused ↦ inr (inr (inr (inl (record {
        catalogue = c.in-Ok.catalogue;
        comes = subst (λ n. f.tells → (file : List ℕ) × (f.holds c.args.files.now c.args.name.now ≡ Some file) × (usable n file ≡ Ok c.in-Ok.catalogue)) count c.in-Ok.ensures.loads;
        given = c.in-Ok-take_rules.rules;
        ruled = ruled-before f c.args.files.now c.load.new.files c.in-Ok.ensures.stays c.args.rules.now c.in-Ok-take_rules.rules ruled.gives.0;
        refusal = refused.0;
        refuses = keys-refused-before f c.args.files.now c.take_rules.new.files (λ tells file. ruled.stays tells file ∙ c.in-Ok.ensures.stays tells file) c.args.keys.now refused.0 refused.1;
        ends = refused-then f k old mid new was now c.in-Err-take_keys.status.0 refl refl refl refl refl fine untold (keys_refusal_line refused.0) 19 refused.2;
      }))))
    ]

pub returns-in-Err-take_keys-clause-asks : goal.returns-in-Err-take_keys-clause-asks
returns-in-Err-take_keys-clause-asks g c tells =
    let f = g.F.Files in
    let old = f.asked c.args.files.now in
    let new = f.asked c.take_keys.new.files in
    let ruled = all-then-more (c.args.name.now ∷ []) (listed c.args.rules.now) old (f.asked c.load.new.files) (f.asked c.take_rules.new.files) (c.in-Ok.ensures.asks tells) (c.in-Ok-take_rules.ensures.asks tells) in
    let keyed = all-then-front (c.args.name.now ∷ listed c.args.rules.now) (listed c.args.keys.now) old (f.asked c.take_rules.new.files) new ruled (c.in-Err-take_keys.ensures.asks tells) in
    front-of-more (c.args.name.now ∷ listed c.args.rules.now ++ listed c.args.keys.now) (listed c.args.plan.now) old new keyed

-- ---- the plan was

pub returns-in-Err-take_plan-clause-prepares : goal.returns-in-Err-take_plan-clause-prepares
returns-in-Err-take_plan-clause-prepares g c =
    let f = g.F.Files in
    let k = g.K.Sink in
    let old = setting c.args.files.now c.args.sink.now c.args.devices.now.items in
    let mid = setting c.take_keys.new.files c.take_keys.new.sink c.args.devices.now.items in
    let new = setting c.take_plan.new.files c.take_plan.new.sink c.take_plan.new.devices.items in
    let ruled = c.in-Ok-take_rules.ensures in
    let keyed = c.in-Ok-take_keys.ensures in
    let fine : f.faults mid.files ≡ f.faults old.files = keyed.gives.1 ∙ ruled.gives.1 ∙ c.in-Ok.ensures.cause in
    let untold : mid.sink ≡ old.sink = keyed.gives.2 ∙ ruled.gives.2 in
    let before : f.tells → (file : List ℕ) → f.holds c.take_rules.new.files file ≡ f.holds c.args.files.now file = λ tells file. ruled.stays tells file ∙ c.in-Ok.ensures.stays tells file in
    let count : c.len.result ≡ vec_len c.args.devices.now = search rules in
    elim c.in-Err-take_plan.ensures.gives [
      | inl none ↦ inl (none-then f k old mid new mid new c.in-Err-take_plan.status.0 refl refl refl refl none.devices fine untold none)
      | inr refused ↦ inr (inr (inr (inr (record {
        catalogue = c.in-Ok.catalogue;
        comes = subst (λ n. f.tells → (file : List ℕ) × (f.holds c.args.files.now c.args.name.now ≡ Some file) × (usable n file ≡ Ok c.in-Ok.catalogue)) count c.in-Ok.ensures.loads;
        given = c.in-Ok-take_rules.rules;
        ruled = ruled-before f c.args.files.now c.load.new.files c.in-Ok.ensures.stays c.args.rules.now c.in-Ok-take_rules.rules ruled.gives.0;
        entries = c.in-Ok-take_keys.keys;
        keyed = keyed-before f c.args.files.now c.take_rules.new.files before c.args.keys.now c.in-Ok-take_keys.keys keyed.gives.0;
        refusal = refused.0;
        refuses = plan-refused-before f c.args.files.now c.take_keys.new.files (λ tells file. keyed.stays tells file ∙ before tells file) c.args.plan.now c.in-Ok.catalogue refused.0 refused.1;
        ends = refused-then f k old mid new mid new c.in-Err-take_plan.status.0 refl refl refl refl refused.2.devices fine untold (plan_refusal_line c.in-Ok.catalogue refused.0) 17 refused.2;
      }))))
    ]

pub returns-in-Err-take_plan-clause-asks : goal.returns-in-Err-take_plan-clause-asks
returns-in-Err-take_plan-clause-asks g c tells =
    let f = g.F.Files in
    let old = f.asked c.args.files.now in
    let between = f.asked c.take_keys.new.files in
    let ruled = all-then-more (c.args.name.now ∷ []) (listed c.args.rules.now) old (f.asked c.load.new.files) (f.asked c.take_rules.new.files) (c.in-Ok.ensures.asks tells) (c.in-Ok-take_rules.ensures.asks tells) in
    let keyed = all-then-more (c.args.name.now ∷ listed c.args.rules.now) (listed c.args.keys.now) old (f.asked c.take_rules.new.files) between ruled (c.in-Ok-take_keys.ensures.asks tells) in
    all-then-front (c.args.name.now ∷ listed c.args.rules.now ++ listed c.args.keys.now) (listed c.args.plan.now) old between (f.asked c.take_plan.new.files) keyed (c.in-Err-take_plan.ensures.asks tells)
