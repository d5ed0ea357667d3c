-- What a server was set up with, beside what its files spell; and the files that were asked for.
use Rattle.std.proofs.Common.{◌≡◌, ◌⊎◌, inl, inr, refl, subst, ℕ, List, [], ◌∷◌, ◌++◌, Option, Some, None, Result, Ok, Err, sym, ap, ◌∙◌, append_assoc, append-nil}
use Rattle.boss_model.specs.Catalogue.{Catalogue}
use Rattle.boss_files.specs.declared.files.Files as files
use Rattle.boss_points.specs.declared.CatalogueRefusal.{CatalogueRefusal}
use Rattle.boss_plans.specs.declared.PlanRefusal.{PlanRefusal}
use Rattle.boss_access.specs.declared.refusal.RulesRefusal.{RulesRefusal}
use Rattle.boss_access.specs.declared.rule.Rule.{Rule}
use Rattle.boss_access.specs.Reading.{rules_of}
use Rattle.boss_jobs.specs.Jobs.{TellsLine}
use Rattle.boss_keys.specs.declared.file.KeyFile.{KeyFile}
use Rattle.boss_keys.specs.declared.refusal.KeysRefusal.{KeysRefusal}
use Rattle.boss_keys.specs.Reading.{keys_of}
use Rattle.boss_outside.specs.Counts.{Rose}
use Rattle.boss_outside.specs.declared.actuators.Actuators as actuators
use Rattle.boss_outside.specs.declared.sink.Sink as sink
use Rattle.boss_plans.specs.Plans.{plan_of}
use Rattle.boss_jobs.specs.Journals.{AsksFront}
use Rattle.boss_serve_jobs.specs.Preparing.{AreKeyed, AreRuled, AreSet, Comes, HadNone, listed, Refused, RefusesKeys, RefusesPlan, RefusesRules, Setting, TakesKeys, TakesPlan, TakesRules}
use Rattle.boss_jobs.specs.Programs.{usable}

-- ---- names that were asked for

-- those of the first step, and then all of the next
pub all-then-more : (first names old between new : List (List ℕ)) → between ≡ old ++ first → new ≡ between ++ names → new ≡ old ++ (first ++ names)
all-then-more first names old between new all more = more ∙ ap (λ xs. xs ++ names) all ∙ append_assoc old first names

-- those of the first step, and then some of the next
pub all-then-front : (first names old between new : List (List ℕ)) → between ≡ old ++ first → AsksFront names between new → AsksFront (first ++ names) old new
all-then-front first names old between new all asked = (
  first ++ asked.0,
  (asked.1.0, ap (λ xs. first ++ xs) asked.1.1 ∙ sym (append_assoc first asked.0 asked.1.0)),
  asked.2 ∙ ap (λ xs. xs ++ asked.0) all ∙ append_assoc old first asked.0,
)

-- the front of some is the front of these and more
pub front-of-more : (names more old new : List (List ℕ)) → AsksFront names old new → AsksFront (names ++ more) old new
front-of-more names more old new asked = (
  asked.0,
  (asked.1.0 ++ more, ap (λ xs. xs ++ more) asked.1.1 ∙ append_assoc asked.0 asked.1.0 more),
  asked.2,
)

-- all of them are the front of themselves
pub all-are-front : (names old new : List (List ℕ)) → new ≡ old ++ names → AsksFront names old new
all-are-front names old new all = (names, ([], sym (append-nil names)), all)

-- a file that the words name was asked for, or maybe was, where memory was wanting
pub listed-asked : (word : Option (List ℕ)) (name : List ℕ) (old new : List (List ℕ)) → word ≡ Some name → new ≡ old ++ name ∷ [] → new ≡ old ++ listed word
listed-asked word name old new is asked = asked ∙ ap (λ w. old ++ listed w) (sym is)

pub maybe-asked : (word : Option (List ℕ)) (name : List ℕ) (old new : List (List ℕ)) → word ≡ Some name → (new ≡ old) ⊎ (new ≡ old ++ name ∷ []) → AsksFront (listed word) old new
maybe-asked word name old new is asked = subst (λ w. AsksFront (listed w) old new) (sym is) (elim asked [
  | inl none ↦ ([], (name ∷ [], refl), none ∙ sym (append-nil old))
  | inr one ↦ (name ∷ [], ([], refl), one)
])

-- ---- files

some-same : {X : Type 0} {x y : X} → Some x ≡ Some y → x ≡ y
some-same e = cc

ok-same : {X Y : Type 0} (it : Result X Y) (x y : X) → it ≡ Ok x → it ≡ Ok y → x ≡ y
ok-same it x y e f = cc

not-both : {P X Y : Type 0} (it : Result X Y) (x : X) (y : Y) → it ≡ Ok x → it ≡ Err y → P
not-both it x y e f = absurd cc

module _ {F D : Type 0} (f : files.Ghosts F D) (files : F) (tells : f.tells) where
  module _ (name : List ℕ) (count : ℕ) (file : List ℕ) (catalogue : Catalogue) (holds : f.holds files name ≡ Some file) (used : usable count file ≡ Ok catalogue) where
    -- a catalogue that can be used is not refused
    pub not-refused : {P : Type 0} (refusal : CatalogueRefusal) → Comes f name count files (Err refusal) → P
    not-refused refusal comes =
        let spelt = comes tells in
        let same : spelt.0 ≡ file = some-same (sym spelt.1 ∙ holds) in
        not-both (usable count file) catalogue refusal used (ap (usable count) (sym same) ∙ spelt.2)

    -- the file spells one catalogue
    pub one-catalogue : (other : Catalogue) → Comes f name count files (Ok other) → other ≡ catalogue
    one-catalogue other comes =
        let spelt = comes tells in
        let same : spelt.0 ≡ file = some-same (sym spelt.1 ∙ holds) in
        ok-same (usable count file) other catalogue (ap (usable count) (sym same) ∙ spelt.2) used

  -- rules that can be used are not refused
  pub rules-not-refused : {P : Type 0} (rules : Option (List ℕ)) (refusal : RulesRefusal) → TakesRules f rules files → RefusesRules f rules files refusal → P
  rules-not-refused None refusal takes refuses = absurd refuses
  rules-not-refused (Some name) refusal takes refuses =
      let spelt = refuses tells in
      let same : spelt.0 ≡ takes.0 = some-same (sym spelt.1 ∙ takes.2) in
      not-both (rules_of takes.0) takes.1 refusal takes.3 (ap rules_of (sym same) ∙ spelt.2)

  -- keys that can be used are not refused
  pub keys-not-refused : {P : Type 0} (keys : Option (List ℕ)) (refusal : KeysRefusal) → TakesKeys f keys files → RefusesKeys f keys files refusal → P
  keys-not-refused None refusal takes refuses = absurd refuses
  keys-not-refused (Some name) refusal takes refuses =
      let spelt = refuses tells in
      let same : spelt.0 ≡ takes.0 = some-same (sym spelt.1 ∙ takes.2) in
      not-both (keys_of takes.0) takes.1 refusal takes.3 (ap keys_of (sym same) ∙ spelt.2)

  -- a plan that can be used is not refused
  pub plan-not-refused : {P : Type 0} (plan : Option (List ℕ)) (catalogue : Catalogue) (refusal : PlanRefusal) → TakesPlan f plan catalogue files → RefusesPlan f plan catalogue files refusal → P
  plan-not-refused None catalogue refusal takes refuses = absurd refuses
  plan-not-refused (Some plan) catalogue refusal takes refuses =
      let spelt = refuses tells in
      let same : spelt.0 ≡ takes.0 = some-same (sym spelt.1 ∙ takes.2) in
      not-both (plan_of catalogue takes.0) takes.1 refusal takes.3 (ap (plan_of catalogue) (sym same) ∙ spelt.2)

-- ---- what was read before stays

module _ {F D : Type 0} (f : files.Ghosts F D) (old new : F) (stays : f.tells → (file : List ℕ) → f.holds new file ≡ f.holds old file) where
  pub ruled-before : (rules : Option (List ℕ)) (given : Option (List Rule)) → AreRuled f rules new given → AreRuled f rules old given
  ruled-before None given is = is
  ruled-before (Some name) given is = (is.0, is.1, λ tells. let spelt = is.2 tells in (spelt.0, sym (stays tells name) ∙ spelt.1, spelt.2))

  pub rules-refused-before : (rules : Option (List ℕ)) (refusal : RulesRefusal) → RefusesRules f rules new refusal → RefusesRules f rules old refusal
  rules-refused-before None refusal is = is
  rules-refused-before (Some name) refusal is = λ tells. let spelt = is tells in (spelt.0, sym (stays tells name) ∙ spelt.1, spelt.2)

  pub keyed-before : (keys : Option (List ℕ)) (given : Option KeyFile) → AreKeyed f keys new given → AreKeyed f keys old given
  keyed-before None given is = is
  keyed-before (Some name) given is = (is.0, is.1, λ tells. let spelt = is.2 tells in (spelt.0, sym (stays tells name) ∙ spelt.1, spelt.2))

  pub keys-refused-before : (keys : Option (List ℕ)) (refusal : KeysRefusal) → RefusesKeys f keys new refusal → RefusesKeys f keys old refusal
  keys-refused-before None refusal is = is
  keys-refused-before (Some name) refusal is = λ tells. let spelt = is tells in (spelt.0, sym (stays tells name) ∙ spelt.1, spelt.2)

  pub plan-refused-before : (plan : Option (List ℕ)) (catalogue : Catalogue) (refusal : PlanRefusal) → RefusesPlan f plan catalogue new refusal → RefusesPlan f plan catalogue old refusal
  plan-refused-before None catalogue refusal is = is
  plan-refused-before (Some plan) catalogue refusal is = λ tells. let spelt = is tells in (spelt.0, sym (stays tells plan) ∙ spelt.1, spelt.2)

  pub set-before : {K A : Type 0} (k : sink.Ghosts K) (a : actuators.Ghosts A) (plan : Option (List ℕ)) (catalogue : Catalogue) (was now : List A) →
      AreSet f k a plan catalogue new was now → AreSet f k a plan catalogue old was now
  set-before k a None catalogue was now is = is
  set-before k a (Some plan) catalogue was now is = (is.0, (λ tells. let spelt = is.1 tells in (spelt.0, sym (stays tells plan) ∙ spelt.1, spelt.2)), is.2)

-- ---- how it ended, after a step in which nothing failed and nothing was told

module _ {F D K A B : Type 0} (f : files.Ghosts F D) (k : sink.Ghosts K) (old mid new : Setting F K A) (was now : Setting F K B) (status : ℕ)
    (began : mid.files ≡ was.files) (left : new.files ≡ now.files) (sink-began : mid.sink ≡ was.sink) (sink-left : new.sink ≡ now.sink) (same : new.devices ≡ old.devices)
    (fine : f.faults mid.files ≡ f.faults old.files) (untold : mid.sink ≡ old.sink) where
  pub none-then : HadNone f k was now status → HadNone f k old new status
  none-then none = record {
    why = subst (λ n. ((status ≡ 5) × Rose n (f.faults new.files)) ⊎ ((status ≡ 8) × (f.faults new.files ≡ n))) (sym (ap f.faults began) ∙ fine)
        (subst (λ (files : F). ((status ≡ 5) × Rose (f.faults was.files) (f.faults files)) ⊎ ((status ≡ 8) × (f.faults files ≡ f.faults was.files))) (sym left) none.why);
    sink = sink-left ∙ none.sink ∙ sym sink-began ∙ untold;
    devices = same;
  }

  pub refused-then : (line : List ℕ) (told : ℕ) → Refused f k line told was now status → Refused f k line told old new status
  refused-then line told it = record {
    tells = subst (λ first. TellsLine k line told first new.sink status) (sym sink-began ∙ untold) (subst (λ last. TellsLine k line told was.sink last status) (sym sink-left) it.tells);
    files = ap f.faults left ∙ it.files ∙ sym (ap f.faults began) ∙ fine;
    devices = same;
  }
