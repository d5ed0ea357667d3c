-- The job, by how it ended.
use Rattle.std.proofs.Common.{◌≡◌, ◌≢◌, ◌⊎◌, inl, inr, ℕ, List, [], ◌∷◌, Option, Some, None, Err, subst}
use Rattle.boss_model.specs.Catalogue.{Catalogue}
use Rattle.boss_model.specs.State.{Persistent}
use Rattle.boss_outside.specs.Counts.{Rose}
use Rattle.boss_outside.specs.declared.actuators.Actuators as actuators_of
use Rattle.boss_files.specs.declared.files.Files as files
use Rattle.boss_outside.specs.declared.sink.Sink as sink
use Rattle.boss_outside.specs.declared.source.Source as source
use Rattle.boss_pair_find.specs.declared.refusal.DurableRefusal.{DurableRefusal}
use Rattle.boss_files.specs.Names.{second_name}
use Rattle.boss_adopting.specs.Adopts.{Adopts, name_at}
use Rattle.boss_adopting.specs.declared.refusal.AdoptRefusal.{AdoptRefusal}
use Rattle.boss_adopting.specs.declared.refusal.AdoptRefusal.TheVariants as refusal
use Rattle.boss_changing.specs.Adoptions.{MayAdopt}
use Rattle.boss_jobs.specs.Checks.{KeepsFiles}
use Rattle.boss_jobs.specs.Jobs.{HadNoCatalogue, RefusedCatalogue, World}
use Rattle.boss_jobs.specs.Journals.{AsksFront, in_files, IsRefused, Pair}
use Rattle.boss_jobs.proofs.KeptLemmas.{no-catalogue-fine, none-fine, not-refused, one-catalogue, told-fine}
use Rattle.boss_adopt_jobs.specs.Adoptions.{AdoptsOver, ComesTo}
use Rattle.boss_adopt_jobs.specs.AdoptJobs.{AdoptedKept, AdoptsJournal, AdoptsMemory, CanAdopt, RefusedNew, ToldNewUnderBoth}
use Rattle.boss_adopt_jobs.specs.Telling.{TellsRefusal}

-- ---- statuses

none-some : {P : Type 0} {X : Type 0} {x : X} → None ≡ Some x → P
none-some e = absurd cc

some-none : {P : Type 0} {X : Type 0} {x : X} → Some x ≡ None → P
some-none e = absurd cc

no-name : {P : Type 0} (catalogue : Catalogue) (point : Option ℕ) (name : List ℕ) → point ≡ None → name_at catalogue point ≡ Some name → P
no-name catalogue None name is named = none-some named
no-name catalogue (Some point) name is named = some-none is

module _ {K : Type 0} (k : sink.Ghosts K) (old new : Catalogue) (before after : K) (status : ℕ) where
  -- a state that may be adopted is refused for want of memory alone
  refused-fine : (d : Persistent) (why : AdoptRefusal) → MayAdopt old new d → Adopts old new d (Err why) → TellsRefusal k why before after status → (status ≡ 0) ⊎ (status ≡ 8)
  refused-fine d (refusal.InUse name) may refuses tells = no-name old _ name may.0 refuses
  refused-fine d (refusal.Unfit name) may refuses tells = no-name old _ name may.1 refuses.1
  refused-fine d refusal.NoMemory may refuses tells = inr tells.0

  comes-fine : (d : Persistent) (number : ℕ) (was now : Pair) → ComesTo k old new d number was now before after status → MayAdopt old new d →
      ¬ Rose was.faults now.faults → ¬ Rose (k.faults before) (k.faults after) → (status ≡ 0) ⊎ (status ≡ 8)
  comes-fine d number was now it may fine fine' = elim it [
    | inl done ↦ told-fine k _ before after status fine' done.tells
    | inr (inl refused) ↦ refused-fine d refused.refusal may refused.refuses refused.tells
    | inr (inr (inl broke)) ↦ absurd (fine broke.faults)
    | inr (inr (inr lacked)) ↦ inr lacked.status_is
  ]

  adopts-fine : (was now : Pair) → AdoptsOver k old new was now before after status → was.tells → ((refusal : DurableRefusal) → IsRefused old was refusal → ⊥) → CanAdopt old new was →
      ¬ Rose was.faults now.faults → ¬ Rose (k.faults before) (k.faults after) → (status ≡ 0) ⊎ (status ≡ 8)
  adopts-fine was now it told opens can fine fine' = elim it [
    | inl none ↦ none-fine was now before after status none.0 fine
    | inr (inl refused) ↦ absurd (opens refused.refusal (refused.of_bytes, refused.refuses told))
    | inr (inr (inl fresh)) ↦ told-fine k _ before after status fine' fresh.tells
    | inr (inr (inr found)) ↦ comes-fine found.state.persistent found.number was now found.comes (can found.state found.number (found.opened told)) fine fine'
  ]

-- ---- the jobs

module _ {F D S K A : Type 0} (f : files.Ghosts F D) (s : source.Ghosts S) (k : sink.Ghosts K) (a : actuators_of.Ghosts A)
    (old_name new_name : List ℕ) (count : ℕ) (old new : World F S K A) (status : ℕ) where
  pub does-adopt : (journal : List ℕ) →
      HadNoCatalogue f s k a old new status ⊎ RefusedCatalogue f s k a old_name count old new status ⊎ RefusedNew f s k a old_name new_name count old new status
      ⊎ AdoptedKept f s k a old_name new_name count old new status journal →
      new.source ≡ old.source → new.devices ≡ old.devices →
      (f.tells → AsksFront (old_name ∷ new_name ∷ journal ∷ second_name journal ∷ []) (f.asked old.files) (f.asked new.files)) →
      (f.tells → (file : List ℕ) → file ≢ journal → file ≢ second_name journal → f.holds new.files file ≡ f.holds old.files file) →
      AdoptsJournal f s k a old_name new_name count old new status journal
  does-adopt journal did source devices asks others = record {
    did = did;
    source = source;
    devices = devices;
    asks = asks;
    others = others;
    complete = λ old_catalogue new_catalogue old_file new_file tells old_holds old_used new_holds new_used opens can fine fine'. elim did [
      | inl none ↦ no-catalogue-fine f s k a old new status none fine
      | inr (inl refused) ↦ not-refused f s k a old new status old_name count old_catalogue old_file tells old_holds old_used refused
      | inr (inr (inl refused)) ↦ not-refused f s k a old new status new_name count new_catalogue new_file tells new_holds new_used refused.refused
      | inr (inr (inr kept)) ↦
          let first : kept.old_catalogue ≡ old_catalogue = one-catalogue f s k a old new status old_name count old_catalogue kept.old_catalogue old_file old_holds old_used (kept.old_spells tells) in
          let second : kept.new_catalogue ≡ new_catalogue = one-catalogue f s k a old new status new_name count new_catalogue kept.new_catalogue new_file new_holds new_used (kept.new_spells tells) in
          let pair = in_files f journal old.files in
          let over : AdoptsOver k old_catalogue new_catalogue pair (in_files f journal new.files) old.sink new.sink status =
          subst (λ c. AdoptsOver k c new_catalogue pair (in_files f journal new.files) old.sink new.sink status) first
          (subst (λ c. AdoptsOver k kept.old_catalogue c pair (in_files f journal new.files) old.sink new.sink status) second kept.adopts) in
          adopts-fine k old_catalogue new_catalogue old.sink new.sink status pair (in_files f journal new.files) over tells opens can fine fine'
    ];
  }

  pub does-adopt-memory :
      HadNoCatalogue f s k a old new status ⊎ RefusedCatalogue f s k a old_name count old new status ⊎ RefusedNew f s k a old_name new_name count old new status
      ⊎ ToldNewUnderBoth f s k a old_name new_name count old new status →
      KeepsFiles f old.files new.files → new.source ≡ old.source → new.devices ≡ old.devices →
      (f.tells → AsksFront (old_name ∷ new_name ∷ []) (f.asked old.files) (f.asked new.files)) →
      AdoptsMemory f s k a old_name new_name count old new status
  does-adopt-memory did keeps source devices asks = record {
    did = did;
    keeps = keeps;
    source = source;
    devices = devices;
    asks = asks;
    complete = λ old_catalogue new_catalogue old_file new_file tells old_holds old_used new_holds new_used fine fine'. elim did [
      | inl none ↦ no-catalogue-fine f s k a old new status none fine
      | inr (inl refused) ↦ not-refused f s k a old new status old_name count old_catalogue old_file tells old_holds old_used refused
      | inr (inr (inl refused)) ↦ not-refused f s k a old new status new_name count new_catalogue new_file tells new_holds new_used refused.refused
      | inr (inr (inr told)) ↦ told-fine k _ old.sink new.sink status fine' told.tells
    ];
  }
