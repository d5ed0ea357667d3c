-- A job by its ends.
use Rattle.std.proofs.Common.{◌≡◌, ◌⊎◌, inl, inr, ℕ, ◌++◌, List, [], ◌∷◌, sym, ap, ◌∙◌, Some, Ok, Err, Result}
use Rattle.boss_model.specs.Catalogue.{Catalogue}
use Rattle.boss_outside.specs.declared.actuators.Actuators as actuators
use Rattle.boss_files.specs.declared.files.Files as files
use Rattle.boss_outside.specs.declared.sink.Sink as sink
use Rattle.boss_outside.specs.declared.source.Source as source
use Rattle.boss_points.specs.declared.CatalogueRefusal.{CatalogueRefusal}
use Rattle.boss_jobs.specs.Jobs.{DoesScript, HadNoCatalogue, RanCatalogue, RefusedCatalogue, World}
use Rattle.boss_jobs.specs.Programs.{usable}

module _ {F D S K A : Type 0} (f : files.Ghosts F D) (s : source.Ghosts S) (k : sink.Ghosts K) (a : actuators.Ghosts A) (name : List ℕ) (count : ℕ) (old new : World F S K A) (status : ℕ) where
  some-same : {x y : List ℕ} → Some x ≡ Some y → x ≡ y
  some-same e = cc

  refused-used : {P : Type 0} (x : Result Catalogue CatalogueRefusal) (r : CatalogueRefusal) (c : Catalogue) → x ≡ Err r → x ≡ Ok c → P
  refused-used x r c refused used = absurd cc

  -- however it ended, it is complete
  pub does : HadNoCatalogue f s k a old new status ⊎ RefusedCatalogue f s k a name count old new status ⊎ RanCatalogue f s k a name count old new status →
      (f.tells → (f.asked new.files ≡ f.asked old.files ++ name ∷ []) ⊎ ((status ≡ 8) × (f.asked new.files ≡ f.asked old.files))) → DoesScript f s k a name count old new status
  does did asks = record {
    did = did;
    asks = asks;
    complete = λ catalogue file tells holds used left fine fine' fine'' short few. elim did [
      | inl none ↦ elim none.why [ inl fault ↦ absurd (fine fault.1) | inr lack ↦ inr lack.0 ]
      | inr (inl refused) ↦
          let spelt = refused.spells tells in
          let same : spelt.0 ≡ file = some-same (sym spelt.1 ∙ holds) in
          refused-used (usable count spelt.0) refused.refusal catalogue spelt.2 (ap (usable count) same ∙ used)
      | inr (inr ran) ↦ ran.script.complete left fine' fine'' short few
    ];
  }
