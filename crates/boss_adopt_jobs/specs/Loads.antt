-- Source: own.
-- The catalogues of two files: the one that a journal was kept under, and the one that it is to be kept under.
use Rattle.std.specs.Prelude.{◌≡◌, ◌⊎◌, ℕ, List, [], ◌∷◌, ◌++◌, Some, Result, Ok, Err}
use Rattle.boss_model.specs.Catalogue.{Catalogue}
use Rattle.boss_outside.specs.Counts.{Rose}
use Rattle.boss_files.specs.declared.files.Files as files
use Rattle.boss_jobs.specs.declared.catalogue.Unusable.{Unusable}
use Rattle.boss_jobs.specs.declared.catalogue.Unusable.TheVariants as unusable
use Rattle.boss_points.specs.declared.CatalogueRefusal.{CatalogueRefusal}
use Rattle.boss_jobs.specs.Journals.{AsksFront}
use Rattle.boss_jobs.specs.Programs.{usable}
use Rattle.boss_adopt_jobs.specs.declared.catalogues.Change.{Change}

-- the files of these names were asked for; where one could not be used maybe only the front of them
abbrev pub AsksBoth : List ℕ → List ℕ → List (List ℕ) → List (List ℕ) → Result Change Unusable → Type 0
AsksBoth old_name new_name old new (Ok change) = new ≡ old ++ old_name ∷ new_name ∷ []
AsksBoth old_name new_name old new (Err why) = AsksFront (old_name ∷ new_name ∷ []) old new

-- a file fault comes exactly where the count rose
abbrev pub BothCause : ℕ → ℕ → Result Change Unusable → Type 0
BothCause before now (Ok change) = now ≡ before
BothCause before now (Err (unusable.Refused refusal)) = now ≡ before
BothCause before now (Err unusable.FileFault) = Rose before now
BothCause before now (Err unusable.NoMemory) = now ≡ before

module _ {F D : Type 0} (f : files.Ghosts F D) (count : ℕ) where
  -- what the file under this name comes to, for so many devices, if files tell what they hold
  abbrev pub Spelling : F → List ℕ → Result Catalogue CatalogueRefusal → Type 0
  Spelling files name result = f.tells → (file : List ℕ) × (f.holds files name ≡ Some file) × (usable count file ≡ result)

  -- both files spell what was loaded; or the old one is refused, or else the new one, where the old one can be used
  abbrev pub LoadsBoth : F → List ℕ → List ℕ → Result Change Unusable → Type 0
  LoadsBoth files old_name new_name (Ok change) = Spelling files old_name (Ok change.old) × Spelling files new_name (Ok change.new)
  LoadsBoth files old_name new_name (Err (unusable.Refused refusal)) =
      Spelling files old_name (Err refusal) ⊎ ((old : Catalogue) × Spelling files old_name (Ok old) × Spelling files new_name (Err refusal))
  LoadsBoth files old_name new_name (Err unusable.FileFault) = Unit {0}
  LoadsBoth files old_name new_name (Err unusable.NoMemory) = Unit {0}
