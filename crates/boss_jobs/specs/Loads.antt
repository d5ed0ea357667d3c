-- Source: own.
use Rattle.std.specs.Prelude.{◌≡◌, ◌⊎◌, ℕ, List, [], ◌∷◌, ◌++◌, Option, Some, Result, Ok, Err}
use Rattle.boss_model.specs.Catalogue.{Catalogue}
use Rattle.boss_outside.specs.Counts.{Rose}
use Rattle.boss_jobs.specs.declared.catalogue.Unusable.{Unusable}
use Rattle.boss_jobs.specs.declared.catalogue.Unusable.TheVariants as unusable
use Rattle.boss_jobs.specs.Programs.{usable}

-- what was loaded of a file that holds this is what the file spells, and what was refused is refused as it says
abbrev pub Loads : ℕ → Option (List ℕ) → Result Catalogue Unusable → Type 0
Loads count held (Ok catalogue) = (file : List ℕ) × (held ≡ Some file) × (usable count file ≡ Ok catalogue)
Loads count held (Err (unusable.Refused refusal)) = (file : List ℕ) × (held ≡ Some file) × (usable count file ≡ Err refusal)
Loads count held (Err unusable.FileFault) = Unit {0}
Loads count held (Err unusable.NoMemory) = Unit {0}

-- a file fault comes exactly where the count rose
abbrev pub FaultOnly : ℕ → ℕ → Result Catalogue Unusable → Type 0
FaultOnly before now (Ok catalogue) = now ≡ before
FaultOnly before now (Err (unusable.Refused refusal)) = now ≡ before
FaultOnly before now (Err unusable.FileFault) = Rose before now
FaultOnly before now (Err unusable.NoMemory) = now ≡ before

-- the file of this name was asked for, and no other; where memory was wanting maybe not even this one
abbrev pub AsksFor : List ℕ → List (List ℕ) → List (List ℕ) → Result Catalogue Unusable → Type 0
AsksFor name old new (Err unusable.NoMemory) = (new ≡ old) ⊎ (new ≡ old ++ name ∷ [])
AsksFor name old new answer = new ≡ old ++ name ∷ []
