-- Source: own.
-- What a file of access rules comes to.
use Rattle.std.specs.Prelude.{◌≡◌, ◌⊎◌, ℕ, List, [], ◌∷◌, ◌++◌, Option, Some, Result, Ok, Err}
use Rattle.boss_outside.specs.Counts.{Rose}
use Rattle.boss_access.specs.declared.rule.Rule.{Rule}
use Rattle.boss_access.specs.Reading.{rules_of}
use Rattle.boss_serve_jobs.specs.declared.ruling.Unruled.{Unruled}
use Rattle.boss_serve_jobs.specs.declared.ruling.Unruled.TheVariants as unruled

-- the rules of a file that holds this are what the file spells, and what was refused is refused as it says
abbrev pub Reads : Option (List ℕ) → Result (List Rule) Unruled → Type 0
Reads held (Ok rules) = (file : List ℕ) × (held ≡ Some file) × (rules_of file ≡ Ok rules)
Reads held (Err (unruled.Refused refusal)) = (file : List ℕ) × (held ≡ Some file) × (rules_of file ≡ Err refusal)
Reads held (Err unruled.FileFault) = Unit {0}
Reads held (Err unruled.NoMemory) = Unit {0}

-- a file fault comes exactly where the count rose
abbrev pub FaultOnly : {T : Type 0} → ℕ → ℕ → Result T Unruled → Type 0
FaultOnly before now (Ok _) = now ≡ before
FaultOnly before now (Err (unruled.Refused refusal)) = now ≡ before
FaultOnly before now (Err unruled.FileFault) = Rose before now
FaultOnly before now (Err unruled.NoMemory) = now ≡ before

-- the file of this name was asked for, and no other; where memory was wanting maybe not even this one
abbrev pub AsksFor : {T : Type 0} → List ℕ → List (List ℕ) → List (List ℕ) → Result T Unruled → Type 0
AsksFor name old new (Ok _) = new ≡ old ++ name ∷ []
AsksFor name old new (Err (unruled.Refused refusal)) = new ≡ old ++ name ∷ []
AsksFor name old new (Err unruled.FileFault) = new ≡ old ++ name ∷ []
AsksFor name old new (Err unruled.NoMemory) = (new ≡ old) ⊎ (new ≡ old ++ name ∷ [])
