-- Source: own.
-- What a file of keys comes to.
use Rattle.std.specs.Prelude.{◌≡◌, ◌⊎◌, ℕ, List, [], ◌∷◌, ◌++◌, Option, Some, None, Result, Ok, Err}
use Rattle.boss_outside.specs.Counts.{Rose}
use Rattle.boss_keys.specs.declared.entry.Entry.{Entry}
use Rattle.boss_keys.specs.declared.file.KeyFile.{KeyFile}
use Rattle.boss_keys.specs.Reading.{keys_of}
use Rattle.boss_serve_jobs.specs.declared.keying.Unkeyed.{Unkeyed}
use Rattle.boss_serve_jobs.specs.declared.keying.Unkeyed.TheVariants as unkeyed

-- what was read of a file that holds this is what the file spells, and what was refused is refused as it says
abbrev pub Reads : Option (List ℕ) → Result KeyFile Unkeyed → Type 0
Reads held (Ok found) = (file : List ℕ) × (held ≡ Some file) × (keys_of file ≡ Ok found)
Reads held (Err (unkeyed.Refused refusal)) = (file : List ℕ) × (held ≡ Some file) × (keys_of file ≡ Err refusal)
Reads held (Err unkeyed.FileFault) = Unit {0}
Reads held (Err unkeyed.NoMemory) = Unit {0}

-- a file fault comes exactly where the count rose
abbrev pub FaultOnly : {T : Type 0} → ℕ → ℕ → Result T Unkeyed → Type 0
FaultOnly before now (Ok _) = now ≡ before
FaultOnly before now (Err (unkeyed.Refused refusal)) = now ≡ before
FaultOnly before now (Err unkeyed.FileFault) = Rose before now
FaultOnly before now (Err unkeyed.NoMemory) = now ≡ before

-- the file of this name was asked for, and no other; where memory was wanting maybe not even this one
abbrev pub AsksFor : {T : Type 0} → List ℕ → List (List ℕ) → List (List ℕ) → Result T Unkeyed → Type 0
AsksFor name old new (Ok _) = new ≡ old ++ name ∷ []
AsksFor name old new (Err (unkeyed.Refused refusal)) = new ≡ old ++ name ∷ []
AsksFor name old new (Err unkeyed.FileFault) = new ≡ old ++ name ∷ []
AsksFor name old new (Err unkeyed.NoMemory) = (new ≡ old) ⊎ (new ≡ old ++ name ∷ [])

-- the keys of what was read, if there is a file
abbrev pub keys_in : Option KeyFile → Option (List Entry)
keys_in None = None
keys_in (Some file) = Some file.keys

-- and how many workers it keeps
abbrev pub reserve_in : Option KeyFile → ℕ
reserve_in None = 0
reserve_in (Some file) = file.reserve
