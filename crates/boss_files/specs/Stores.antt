-- Source: own.
use Rattle.std.specs.Prelude.{◌≡◌, ◌⊎◌, ℕ, List, [], ◌∷◌, ◌++◌, Result, Ok, Err}
use Rattle.boss_disk.specs.Window.{Window, settled}
use Rattle.boss_files.specs.declared.files.FileFault.{FileFault}

-- the files of these names are asked for, one after the other; where one comes to nothing, maybe the front of them
abbrev pub AsksBoth : {T : Type 0} → List (List ℕ) → List (List ℕ) → List ℕ → List ℕ → Result T FileFault → Type 0
AsksBoth old new first second (Ok _) = new ≡ old ++ first ∷ second ∷ []
AsksBoth old new first second (Err _) = (new ≡ old) ⊎ (new ≡ old ++ first ∷ []) ⊎ (new ≡ old ++ first ∷ second ∷ [])

-- maybe a store of a file that holds these bytes was opened and given back
abbrev pub MayBeTried : List ℕ → List Window → List Window → Type 0
MayBeTried bytes old new = (new ≡ old) ⊎ (new ≡ old ++ settled bytes ∷ [])
