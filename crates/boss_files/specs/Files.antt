-- Source: own.
use Rattle.std.specs.Prelude.{◌≡◌, ℕ, ◌<◌, ◌≤◌, ◌⊎◌, Bool, true, false, List, [], ◌∷◌, ◌++◌, length, Option, Some, unwrap_or, Result, Ok, Err}
use Rattle.boss_outside.specs.Counts.{Rose}
use Rattle.boss_disk.specs.Story.{Story}
use Rattle.boss_disk.specs.Window.{Window}
use Rattle.boss_files.specs.declared.files.FileBytes.{FileBytes}
use Rattle.boss_files.specs.declared.files.FileBytes.TheVariants.{Whole, Longer}
use Rattle.boss_files.specs.declared.files.FileFault.{FileFault}
use Rattle.boss_files.specs.declared.files.FileFault.TheVariants.{Failed, NoMemory}

-- the bytes come only where they are within the limit, and the length only where it is above
abbrev pub KeepsLimit : ℕ → FileBytes → Type 0
KeepsLimit limit (Whole bytes) = length bytes ≤ limit
KeepsLimit limit (Longer size) = limit < size

-- what is read of a file that holds this, if there is one
abbrev pub ReadsFile : Option (List ℕ) → FileBytes → Type 0
ReadsFile held (Whole bytes) = held ≡ Some bytes
ReadsFile held (Longer size) = (bytes : List ℕ) × (held ≡ Some bytes) × (length bytes ≡ size)

-- what stands under a name after a store of it was asked for: where there was no file, there is an empty one
abbrev pub opened : {T : Type 0} → Option (List ℕ) → Result T FileFault → Option (List ℕ)
opened held (Ok _) = Some (unwrap_or held [])
opened held (Err _) = held

-- all windows of a story, oldest first
abbrev pub windows : Story → List Window
windows story = story.past ++ story.window ∷ []

-- the call failed exactly where the count rose in it; want of memory leaves the count
abbrev pub FileCause : {T : Type 0} → ℕ → ℕ → Result T FileFault → Type 0
FileCause before now (Ok _) = now ≡ before
FileCause before now (Err Failed) = Rose before now
FileCause before now (Err NoMemory) = now ≡ before

-- each call is noted once under its name, but that one which found no memory may have come to nothing before
abbrev pub Asks : {T : Type 0} → List (List ℕ) → List (List ℕ) → List ℕ → Result T FileFault → Type 0
Asks old new name (Ok _) = new ≡ old ++ name ∷ []
Asks old new name (Err Failed) = new ≡ old ++ name ∷ []
Asks old new name (Err NoMemory) = (new ≡ old) ⊎ (new ≡ old ++ name ∷ [])

-- whether the call failed, and not for want of memory
abbrev pub is_failed : {T : Type 0} → Result T FileFault → Bool
is_failed (Ok _) = false
is_failed (Err Failed) = true
is_failed (Err NoMemory) = false
