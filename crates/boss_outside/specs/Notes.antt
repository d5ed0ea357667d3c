-- Source: own.
-- At which point each read of a source was made, as far as this was noted.
use Rattle.std.specs.Prelude.{◌≡◌, ℕ, Bool, true, false, List, [], ◌∷◌, ◌++◌, Option, Some, None}
use Rattle.std.specs.List.{AllByRecursion}
use Rattle.boss_outside.specs.declared.source.ReadAt.{ReadAt}

-- a record of reads from which one is missing tells nothing
abbrev pub noted_in : Bool → List ReadAt → Option (List ReadAt)
noted_in true reads = Some reads
noted_in false reads = None

-- as long as the record tells, it told before and gained this read
abbrev pub Notes : Option (List ReadAt) → Option (List ReadAt) → ReadAt → Type 0
Notes old None at = Unit {0}
Notes old (Some now) at = (before : List ReadAt) × (old ≡ Some before) × (now ≡ before ++ at ∷ [])

-- so with several reads, of each of which this holds
abbrev pub NotesEach : (ReadAt → Type 0) → Option (List ReadAt) → Option (List ReadAt) → Type 0
NotesEach P old None = Unit {0}
NotesEach P old (Some now) = (before : List ReadAt) × (more : List ReadAt) × (old ≡ Some before) × (now ≡ before ++ more) × AllByRecursion P more

-- this holds of each read that was noted
abbrev pub AllRead : (ReadAt → Type 0) → Option (List ReadAt) → Type 0
AllRead P None = Unit {0}
AllRead P (Some reads) = AllByRecursion P reads

-- no read was made
abbrev pub IsUnread : Option (List ReadAt) → Type 0
IsUnread None = Unit {0}
IsUnread (Some reads) = reads ≡ []

-- a source that notes its reads was told how many bytes were taken
abbrev pub IsShown : Option (List ReadAt) → ℕ → ℕ → Type 0
IsShown None told count = Unit {0}
IsShown (Some reads) told count = told ≡ count
