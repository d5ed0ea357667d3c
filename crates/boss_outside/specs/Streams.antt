-- Source: own.
use Rattle.std.specs.Prelude.{◌≡◌, ℕ, ◌≤◌, List, [], ◌++◌, min, take, Result, Ok, Err}
use Rattle.boss_outside.specs.declared.source.Got.{Got}
use Rattle.boss_outside.specs.declared.source.Got.TheVariants.{Bytes, Finish, Failed}
use Rattle.boss_outside.specs.Counts.{Rose}

-- how many bytes a read gave
abbrev pub count_of : Got → ℕ
count_of (Bytes count) = count
count_of Finish = 0
count_of Failed = 0

-- a read that gives bytes gives one at least, and no more than there is room for
abbrev pub FitsRoom : ℕ → Got → Type 0
FitsRoom room (Bytes count) = (1 ≤ count) × (count ≤ room)
FitsRoom room Finish = Unit {0}
FitsRoom room Failed = Unit {0}

-- a read that gives as many of the bytes that were left as there is room for
abbrev pub FillsRoom : ℕ → ℕ → Got → Type 0
FillsRoom room left (Bytes count) = count ≡ min room left
FillsRoom room left Finish = Unit {0}
FillsRoom room left Failed = Unit {0}

-- what a read does to the bytes that were left: those that it gives stand at the front of `into` and are left no more,
-- none is left where it finds the end, and where it fails all are left
abbrev pub Reads : List ℕ → List ℕ → List ℕ → Got → Type 0
Reads old new into (Bytes count) = old ≡ take count into ++ new
Reads old new into Finish = (old ≡ []) × (new ≡ [])
Reads old new into Failed = new ≡ old

-- the read failed exactly where the count rose in it
abbrev pub ReadCause : ℕ → ℕ → Got → Type 0
ReadCause before now (Bytes count) = now ≡ before
ReadCause before now Finish = now ≡ before
ReadCause before now Failed = Rose before now

-- the one list ends with the other
abbrev pub IsSuffixOf : List ℕ → List ℕ → Type 0
IsSuffixOf end whole = (front : List ℕ) × (whole ≡ front ++ end)

-- a front of these bytes was taken
abbrev pub TakesFront : List ℕ → List ℕ → List ℕ → Type 0
TakesFront old new bytes = (front : List ℕ) × (back : List ℕ) × (bytes ≡ front ++ back) × (new ≡ old ++ front)

-- what a write does to the bytes that were taken: it adds all its bytes, or a front of them where it fails
abbrev pub Writes : {T E : Type 0} → List ℕ → List ℕ → List ℕ → Result T E → Type 0
Writes old new bytes (Ok _) = new ≡ old ++ bytes
Writes old new bytes (Err _) = TakesFront old new bytes
