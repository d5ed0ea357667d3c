-- Source: own.
use Rattle.std.specs.Prelude.{◌≡◌, ℕ, Bool, true, ◌&&◌, ◌||◌, is_none, is_ok, if◌then◌else◌, List, [], ◌∷◌, ◌++◌, Option, find, option_map, bytes_eq, Result}
use Rattle.boss_outside.specs.Plan.{Plan, fails_next, after_call}
use Rattle.boss_disk.specs.Record.{DiskRecord, state_of}
use Rattle.boss_disk.specs.Window.{Window}
use Rattle.boss_files.specs.declared.files.FileFault.{FileFault}
use Rattle.boss_files.specs.Files.{is_failed, windows}

-- files in memory: each name with its bytes, the stores that were given back, each with its name, whether none of them is missing, and
-- the names that were asked for
pub record Shelf : Type 0 where
  pub files : List (List ℕ × List ℕ)
  pub stores : List (List ℕ × DiskRecord)
  pub whole : Bool
  pub asked : List (List ℕ)
  pub plan : Plan

-- the bytes under a name
abbrev pub bytes_under : List (List ℕ × List ℕ) → List ℕ → Option (List ℕ)
bytes_under files name = option_map (λ file. file.1) (find (λ file. bytes_eq file.0 name) files)

-- what a crash might have left of the file under a name: the windows of its stores
abbrev pub past_under : List (List ℕ × DiskRecord) → List ℕ → List Window
past_under [] name = []
past_under (store ∷ stores) name = (if bytes_eq store.0 name then windows (state_of store.1).story else []) ++ past_under stores name

-- no name stands twice
abbrev pub have_distinct_names : List (List ℕ × List ℕ) → Bool
have_distinct_names [] = true
have_distinct_names (file ∷ files) = is_none (bytes_under files file.0) && have_distinct_names files

-- the files with an empty one under this name, where there was none
abbrev pub with_file : List (List ℕ × List ℕ) → List ℕ → List (List ℕ × List ℕ)
with_file files name = if is_none (bytes_under files name) then files ++ (name, []) ∷ [] else files

-- a read fails exactly where it is to fail or there is no such file, and is noted and counted
pub record ReadsShelf {T : Type 0} (old new : Shelf) (name : List ℕ) (result : Result T FileFault) : Type 0 where
  pub fails : is_failed result ≡ (fails_next old.plan || is_none (bytes_under old.files name))
  pub notes : new ≡ record old { asked = old.asked ++ name ∷ []; plan = after_call old.plan (is_failed result) }

-- a call for a store fails exactly where it is to fail, and is noted and counted
pub record OpensShelf {T : Type 0} (old new : Shelf) (name : List ℕ) (result : Result T FileFault) : Type 0 where
  pub fails : is_failed result ≡ fails_next old.plan
  pub files : new.files ≡ (if is_ok result then with_file old.files name else old.files)
  pub stores : new.stores ≡ old.stores
  pub whole : new.whole ≡ old.whole
  pub asked : new.asked ≡ old.asked ++ name ∷ []
  pub plan : new.plan ≡ after_call old.plan (is_failed result)
