-- Source: own.
-- What stands on a disk that a state is written to.
use Rattle.std.specs.Prelude.{◌≡◌, ◌≢◌, ℕ, ◌≤◌, ◌⊎◌, List, [], ◌∷◌, ◌++◌, length}
use Rattle.std.specs.Int.{w64}
use Rattle.boss_disk.specs.Window.{Window, settled}
use Rattle.def_bytes.specs.Fields.{number_text}
use Rattle.boss_model.specs.State.{Persistent}
use Rattle.def_bytes.specs.States.{state}
use Rattle.def_log.specs.Kinds.{state_mark}
use Rattle.def_log.specs.Versions.{newest_version}
use Rattle.def_disk_pair.specs.Fronts.{kept_front}

-- a state's spelling, as it is from version 2 on
unfoldable pub state_text : Persistent → List ℕ
state_text d = (state 2).text d

-- a kept state of the newest version, by its byte 0
abbrev pub state_front : ℕ → List ℕ → ℕ → ℕ → Persistent → List ℕ
state_front first digest generation events d = kept_front first newest_version digest generation events (state_text d)

-- of a kept state what stands behind byte 0 and before its length
abbrev pub state_opening : List ℕ → ℕ → ℕ → List ℕ
state_opening digest generation events = (state_mark ++ newest_version ∷ digest) ++ (number_text w64 generation ++ number_text w64 events)

-- the kept state and a closed gate, where nothing else can be after a crash
pub record IsWritten (digest : List ℕ) (generation events : ℕ) (d : Persistent) (place : ℕ) (bytes : List ℕ) (window : Window) : Type 0 where
  pub is : bytes ≡ state_front 66 digest generation events d ++ 0 ∷ []
  pub gate : place ≡ length (state_front 66 digest generation events d)
  pub synced : window ≡ settled bytes

-- byte 0 is 0
pub record IsZero (bytes : List ℕ) : Type 0 where
  pub rest : List ℕ
  pub is : bytes ≡ 0 ∷ rest

-- nothing that is in force
abbrev pub IsIdle : List ℕ → Type 0
IsIdle bytes = (length bytes ≤ 1) ⊎ IsZero bytes

-- the same bytes but for byte 0, which is 0 in neither
pub record DiffersAtFirst (was bytes : List ℕ) : Type 0 where
  pub old : ℕ
  pub new : ℕ
  pub rest : List ℕ
  pub old_is : old ≢ 0
  pub new_is : new ≢ 0
  pub before : was ≡ old ∷ rest
  pub now : bytes ≡ new ∷ rest

-- the kept state and a closed gate, by a byte 0 that is any but 0
pub record IsStateWith (digest : List ℕ) (generation events : ℕ) (d : Persistent) (bytes : List ℕ) : Type 0 where
  pub first : ℕ
  pub marked : first ≢ 0
  pub is : bytes ≡ state_front first digest generation events d ++ 0 ∷ []

-- while byte 0 is put to 0, in what a disk held
abbrev pub Clearing : List ℕ → List ℕ → Type 0
Clearing was bytes = IsIdle bytes ⊎ DiffersAtFirst was bytes

-- while byte 0 is written in front of these bytes
abbrev pub Marking : List ℕ → List ℕ → Type 0
Marking tail bytes = IsZero bytes ⊎ ((first : ℕ) × (first ≢ 0) × (bytes ≡ first ∷ tail))

-- each image while a state is written over what a disk held
abbrev pub WhileWriting : List ℕ → List ℕ → ℕ → ℕ → Persistent → List ℕ → Type 0
WhileWriting was digest generation events d bytes = Clearing was bytes ⊎ IsStateWith digest generation events d bytes
