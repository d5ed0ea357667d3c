-- Source: own.
-- When a journal is opened, and when that is refused.
use Rattle.std.specs.Prelude.{◌≡◌, ◌≢◌, ℕ, ◌≤◌, ◌⊎◌, List, [], ◌∷◌, ◌++◌, length, take, drop, slice_index, codes, Result, Ok, Err}
use Rattle.boss_outside.specs.Counts.{Rose}
use Rattle.boss_disk.specs.Window.{Window, IsImage, settled}
use Rattle.boss_journal.specs.declared.refusal.OpenRefusal.{OpenRefusal}
use Rattle.boss_journal.specs.declared.refusal.OpenRefusal.TheVariants.{NotAJournal, Version, Catalogue, DiskFault}
use Rattle.boss_journal.specs.declared.start.Start.{Start}
use Rattle.boss_journal.specs.declared.start.Start.TheVariants.{Short, Begun, Fresh, Old}
use Rattle.boss_journal.specs.Fronts.{journal_front, IsFresh, IsBegun, IsNew}
use Rattle.def_log.specs.Versions.{newest_version, IsKnown}
use Rattle.boss_journal.specs.Places.{IsAt, IsAtRest}

-- the mark of a journal stands in bytes 0 to 7, and there are as many bytes as a journal has
abbrev pub IsMarked : List ℕ → Type 0
IsMarked bytes = (42 ≤ length bytes) × (take 8 bytes ≡ codes "BOSSJRNL")

-- Why bytes have no front of this catalogue: they have no mark; or one, and no known version in byte 8; or both, and the
-- digest of another catalogue in bytes 9 to 40.
abbrev pub HasNoFront : List ℕ → List ℕ → OpenRefusal → Type 0
HasNoFront digest bytes NotAJournal = IsMarked bytes → ⊥
HasNoFront digest bytes (Version found) = IsMarked bytes × (found ≡ slice_index bytes 8) × (IsKnown found → ⊥)
HasNoFront digest bytes (Catalogue kept found) =
    IsMarked bytes × IsKnown (slice_index bytes 8) × (kept ≡ take 32 (drop 9 bytes)) × (found ≡ digest) × (kept ≢ digest)
HasNoFront digest bytes DiskFault = ⊥

-- the bytes are not new, and this is why they have no front; or the disk failed
abbrev pub Refuses : List ℕ → List ℕ → OpenRefusal → Type 0
Refuses digest bytes NotAJournal = (IsNew digest bytes → ⊥) × HasNoFront digest bytes NotAJournal
Refuses digest bytes (Version found) = (IsNew digest bytes → ⊥) × HasNoFront digest bytes (Version found)
Refuses digest bytes (Catalogue kept found) = (IsNew digest bytes → ⊥) × HasNoFront digest bytes (Catalogue kept found)
Refuses digest bytes DiskFault = Unit {0}

-- a fault is told exactly where the disk's count rose
abbrev pub OpenCause : ℕ → ℕ → OpenRefusal → Type 0
OpenCause before now NotAJournal = now ≡ before
OpenCause before now (Version found) = now ≡ before
OpenCause before now (Catalogue kept found) = now ≡ before
OpenCause before now DiskFault = Rose before now

-- a refusal for what the bytes are leaves them
abbrev pub Untouched : List ℕ → List ℕ → OpenRefusal → Type 0
Untouched before now NotAJournal = now ≡ before
Untouched before now (Version found) = now ≡ before
Untouched before now (Catalogue kept found) = now ≡ before
Untouched before now DiskFault = Unit {0}

-- a journal of this version was found, at its first gate
pub record IsFound (digest : List ℕ) (version place : ℕ) (bytes : List ℕ) : Type 0 where
  pub not_new : IsNew digest bytes → ⊥
  pub known : IsKnown version
  pub at : IsAt (journal_front version digest) [] place bytes

-- a synced journal without records
pub record IsBare (version : ℕ) (digest bytes : List ℕ) (window : Window) : Type 0 where
  pub is : bytes ≡ journal_front version digest ++ 0 ∷ []
  pub synced : window ≡ settled bytes

-- A journal was made of bytes that were new. It has their version, where they had one, and else the newest.
pub record IsMade (digest old : List ℕ) (version place : ℕ) (bytes : List ℕ) (window : Window) : Type 0 where
  pub new : IsNew digest old
  pub kept : (v : ℕ) → IsFresh v digest old → version ≡ v
  pub newest : ((v : ℕ) → IsFresh v digest old → ⊥) → version ≡ newest_version
  pub rests : IsAtRest (journal_front version digest) [] place bytes window
  pub bare : IsBare version digest bytes window

-- a journal was found and left as it was, or made; and all is synced
abbrev pub Opens : List ℕ → List ℕ → ℕ → ℕ → List ℕ → Window → Type 0
Opens digest old version place bytes window =
    (IsFound digest version place old × (bytes ≡ old) × (window ≡ settled bytes)) ⊎ IsMade digest old version place bytes window

-- what a crash may leave while a journal is opened: what it might have left before, or of a new one a new one
abbrev pub WhileOpening : List ℕ → List ℕ → Window → List ℕ → Type 0
WhileOpening digest old window bytes = IsImage window bytes ⊎ (IsNew digest old × IsNew digest bytes)

-- the version of a front, or why there is none
abbrev pub IsFront : List ℕ → List ℕ → Result ℕ OpenRefusal → Type 0
IsFront digest bytes (Ok version) = IsKnown version × ((gate : ℕ) × (tail : List ℕ) × (bytes ≡ journal_front version digest ++ gate ∷ tail))
IsFront digest bytes (Err refusal) = HasNoFront digest bytes refusal

-- what the first bytes tell
abbrev pub IsStart : List ℕ → List ℕ → Result Start OpenRefusal → Type 0
IsStart digest bytes (Ok Short) = length bytes ≤ 1
IsStart digest bytes (Ok Begun) = IsBegun bytes × ((v : ℕ) → IsFresh v digest bytes → ⊥)
IsStart digest bytes (Ok (Fresh version)) = IsFresh version digest bytes
IsStart digest bytes (Ok (Old version)) = IsFound digest version 41 bytes
IsStart digest bytes (Err refusal) = Refuses digest bytes refusal
