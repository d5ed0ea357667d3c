-- Source: own (what may be lost between two syncs); the calls meant are POSIX.1-2017 pwrite, ftruncate, fdatasync.
use Rattle.std.specs.Prelude.{◌≡◌, ℕ, ◌+◌, ◌<◌, ◌≤◌, min, max, ◌⊎◌, List, [], ◌∷◌, length, slice_index}
use Rattle.boss_disk.specs.Window.{Window, after_write, after_cut}

-- Between two syncs a disk is written, so many bytes from a place on, and cut to a length that is no greater.
pub data Change : Type 0 where
  wrote : ℕ → ℕ → Change
  cut_to : ℕ → Change

-- the length after a change
abbrev pub size_after : ℕ → Change → ℕ
size_after size (wrote at count) = max size (at + count)
size_after size (cut_to less) = min size less

-- the least length that a disk of this length has along the changes
abbrev pub least : ℕ → List Change → ℕ
least size [] = size
least size (change ∷ changes) = min size (least (size_after size change) changes)

-- the greatest
abbrev pub greatest : ℕ → List Change → ℕ
greatest size [] = size
greatest size (change ∷ changes) = max size (greatest (size_after size change) changes)

-- the place lies in no range that was written
abbrev pub Untouched : ℕ → List Change → Type 0
Untouched place [] = Unit {0}
Untouched place (wrote at count ∷ changes) = ((place < at) ⊎ (at + count ≤ place)) × Untouched place changes
Untouched place (cut_to less ∷ changes) = Untouched place changes

-- A crash may leave these bytes of a disk that read `synced` at its last sync and was changed like this since then: their
-- number is any from the least length to the greatest, and each byte below the least length stays to which no write went.
-- All others may be anything.
pub record MayRemain (synced : List ℕ) (changes : List Change) (bytes : List ℕ) : Type 0 where
  pub not_shorter : least (length synced) changes ≤ length bytes
  pub not_longer : length bytes ≤ greatest (length synced) changes
  pub others_stay : (place : ℕ) → place < least (length synced) changes → Untouched place changes
      → slice_index bytes place ≡ slice_index synced place

-- what the window tells after a change
abbrev pub changed : Window → Change → Window
changed window (wrote at count) = after_write at count window
changed window (cut_to less) = after_cut less window
