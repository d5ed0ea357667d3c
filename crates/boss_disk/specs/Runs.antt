-- Source: own.
use Rattle.std.specs.Prelude.{◌≡◌, ℕ, ◌⊎◌, List, ◌++◌, length, Result, OnOk}
use Rattle.std.specs.List.{All}
use Rattle.boss_disk.specs.Story.{Story}
use Rattle.boss_disk.specs.Window.{Window, IsImage, settled, after_write, overwritten}

-- some calls went by, and each window from the first moment to the last is one of these
pub record Through (Q : Window → Type 0) (old new : Story) : Type 0 where
  pub more : List Window
  pub goes_on : new.past ≡ old.past ++ more
  pub each : All Q more
  pub last : Q new.window

-- each image is one of these
abbrev pub Leaves : (List ℕ → Type 0) → Window → Type 0
Leaves P window = (bytes : List ℕ) → IsImage window bytes → P bytes

-- each image from the first moment to the last is one of these
abbrev pub Since : (List ℕ → Type 0) → Story → Story → Type 0
Since P old new = Through (Leaves P) old new

-- a window while bytes are written and synced: as it was, torn by the write, or settled
abbrev pub OfWrite : ℕ → List ℕ → List ℕ → Window → Window → Type 0
OfWrite at bytes held old window = (window ≡ old) ⊎ ((window ≡ after_write at (length bytes) old) ⊎ (window ≡ settled (overwritten at bytes held)))

-- bytes are written to a disk that reads `held`, and synced
pub record WritesThrough {T E : Type 0} (at : ℕ) (bytes held : List ℕ) (old new : Story) (result : Result T E) : Type 0 where
  pub windows : Through (OfWrite at bytes held old.window) old new
  pub kept : OnOk result (new.window ≡ settled (overwritten at bytes held))
