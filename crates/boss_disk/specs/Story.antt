-- Source: own.
use Rattle.std.specs.Prelude.{◌≡◌, ℕ, ◌⊎◌, Bool, true, false, List, [], ◌∷◌, ◌++◌, drop, Result, Ok, OnOk, OnErr}
use Rattle.std.specs.List.{Contains}
use Rattle.boss_disk.specs.Window.{Window, IsImage, settled, overwritten}

-- What a disk tells of its calls: the window now, and the windows before it, oldest first. The number of the past ones is
-- the disk's own clock.
pub record Story : Type 0 where
  pub past : List Window
  pub window : Window

-- one call went by, which left this window
pub record Moves (next : Window) (old new : Story) : Type 0 where
  pub past : new.past ≡ old.past ++ old.window ∷ []
  pub window : new.window ≡ next

-- what a call does to the story: one that fails leaves the story as it was, or a window of its own
pub record Steps {T E : Type 0} (next failing : Window) (old new : Story) (result : Result T E) : Type 0 where
  pub done : OnOk result (Moves next old new)
  pub failed : OnErr result ((new ≡ old) ⊎ Moves failing old new)

-- what a call does that writes bytes and syncs the disk, whole or not at all: it did and told so, or passed and told that; one that fails
-- leaves the story as it was, or did what it was to do
pub record WritesWhole {E : Type 0} (at : ℕ) (bytes held now : List ℕ) (old new : Story) (result : Result Bool E) : Type 0 where
  pub done : result ≡ Ok true → (now ≡ overwritten at bytes held) × Moves (settled (overwritten at bytes held)) old new
  pub passed : result ≡ Ok false → (now ≡ held) × (new ≡ old)
  pub failed : OnErr result ((new ≡ old) ⊎ Moves (settled (overwritten at bytes held)) old new)

-- a crash at some moment from this one on may leave these bytes
abbrev pub MayLeave : Story → ℕ → List ℕ → Type 0
MayLeave story moment bytes = (window : Window) × Contains (drop moment (story.past ++ story.window ∷ [])) window × IsImage window bytes
