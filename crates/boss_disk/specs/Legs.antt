-- Source: own.
use Rattle.std.specs.Prelude.{ℕ, List}
use Rattle.boss_disk.specs.Runs.{Through}
use Rattle.boss_disk.specs.Story.{Story}
use Rattle.boss_disk.specs.Window.{Window, IsImage}

-- the stories of two disks
pub record Two : Type 0 where
  pub first : Story
  pub second : Story

-- Calls of two disks, leg by leg: in each leg one of them moves while the other stands still, and all pairs of windows on
-- the way are of this kind.
pub data Legs (Q : Window → Window → Type 0) : Two → Two → Type 0 where
  stand : (at : Two) → Q at.first.window at.second.window → Legs Q at at
  first_moves : (from : Two) (mid : Story) (to : Two) → Through (λ window. Q window from.second.window) from.first mid
      → Legs Q (record { first = mid; second = from.second }) to → Legs Q from to
  second_moves : (from : Two) (mid : Story) (to : Two) → Through (λ window. Q from.first.window window) from.second mid
      → Legs Q (record { first = from.first; second = mid }) to → Legs Q from to

-- each image of the first disk with each of the second is one of these pairs
abbrev pub LeaveBoth : (List ℕ → List ℕ → Type 0) → Window → Window → Type 0
LeaveBoth P first second = (a b : List ℕ) → IsImage first a → IsImage second b → P a b
