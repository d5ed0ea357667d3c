-- Source: own.
-- A state on its way to a disk.
use Rattle.std.specs.Prelude.{ℕ, List, [], ◌∷◌, ◌++◌}
use Rattle.boss_disk.specs.Fronts.{KeepsFront}
use Rattle.boss_disk.specs.Runs.{Through}
use Rattle.boss_disk.specs.Story.{Story}
use Rattle.boss_snapshot.specs.declared.draft.Draft.{Draft}

-- what the disk holds, and what is gathered behind it
abbrev pub so_far : List ℕ → Draft → List ℕ
so_far held draft = held ++ draft.block

-- byte 0 is 0 whatever a crash leaves
abbrev pub StaysZero : Story → Story → Type 0
StaysZero old new = Through (KeepsFront (0 ∷ [])) old new

-- where byte 0 was sure to be 0, it is so all the way
pub record Goes (old new : Story) : Type 0 where
  pub run : KeepsFront (0 ∷ []) old.window → StaysZero old new
