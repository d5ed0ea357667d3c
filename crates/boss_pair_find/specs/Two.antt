-- Source: own.
-- Two disks together.
use Rattle.std.specs.Prelude.{ℕ, List, Result, Ok, Err, ◌≡◌}
use Rattle.boss_disk.specs.Legs.{Two}
use Rattle.boss_disk.specs.Story.{Story}
use Rattle.boss_disk.specs.Window.{Window, IsImage}
use Rattle.boss_disk_pair.specs.Causes.{Counts, OneRose}

abbrev pub counts : ℕ → ℕ → Counts
counts one other = record { first = one; second = other }

abbrev pub two : Story → Story → Two
two one other = record { first = one; second = other }

-- a crash might have left these bytes of the first and of the second
abbrev pub MightLeave : Window → Window → List ℕ → List ℕ → Type 0
MightLeave one other first second = IsImage one first × IsImage other second

-- a call of both failed exactly where the count of one rose
abbrev pub BothCause : {T E : Type 0} → Counts → Counts → Result T E → Type 0
BothCause before now (Ok x) = now ≡ before
BothCause before now (Err e) = OneRose before now
