-- Source: own.
-- What a look at a disk tells.
use Rattle.std.specs.Prelude.{◌≡◌, ℕ, false, List}
use Rattle.boss_disk.specs.declared.disk.Disk as disk
use Rattle.boss_journal.specs.declared.looking.Looked.{Looked}
use Rattle.boss_journal.specs.declared.looking.Looked.TheVariants.{New, Old}
use Rattle.boss_journal.specs.Fronts.{IsNew}
use Rattle.boss_journal.specs.Opens.{IsFound}

module _ {D : Type 0} {g : disk.Ghosts D} where
  -- the disk that was looked at
  abbrev pub looked_at : Looked D g → D
  looked_at (New held) = held
  looked_at (Old journal) = journal.disk

  -- it is new; or a journal of this catalogue, at its first gate
  abbrev pub Finds : List ℕ → List ℕ → Looked D g → Type 0
  Finds digest bytes (New held) = IsNew digest bytes
  Finds digest bytes (Old journal) = IsFound digest journal.version journal.place bytes × (journal.first ≡ journal.place) × (journal.stopped ≡ false)
