-- Source: own.
-- What a journal is that was made on a pair.
use Rattle.std.specs.Prelude.{◌≡◌, ℕ, List, Result, Ok, Err}
use Rattle.boss_disk.specs.declared.disk.Disk as disk
use Rattle.boss_pair_find.specs.declared.refusal.DurableRefusal.{DurableRefusal}
use Rattle.boss_journal.specs.Fronts.{IsFresh}
use Rattle.boss_disk_pair.specs.declared.two_disks.TwoDisks.{TwoDisks}
use Rattle.boss_disk_pair.specs.Causes.{first_disk, second_disk}
use Rattle.def_log.specs.Versions.{newest_version}

-- It has the version of the bytes that were found, where these are a journal but for byte 0, and else the newest.
pub record HasVersion (digest old : List ℕ) (version : ℕ) : Type 0 where
  pub kept : (v : ℕ) → IsFresh v digest old → version ≡ v
  pub newest : ((v : ℕ) → IsFresh v digest old → ⊥) → version ≡ newest_version

module _ {D : Type 0} {g : disk.Ghosts D} where
  -- the disks, whatever the answer is
  abbrev pub made_first : Result (TwoDisks D g) ((D × D) × DurableRefusal) → D
  made_first (Ok pair) = first_disk pair
  made_first (Err refused) = refused.0.0

  abbrev pub made_second : Result (TwoDisks D g) ((D × D) × DurableRefusal) → D
  made_second (Ok pair) = second_disk pair
  made_second (Err refused) = refused.0.1
