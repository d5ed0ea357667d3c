-- Source: own.
-- When a call tells that a disk failed.
use Rattle.std.specs.Prelude.{◌≡◌, ◌⊎◌, ℕ, Bool, true, false, Result, Ok, Err}
use Rattle.boss_outside.specs.Counts.{Rose}
use Rattle.boss_disk.specs.declared.disk.Disk as disk
use Rattle.boss_journal.specs.declared.appending.Appended.{Appended}
use Rattle.boss_journal.specs.declared.appending.Appended.TheVariants.{Done, DiskFault, Stopped}
use Rattle.boss_disk_pair.specs.declared.two_disks.TwoDisks.{TwoDisks}
use Rattle.boss_disk_pair.specs.Orders.{first_of, second_of}

-- the counts of two disks
pub record Counts : Type 0 where
  pub first : ℕ
  pub second : ℕ

-- the count of one rose, and that of the other stood still
abbrev pub OneRose : Counts → Counts → Type 0
OneRose before now = (Rose before.first now.first × (now.second ≡ before.second)) ⊎ ((now.first ≡ before.first) × Rose before.second now.second)

-- a fault is told exactly where a disk's count rose
abbrev pub AppendCause : Counts → Counts → Appended → Type 0
AppendCause before now Done = now ≡ before
AppendCause before now DiskFault = OneRose before now
AppendCause before now Stopped = now ≡ before

-- the same of a call that has no answer of its own for a pair that was stopped before
abbrev pub CallCause : {T E : Type 0} → Bool → Counts → Counts → Result T E → Type 0
CallCause stopped before now (Ok x) = (stopped ≡ false) × (now ≡ before)
CallCause true before now (Err e) = now ≡ before
CallCause false before now (Err e) = OneRose before now

module _ {D : Type 0} {g : disk.Ghosts D} where
  -- the pair's disks, in their order
  abbrev pub first_disk : TwoDisks D g → D
  first_disk pair = first_of pair.second pair.journal.disk pair.spare

  abbrev pub second_disk : TwoDisks D g → D
  second_disk pair = second_of pair.second pair.journal.disk pair.spare

  abbrev pub counts_of : TwoDisks D g → Counts
  counts_of pair = record { first = g.faults (first_disk pair); second = g.faults (second_disk pair) }
