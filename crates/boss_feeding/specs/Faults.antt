-- Source: own.
-- When a feed ends before its end, and what is said of disks and sink then.
use Rattle.std.specs.Prelude.{◌≡◌, ℕ, Result, Ok, Err}
use Rattle.boss_disk_pair.specs.Causes.{Counts}
use Rattle.boss_feeding.specs.declared.fault.FeedFault.{FeedFault}
use Rattle.boss_feeding.specs.declared.fault.FeedFault.TheVariants.{Refused, WriteFault}
use Rattle.boss_feeding.specs.declared.untold.Untold.{Untold}
use Rattle.boss_feeding.specs.declared.untold.Untold.TheVariants as untold
use Rattle.boss_outside.specs.Counts.{Rose}
use Rattle.boss_pair_find.specs.declared.refusal.DurableRefusal.TheVariants as refusal
use Rattle.boss_pair_find.specs.Refusals.{DiskCause, PairCause}

abbrev pub of_untold : Untold → FeedFault
of_untold untold.WriteFault = WriteFault
of_untold untold.NoMemory = Refused refusal.NoMemory

-- what may come once the first line is told
abbrev pub IsLate : FeedFault → Type 0
IsLate (Refused refusal.NotAJournal) = ⊥
IsLate (Refused (refusal.Version found)) = ⊥
IsLate (Refused (refusal.Catalogue kept found)) = ⊥
IsLate (Refused (refusal.Damaged place)) = ⊥
IsLate (Refused refusal.DiskFault) = Unit {0}
IsLate (Refused refusal.NoMemory) = Unit {0}
IsLate WriteFault = Unit {0}

-- a fault of a disk is told exactly where the disk's count rose
abbrev pub ActiveCause : {T : Type 0} → ℕ → ℕ → Result T FeedFault → Type 0
ActiveCause before now (Ok x) = now ≡ before
ActiveCause before now (Err (Refused why)) = DiskCause before now why
ActiveCause before now (Err WriteFault) = now ≡ before

-- the same of two disks
abbrev pub DisksCause : {T : Type 0} → Counts → Counts → Result T FeedFault → Type 0
DisksCause before now (Ok x) = now ≡ before
DisksCause before now (Err (Refused why)) = PairCause before now why
DisksCause before now (Err WriteFault) = now ≡ before

-- a fault of the sink is told exactly where its count rose
abbrev pub SinkCause : {T : Type 0} → ℕ → ℕ → Result T FeedFault → Type 0
SinkCause before now (Ok x) = now ≡ before
SinkCause before now (Err (Refused why)) = now ≡ before
SinkCause before now (Err WriteFault) = Rose before now
