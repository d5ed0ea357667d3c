-- Source: own.
-- Why a part of a script broke off, by the counts of faults of what it called.
use Rattle.std.specs.Prelude.{◌≡◌, ℕ, Result, Ok, Err}
use Rattle.boss_outside.specs.Counts.{Rose}
use Rattle.boss_lines.specs.Lines.{NextCause}
use Rattle.boss_lines.specs.declared.reader.Next.{Next}
use Rattle.boss_scripts.specs.declared.broken.Broken.{Broken}
use Rattle.boss_scripts.specs.declared.broken.Broken.TheVariants.{WriteFault, NoMemory}

-- a write failed exactly where the sink's count rose
abbrev pub WriteCause : {T : Type 0} → ℕ → ℕ → Result T Broken → Type 0
WriteCause before now (Ok _) = now ≡ before
WriteCause before now (Err WriteFault) = Rose before now
WriteCause before now (Err NoMemory) = now ≡ before

-- a read failed exactly where the source's count rose
abbrev pub ReadCause : ℕ → ℕ → Result Next Broken → Type 0
ReadCause before now (Ok next) = NextCause before now next
ReadCause before now (Err broken) = now ≡ before
