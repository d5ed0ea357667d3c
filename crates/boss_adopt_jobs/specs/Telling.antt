-- Source: own.
-- What is told of a refused adoption.
use Rattle.std.specs.Prelude.{◌≡◌, ℕ}
use Rattle.boss_outside.specs.declared.sink.Sink as sink
use Rattle.boss_adopting.specs.declared.refusal.AdoptRefusal.{AdoptRefusal}
use Rattle.boss_adopting.specs.declared.refusal.AdoptRefusal.TheVariants as refusal
use Rattle.boss_changing.specs.declared.fault.AdoptFault.{AdoptFault}
use Rattle.boss_changing.specs.declared.fault.AdoptFault.TheVariants as fault
use Rattle.boss_journal_lines.specs.Adoption.{in_use_line, unfit_line}
use Rattle.boss_jobs.specs.Jobs.{TellsLine}

module _ {K : Type 0} (k : sink.Ghosts K) where
  -- one line tells the point, with status 15; of want of memory nothing is told
  abbrev pub TellsRefusal : AdoptRefusal → K → K → ℕ → Type 0
  TellsRefusal (refusal.InUse name) old new status = TellsLine k (in_use_line name) 15 old new status
  TellsRefusal (refusal.Unfit name) old new status = TellsLine k (unfit_line name) 15 old new status
  TellsRefusal refusal.NoMemory old new status = (status ≡ 8) × (new ≡ old)

  -- of a fault neither
  abbrev pub TellsFault : AdoptFault → K → K → ℕ → Type 0
  TellsFault (fault.Refused why) old new status = TellsRefusal why old new status
  TellsFault fault.Stopped old new status = (status ≡ 5) × (new ≡ old)
  TellsFault fault.DiskFault old new status = (status ≡ 5) × (new ≡ old)
  TellsFault fault.NoMemory old new status = (status ≡ 8) × (new ≡ old)
