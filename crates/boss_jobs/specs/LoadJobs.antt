-- Source: own.
-- `load COUNT SEED`.
use Rattle.std.specs.Prelude.{◌≡◌, ◌⊎◌, ℕ}
use Rattle.boss_outside.specs.declared.actuators.Actuators as actuators
use Rattle.boss_files.specs.declared.files.Files as files
use Rattle.boss_outside.specs.declared.sink.Sink as sink
use Rattle.boss_outside.specs.declared.source.Source as source
use Rattle.boss_load_run.specs.declared.summary.Summary.{Summary}
use Rattle.boss_load_run.specs.Lines.{summary_line}
use Rattle.boss_load_run.specs.Load.{Summarizes}
use Rattle.boss_jobs.specs.Jobs.{TellsLine, World}

module _ {K : Type 0} (k : sink.Ghosts K) where
  -- The summary of the load was told as one line, with status 0; or a write failed, which is 7, and the front of it was told; or no memory
  -- was to be had, which is 8, and the sink is as it was.
  abbrev pub TellsSummary : ℕ → ℕ → K → K → ℕ → Type 0
  TellsSummary count seed old new status =
      ((summary : Summary) × Summarizes count seed summary × TellsLine k (summary_line summary) 0 old new status) ⊎ ((status ≡ 8) × (new ≡ old))

module _ {F D S K A : Type 0} (f : files.Ghosts F D) (s : source.Ghosts S) (k : sink.Ghosts K) (a : actuators.Ghosts A) where
  -- no file is asked for, nothing is read, and no device is called
  pub record DoesLoad (count seed : ℕ) (old new : World F S K A) (status : ℕ) : Type 0 where
    pub tells : TellsSummary k count seed old.sink new.sink status
    pub files : new.files ≡ old.files
    pub source : new.source ≡ old.source
    pub devices : new.devices ≡ old.devices
