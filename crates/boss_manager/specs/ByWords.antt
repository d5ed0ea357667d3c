-- Source: own.
-- What is done of the words, by the job that they ask for.
use Rattle.std.specs.Prelude.{◌≡◌, ◌≢◌, ℕ, List, codes, Option, Some, None}
use Rattle.boss_adopt_jobs.specs.AdoptJobs.{AdoptsJournal, AdoptsMemory}
use Rattle.boss_files.specs.declared.files.Files as files
use Rattle.boss_jobs.specs.Checks.{ChecksJournal, ChecksMemory}
use Rattle.boss_jobs.specs.Jobs.{DoesScript, SaysHelp, SaysUsage, SaysVersion, World}
use Rattle.boss_jobs.specs.KeptScripts.{DoesKeptScript}
use Rattle.boss_jobs.specs.LoadJobs.{DoesLoad}
use Rattle.boss_outside.specs.declared.actuators.Actuators as actuators
use Rattle.boss_outside.specs.declared.sink.Sink as sink
use Rattle.boss_outside.specs.declared.source.Source as source
use Rattle.boss_shift_jobs.specs.ShiftJobs.{ShiftsJournal}
use Rattle.boss_standby_jobs.specs.FeedJobs.{FeedsJournal, FeedsMemory}
use Rattle.boss_standby_jobs.specs.StandbyJobs.{DoesStandby, StandbyMemory}
use Rattle.boss_words.specs.declared.job.Job.{Job}
use Rattle.boss_words.specs.declared.job.Job.TheVariants.{Script, Serve, Check, Adopt, Shift, Feed, Standby, Load, Help, Version}
use Rattle.boss_manager.specs.declared.next.Next.{Next}
use Rattle.boss_manager.specs.Nexts.{IfDone, IsLeft}

-- the one of a journal in two files, the other where it is in memory alone
abbrev pub ByJournal : List ℕ → Type 0 → Type 0 → Type 0
ByJournal journal Kept Memory = (journal ≢ codes "-" → Kept) × (journal ≡ codes "-" → Memory)

module _ {F D S K A : Type 0} (f : files.Ghosts F D) (s : source.Ghosts S) (k : sink.Ghosts K) (a : actuators.Ghosts A) (count : ℕ) where
  -- where there are so many devices
  abbrev pub DoesJob : Option Job → World F S K A → World F S K A → Next → Type 0
  DoesJob (Some (Script name journal)) old new next = IfDone next (λ status.
      ByJournal journal (DoesKeptScript f s k a name journal count old new status) (DoesScript f s k a name count old new status))
  DoesJob (Some (Check name journal)) old new next = IfDone next (λ status.
      ByJournal journal (ChecksJournal f s k a name journal count old new status) (ChecksMemory f s k a name count old new status))
  DoesJob (Some (Adopt old_name new_name journal)) old new next = IfDone next (λ status.
      ByJournal journal (AdoptsJournal f s k a old_name new_name count old new status journal) (AdoptsMemory f s k a old_name new_name count old new status))
  -- a journal in memory alone is new, which is told as a check tells it
  DoesJob (Some (Shift name journal by)) old new next = IfDone next (λ status.
      ByJournal journal (ShiftsJournal f s k a name journal by count old new status) (ChecksMemory f s k a name count old new status))
  DoesJob (Some (Feed name journal from)) old new next = IfDone next (λ status.
      ByJournal journal (FeedsJournal f s k a name journal from count old new status) (FeedsMemory f s k a name count old new status))
  DoesJob (Some (Standby name journal)) old new next = IfDone next (λ status.
      ByJournal journal (DoesStandby f s k a name journal count old new status) (StandbyMemory f s k a name count old new status))
  -- a server is left to be served, and nothing is touched
  DoesJob (Some (Serve catalogue journal address workers connections rules plan keys)) old new next =
      IsLeft (record { catalogue = catalogue; journal = journal; address = address; workers = workers; connections = connections; rules = rules; plan = plan; keys = keys }) next × (new ≡ old)
  DoesJob (Some (Load many seed)) old new next = IfDone next (DoesLoad f s k a many seed old new)
  DoesJob (Some Help) old new next = IfDone next (SaysHelp f s k a old new)
  DoesJob (Some Version) old new next = IfDone next (SaysVersion f s k a old new)
  DoesJob None old new next = IfDone next (SaysUsage f s k a old new)
