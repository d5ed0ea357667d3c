-- Source: own.
-- What is said on the way of a journal that was opened, and of one that was not.
use Rattle.std.specs.Prelude.{◌≡◌, ℕ, ◌+◌, ◌<◌, true, false, if◌then◌else◌, List, length, Result, Ok, Err, IfOk, OnErr}
use Rattle.boss_model.specs.Catalogue.{Catalogue, actuators}
use Rattle.boss_model.specs.declared.event.Event.{Event}
use Rattle.boss_model.specs.Limits.{last_number}
use Rattle.boss_model.specs.Lines.{lines}
use Rattle.boss_outside.specs.Counts.{Rose}
use Rattle.boss_outside.specs.declared.actuators.Actuators as actuators_of
use Rattle.boss_outside.specs.declared.sink.Sink as sink
use Rattle.boss_outside.specs.declared.source.Source as source
use Rattle.boss_disk.specs.declared.disk.Disk as disk
use Rattle.boss_durable.specs.declared.durable.Durable.{Durable}
use Rattle.boss_durable.specs.Words.{faults, keeps, lasting, leaves}
use Rattle.boss_lines.specs.declared.reader.Next.{Next}
use Rattle.def_history.specs.declared.entry.Entry.{Entry}
use Rattle.def_history.specs.History.{events, is_broken, IsLegal, run, run_tried}
use Rattle.boss_shared.specs.Walking.{AreTried, shortened}
use Rattle.def_disk_pair.specs.Pairs.{OpensCleanly}
use Rattle.boss_scripts.specs.declared.broken.Broken.{Broken}
use Rattle.boss_scripts.specs.Causes.{ReadCause, WriteCause}
use Rattle.boss_scripts.specs.Ends.{EndsOver}
use Rattle.boss_scripts.specs.Scripts.{BrokeScript, RanScript}
use Rattle.boss_disk_pair.specs.Images.{OpensToOne}
use Rattle.boss_pair_find.specs.declared.refusal.DurableRefusal.{DurableRefusal}
use Rattle.boss_pair_find.specs.declared.refusal.DurableRefusal.TheVariants.{NotAJournal, Version, Catalogue as OtherCatalogue, Damaged, DiskFault, NoMemory}
use Rattle.boss_opening.specs.declared.checking.Checked.{Checked}
use Rattle.boss_journal_lines.specs.Reports.{refusal_line}
use Rattle.boss_disk_pair.specs.Rests.{stories}
use Rattle.boss_pair_find.specs.Two.{two}
use Rattle.boss_jobs.specs.Crashes.{Steps}
use Rattle.boss_jobs.specs.Ends.{status_of}
use Rattle.boss_jobs.specs.Jobs.{TellsLine}
use Rattle.boss_jobs.specs.Journals.{Beside, checked_line, outside_of}

module _ {K : Type 0} (k : sink.Ghosts K) where
  -- a refusal for what a journal holds is told, with status 4; of a fault and of want of memory nothing is
  abbrev pub TellsJournal : DurableRefusal → K → K → ℕ → Type 0
  TellsJournal NotAJournal old new status = TellsLine k (refusal_line NotAJournal) 4 old new status
  TellsJournal (Version found) old new status = TellsLine k (refusal_line (Version found)) 4 old new status
  TellsJournal (OtherCatalogue kept found) old new status = TellsLine k (refusal_line (OtherCatalogue kept found)) 4 old new status
  TellsJournal (Damaged place) old new status = TellsLine k (refusal_line (Damaged place)) 4 old new status
  TellsJournal DiskFault old new status = (status ≡ 5) × (new ≡ old)
  TellsJournal NoMemory old new status = (status ≡ 8) × (new ≡ old)

  abbrev pub TellsFound : Result Checked DurableRefusal → K → K → ℕ → Type 0
  TellsFound (Ok checked) old new status = TellsLine k (checked_line checked) 0 old new status
  TellsFound (Err refusal) old new status = TellsJournal refusal old new status

module _ {D S K A : Type 0} (d : disk.Ghosts D) (s : source.Ghosts S) (k : sink.Ghosts K) (a : actuators_of.Ghosts A) where
  -- A script ran over an engine with its disks, which came back.
  pub record RunsFrom (catalogue : Catalogue) (durable : Durable D d) (disks : D × D) (old new : Beside S K A) (status : ℕ) : Type 0 where
    pub made : List Entry
    pub legal : IsLegal (actuators catalogue) made durable.engine.state
    pub end : Result Next Broken
    pub told : status ≡ (if is_broken made then 5 else status_of end)
    pub ended : s.tells → IfOk end
        (EndsOver (λ all is_over. RanScript catalogue durable.engine.state all is_over made (outside_of s k a old) (outside_of s k a new))
        (outside_of s k a old) (outside_of s k a new))
    pub broke : s.tells → k.tells → OnErr end
        (BrokeScript catalogue durable.engine.state (lines (s.left old.source)) made (outside_of s k a old) (outside_of s k a new))
    pub read_fault : ReadCause (s.faults old.source) (s.faults new.source) end
    pub write_fault : WriteCause (k.faults old.sink) (k.faults new.sink) end
    pub disk_fault : is_broken made ≡ true → Rose (faults durable) (d.faults disks.0 + d.faults disks.1)
    pub no_disk_fault : is_broken made ≡ false → d.faults disks.0 + d.faults disks.1 ≡ faults durable
    pub whole : d.tells → (before : List Event) → keeps durable before → is_broken made ≡ false → length before + length (events (actuators catalogue) made durable.engine.state) < last_number →
        OpensCleanly (actuators catalogue) durable.disks.digest (run (actuators catalogue) made durable.engine.state).persistent
        (length before + length (events (actuators catalogue) made durable.engine.state)) (d.reads disks.0) (d.reads disks.1)
    pub torn : d.tells → (before : List Event) → keeps durable before → leaves durable (lasting durable) (lasting durable) →
        (tried : ℕ) × AreTried tried made × OpensToOne (actuators catalogue) durable.disks.digest (run (actuators catalogue) made durable.engine.state).persistent
        (run_tried (actuators catalogue) (shortened tried made) durable.engine.state).persistent (d.reads disks.0) (d.reads disks.1)
    pub steps : d.tells → (before : List Event) → keeps durable before →
        Steps (actuators catalogue) durable.disks.digest durable.engine.state (stories durable.disks) made (two (d.story disks.0) (d.story disks.1))
