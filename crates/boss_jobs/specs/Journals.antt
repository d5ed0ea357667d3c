-- Source: own.
-- A script over a journal, and a check of one, by what two disks or a journal's two files hold.
use Rattle.std.specs.Prelude.{◌≡◌, ◌⊎◌, ℕ, ◌+◌, ◌<◌, true, false, if◌then◌else◌, List, [], ◌++◌, length, unwrap_or, Result, IfOk, OnErr}
use Rattle.boss_model.specs.Catalogue.{Catalogue, actuators}
use Rattle.boss_model.specs.Limits.{last_number}
use Rattle.boss_model.specs.Lines.{lines}
use Rattle.boss_model.specs.State.{Persistent, State}
use Rattle.boss_outside.specs.Counts.{Rose}
use Rattle.boss_outside.specs.declared.actuators.Actuators as actuators_of
use Rattle.boss_outside.specs.declared.sink.Sink as sink
use Rattle.boss_outside.specs.declared.source.Source as source
use Rattle.boss_disk.specs.declared.disk.Disk as disk
use Rattle.boss_disk.specs.Legs.{Two}
use Rattle.boss_disk.specs.Story.{Story}
use Rattle.boss_disk.specs.Window.{settled}
use Rattle.boss_files.specs.declared.files.Files as files
use Rattle.boss_files.specs.Names.{second_name}
use Rattle.boss_lines.specs.declared.reader.Next.{Next}
use Rattle.def_history.specs.declared.entry.Entry.{Entry}
use Rattle.def_history.specs.History.{events, is_broken, IsLegal, run, run_tried}
use Rattle.boss_shared.specs.Walking.{AreTried, shortened}
use Rattle.boss_scripts.specs.declared.broken.Broken.{Broken}
use Rattle.boss_scripts.specs.Causes.{ReadCause, WriteCause}
use Rattle.boss_scripts.specs.Ends.{EndsOver}
use Rattle.boss_scripts.specs.Outside.{Outside, outside}
use Rattle.boss_scripts.specs.Runs.{IsFrontOf}
use Rattle.boss_scripts.specs.Scripts.{BrokeScript, RanScript}
use Rattle.def_disk_pair.specs.Pairs.{OpensCleanly}
use Rattle.boss_disk_pair.specs.Images.{OpensTo, OpensToOne}
use Rattle.boss_pair_find.specs.declared.refusal.DurableRefusal.{DurableRefusal}
use Rattle.boss_pair_find.specs.Refusals.{IsOfBytes}
use Rattle.boss_opening.specs.declared.checking.Checked.{Checked}
use Rattle.boss_opening.specs.declared.checking.Checked.TheVariants.{New, Found}
use Rattle.boss_opening.specs.Checks.{ChecksPair}
use Rattle.boss_opening.specs.Opens.{digest_of, OpenedAt, OpenRefuses, WhileLooked}
use Rattle.boss_opening.specs.UnderWay.{MayComeTo}
use Rattle.boss_journal_lines.specs.Reports.{new_line, refusal_line, summary_line}
use Rattle.boss_pair_find.specs.Two.{two}
use Rattle.boss_jobs.specs.Crashes.{WhileOpened, WhileRun}
use Rattle.boss_jobs.specs.Ends.{status_of}
use Rattle.boss_jobs.specs.Jobs.{TellsLine, World}

-- ---- what holds a journal

-- Two disks, or a journal's two files, at one moment: the bytes of each, whether all of them outlast a crash, what a crash may leave now
-- and might have left before, whether none of that is missing, and how many calls failed.
pub record Pair : Type 1 where
  pub tells : Type 0
  pub lasts : Type 0
  pub whole : Type 0
  pub stories : Two
  pub first : List ℕ
  pub second : List ℕ
  pub faults : ℕ

-- the bytes are as they were
abbrev pub HoldSame : Pair → Pair → Type 0
HoldSame was now = (now.first ≡ was.first) × (now.second ≡ was.second)

module _ {D : Type 0} (d : disk.Ghosts D) where
  abbrev pub on_disks : D × D → Pair
  on_disks disks = record {
    tells = d.tells;
    lasts = ((d.story disks.0).window ≡ settled (d.reads disks.0)) × ((d.story disks.1).window ≡ settled (d.reads disks.1));
    whole = Unit {0};
    stories = two (d.story disks.0) (d.story disks.1);
    first = d.reads disks.0;
    second = d.reads disks.1;
    faults = d.faults disks.0 + d.faults disks.1;
  }

module _ {F D : Type 0} (f : files.Ghosts F D) where
  -- a file between two jobs: the windows of the stores that were given back, and then what it holds, of which a store is opened
  abbrev pub file_story : List ℕ → F → Story
  file_story name files = record { past = f.past files name; window = settled (unwrap_or (f.holds files name) []) }

  -- the files of the journal of this name; one that is not there counts as empty
  abbrev pub in_files : List ℕ → F → Pair
  in_files name files = record {
    tells = f.tells;
    lasts = Unit {0};
    whole = f.whole files;
    stories = two (file_story name files) (file_story (second_name name) files);
    first = unwrap_or (f.holds files name) [];
    second = unwrap_or (f.holds files (second_name name)) [];
    faults = f.faults files;
  }

-- the pair is refused under this catalogue for what it holds
abbrev pub IsRefused : Catalogue → Pair → DurableRefusal → Type 0
IsRefused catalogue pair refusal = IsOfBytes refusal × OpenRefuses (actuators catalogue) (digest_of catalogue) pair.first pair.second refusal

-- of these names some were asked for, from the first on, and no other
abbrev pub AsksFront : List (List ℕ) → List (List ℕ) → List (List ℕ) → Type 0
AsksFront names old new = (asked : List (List ℕ)) × IsFrontOf asked names × (new ≡ old ++ asked)

-- What the pair stands for is still there: where it opens cleanly, it does so after all to the same, or to what a record that was under
-- way makes of that. So does each image meanwhile, but for what a crash might have left before.
pub record StillStands (catalogue : Catalogue) (was now : Pair) : Type 0 where
  pub stands : (d : Persistent) (count : ℕ) → OpensCleanly (actuators catalogue) (digest_of catalogue) d count was.first was.second →
      (after : Persistent) × MayComeTo (actuators catalogue) (digest_of catalogue) d count after was.first was.second
      × OpensToOne (actuators catalogue) (digest_of catalogue) d after now.first now.second
  pub meanwhile : now.whole → WhileOpened (actuators catalogue) (digest_of catalogue) was.first was.second was.stories now.stories

-- ---- what a job has beside its files

pub record Beside (S K A : Type 0) : Type 0 where
  pub source : S
  pub sink : K
  pub devices : List A

abbrev pub beside : {S K A : Type 0} → S → K → List A → Beside S K A
beside source sink devices = record { source = source; sink = sink; devices = devices }

abbrev pub beside_files : {F S K A : Type 0} → World F S K A → Beside S K A
beside_files world = beside world.source world.sink world.devices

-- ---- what a journal holds behind a script

-- A script made these entries from a state, where a journal had come by so many events. It opens cleanly to what they leave, and
-- has as many events more as they have, as far as they are counted. Where a disk failed it opens cleanly to what the entries leave,
-- or to that with what was under way as well: all its commands, or those before one for which there was no memory.
pub record HoldsAfter (catalogue : Catalogue) (s : State) (number : ℕ) (made : List Entry) (first second : List ℕ) : Type 0 where
  pub whole : is_broken made ≡ false → OpensTo (actuators catalogue) (digest_of catalogue) (run (actuators catalogue) made s).persistent first second
  pub counted : is_broken made ≡ false → number + length (events (actuators catalogue) made s) < last_number →
      OpensCleanly (actuators catalogue) (digest_of catalogue) (run (actuators catalogue) made s).persistent
      (number + length (events (actuators catalogue) made s)) first second
  pub torn : (tried : ℕ) × AreTried tried made × OpensToOne (actuators catalogue) (digest_of catalogue) (run (actuators catalogue) made s).persistent
      (run_tried (actuators catalogue) (shortened tried made) s).persistent first second

-- ---- the jobs

-- The journal could not be opened, as a file or a disk failed, which is status 5, or no memory was to be had: nothing else changed.
pub record HadNoJournal {X : Type 0} (was now : Pair) (old new : X) (status : ℕ) : Type 0 where
  pub why : ((status ≡ 5) × Rose was.faults now.faults) ⊎ ((status ≡ 8) × (now.faults ≡ was.faults))
  pub untouched : new ≡ old

abbrev pub checked_line : Checked → List ℕ
checked_line New = new_line
checked_line (Found events now leases pending) = summary_line events now leases pending

module _ {K : Type 0} (k : sink.Ghosts K) (catalogue : Catalogue) (was now : Pair) (old new : K) (status : ℕ) where
  -- It is refused for what it holds: one line tells it, with status 4, and it holds what it held.
  pub record RefusedJournal : Type 0 where
    pub refusal : DurableRefusal
    pub of_bytes : IsOfBytes refusal
    pub refuses : was.tells → OpenRefuses (actuators catalogue) (digest_of catalogue) was.first was.second refusal
    pub tells : TellsLine k (refusal_line refusal) 4 old new status
    pub holds : was.tells → HoldSame was now
    pub faults : now.faults ≡ was.faults
    -- what a crash may leave meanwhile
    pub images : was.tells → now.whole → WhileLooked was.stories now.stories

  -- One line tells what it stands for, with status 0.
  pub record FoundJournal : Type 0 where
    pub checked : Checked
    pub stands : was.tells → ChecksPair (actuators catalogue) (digest_of catalogue) was.first was.second checked
    pub tells : TellsLine k (checked_line checked) 0 old new status
    pub faults : now.faults ≡ was.faults

  -- a check of a journal, which holds what it held
  pub record ChecksOver : Type 0 where
    pub did : HadNoJournal was now old new status ⊎ RefusedJournal ⊎ FoundJournal
    pub holds : was.tells → HoldSame was now
    pub images : was.tells → now.whole → WhileLooked was.stories now.stories

module _ {S K A : Type 0} (s : source.Ghosts S) (k : sink.Ghosts K) (a : actuators_of.Ghosts A) where
  abbrev pub outside_of : Beside S K A → Outside
  outside_of beside = outside s k a beside.source beside.sink beside.devices

  module _ (catalogue : Catalogue) (was now : Pair) (old new : Beside S K A) (status : ℕ) where
    -- The journal was opened, and the script was run over it, from the state that its bytes stand for, until this end. The entries that
    -- it made are those of the script. A step was not made exactly where a disk failed, which is status 5; else the status tells the end.
    pub record RanJournal : Type 0 where
      pub state : State
      pub number : ℕ
      pub opened : was.tells → OpenedAt (actuators catalogue) (digest_of catalogue) was.first was.second state number
      pub made : List Entry
      pub legal : IsLegal (actuators catalogue) made state
      pub end : Result Next Broken
      pub told : status ≡ (if is_broken made then 5 else status_of end)
      pub ended : s.tells → IfOk end (EndsOver (λ all is_over. RanScript catalogue state all is_over made (outside_of old) (outside_of new))
          (outside_of old) (outside_of new))
      pub broke : s.tells → k.tells → OnErr end (BrokeScript catalogue state (lines (s.left old.source)) made (outside_of old) (outside_of new))
      pub read_fault : ReadCause (s.faults old.source) (s.faults new.source) end
      pub write_fault : WriteCause (k.faults old.sink) (k.faults new.sink) end
      pub disk_fault : is_broken made ≡ true → Rose was.faults now.faults
      pub no_disk_fault : is_broken made ≡ false → now.faults ≡ was.faults
      pub holds : was.tells → HoldsAfter catalogue state number made now.first now.second
      -- what a crash may leave meanwhile
      pub images : was.tells → now.whole → WhileRun (actuators catalogue) (digest_of catalogue) was.first was.second was.stories state made now.stories

    -- a script over a journal
    abbrev pub RunsOver : Type 0
    RunsOver = (HadNoJournal was now old new status × (was.tells → was.lasts → StillStands catalogue was now))
        ⊎ (RefusedJournal k catalogue was now old.sink new.sink status × (new.source ≡ old.source) × (new.devices ≡ old.devices)) ⊎ RanJournal
