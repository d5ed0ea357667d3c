-- Source: own.
-- `feed CATALOGUE JOURNAL FROM`.
use Rattle.std.specs.Prelude.{◌≡◌, ◌⊎◌, ℕ, List, [], ◌∷◌, Some, Ok}
use Rattle.boss_files.specs.declared.files.Files as files
use Rattle.boss_files.specs.Names.{second_name}
use Rattle.boss_jobs.specs.Checks.{KeepsFiles}
use Rattle.boss_jobs.specs.Jobs.{HadNoCatalogue, RefusedCatalogue, Spells, World}
use Rattle.boss_jobs.specs.Journals.{AsksFront, in_files, IsRefused}
use Rattle.boss_jobs.specs.Programs.{usable}
use Rattle.boss_model.specs.Catalogue.{Catalogue}
use Rattle.boss_outside.specs.Counts.{Rose}
use Rattle.boss_outside.specs.declared.actuators.Actuators as actuators
use Rattle.boss_outside.specs.declared.sink.Sink as sink
use Rattle.boss_outside.specs.declared.source.Source as source
use Rattle.boss_pair_find.specs.declared.refusal.DurableRefusal.{DurableRefusal}
use Rattle.boss_standby_jobs.specs.Feeds.{FeedsOver}

module _ {F D S K A : Type 0} (f : files.Ghosts F D) (s : source.Ghosts S) (k : sink.Ghosts K) (a : actuators.Ghosts A) where
  -- the catalogue can be used, and the feed of the journal of this name was to be told
  pub record FedKept (name journal : List ℕ) (from count : ℕ) (old new : World F S K A) (status : ℕ) : Type 0 where
    pub catalogue : Catalogue
    pub spells : Spells f s k a name count old.files (Ok catalogue)
    pub feeds : FeedsOver k catalogue from (in_files f journal old.files) (in_files f journal new.files) old.sink new.sink status

  -- where there are so many devices
  pub record FeedsJournal (name journal : List ℕ) (from count : ℕ) (old new : World F S K A) (status : ℕ) : Type 0 where
    pub did : HadNoCatalogue f s k a old new status ⊎ RefusedCatalogue f s k a name count old new status ⊎ FedKept name journal from count old new status
    pub keeps : KeepsFiles f old.files new.files
    -- nothing is read, and no device is called
    pub source : new.source ≡ old.source
    pub devices : new.devices ≡ old.devices
    -- the catalogue's file is asked for, and the journal's two behind it, as far as it comes to that; and no other
    pub asks : f.tells → AsksFront (name ∷ journal ∷ second_name journal ∷ []) (f.asked old.files) (f.asked new.files)
    -- where the catalogue can be used, the journal is not refused and nothing failed, the feed is told, or memory is wanting
    pub complete : (catalogue : Catalogue) (file : List ℕ) → f.tells → f.holds old.files name ≡ Some file → usable count file ≡ Ok catalogue
        → ((refusal : DurableRefusal) → IsRefused catalogue (in_files f journal old.files) refusal → ⊥)
        → ¬ Rose (f.faults old.files) (f.faults new.files) → ¬ Rose (k.faults old.sink) (k.faults new.sink) → (status ≡ 0) ⊎ (status ≡ 8)

  -- the catalogue can be used, and the feed of a journal in memory alone, which is new, is empty
  pub record FedNothing (name : List ℕ) (count : ℕ) (old new : World F S K A) (status : ℕ) : Type 0 where
    pub catalogue : Catalogue
    pub spells : Spells f s k a name count old.files (Ok catalogue)
    pub status_is : status ≡ 0
    pub sink : new.sink ≡ old.sink
    pub files : f.faults new.files ≡ f.faults old.files

  -- `feed NAME - FROM`
  pub record FeedsMemory (name : List ℕ) (count : ℕ) (old new : World F S K A) (status : ℕ) : Type 0 where
    pub did : HadNoCatalogue f s k a old new status ⊎ RefusedCatalogue f s k a name count old new status ⊎ FedNothing name count old new status
    pub keeps : KeepsFiles f old.files new.files
    pub source : new.source ≡ old.source
    pub devices : new.devices ≡ old.devices
    pub asks : f.tells → AsksFront (name ∷ []) (f.asked old.files) (f.asked new.files)
    pub complete : (catalogue : Catalogue) (file : List ℕ) → f.tells → f.holds old.files name ≡ Some file → usable count file ≡ Ok catalogue
        → ¬ Rose (f.faults old.files) (f.faults new.files) → (status ≡ 0) ⊎ (status ≡ 8)
