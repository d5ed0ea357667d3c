-- Source: own.
-- `standby CATALOGUE JOURNAL`.
use Rattle.std.specs.Prelude.{◌≡◌, ◌≢◌, ◌⊎◌, ℕ, List, [], ◌∷◌, Some, Ok}
use Rattle.boss_files.specs.declared.files.Files as files
use Rattle.boss_files.specs.Names.{second_name}
use Rattle.boss_jobs.specs.Checks.{KeepsFiles}
use Rattle.boss_jobs.specs.Jobs.{HadNoCatalogue, RefusedCatalogue, Spells, World}
use Rattle.boss_jobs.specs.Journals.{AsksFront, in_files, IsRefused}
use Rattle.boss_jobs.specs.Programs.{usable}
use Rattle.boss_model.specs.Catalogue.{Catalogue}
use Rattle.boss_outside.specs.Counts.{Rose}
use Rattle.boss_outside.specs.declared.actuators.Actuators as actuators
use Rattle.boss_outside.specs.declared.sink.Sink as sink
use Rattle.boss_outside.specs.declared.source.Source as source
use Rattle.boss_pair_find.specs.declared.refusal.DurableRefusal.{DurableRefusal}
use Rattle.boss_standby_jobs.specs.Followings.{FollowsNew, FollowsOver, Streams, streams}

-- the status of a feed that was followed as far as its lines go, or of want of memory
abbrev pub IsFollowed : ℕ → Type 0
IsFollowed status = (status ≡ 0) ⊎ (status ≡ 18) ⊎ (status ≡ 13) ⊎ (status ≡ 14) ⊎ (status ≡ 8)

module _ {F D S K A : Type 0} (f : files.Ghosts F D) (s : source.Ghosts S) (k : sink.Ghosts K) (a : actuators.Ghosts A) where
  abbrev pub streams_of : World F S K A → Streams S K
  streams_of world = streams world.source world.sink

  -- the catalogue can be used, and a feed was to be followed by the journal of this name
  pub record FollowedKept (name journal : List ℕ) (count : ℕ) (old new : World F S K A) (status : ℕ) : Type 0 where
    pub catalogue : Catalogue
    pub spells : Spells f s k a name count old.files (Ok catalogue)
    pub follows : FollowsOver s k catalogue (in_files f journal old.files) (in_files f journal new.files) (streams_of old) (streams_of new) status

  -- where there are so many devices
  pub record DoesStandby (name journal : List ℕ) (count : ℕ) (old new : World F S K A) (status : ℕ) : Type 0 where
    pub did : HadNoCatalogue f s k a old new status ⊎ RefusedCatalogue f s k a name count old new status ⊎ FollowedKept name journal count old new status
    -- no device is called
    pub devices : new.devices ≡ old.devices
    -- the catalogue's file is asked for, and the journal's two behind it, as far as it comes to that; and no other
    pub asks : f.tells → AsksFront (name ∷ journal ∷ second_name journal ∷ []) (f.asked old.files) (f.asked new.files)
    -- no other file changes
    pub others : f.tells → (file : List ℕ) → file ≢ journal → file ≢ second_name journal → f.holds new.files file ≡ f.holds old.files file
    -- where the catalogue can be used, the journal is not refused and nothing failed, the feed is followed as far as its lines go, or
    -- memory is wanting
    pub complete : (catalogue : Catalogue) (file : List ℕ) → f.tells → f.holds old.files name ≡ Some file → usable count file ≡ Ok catalogue
        → ((refusal : DurableRefusal) → IsRefused catalogue (in_files f journal old.files) refusal → ⊥)
        → ¬ Rose (f.faults old.files) (f.faults new.files) → ¬ Rose (s.faults old.source) (s.faults new.source) → ¬ Rose (k.faults old.sink) (k.faults new.sink) → IsFollowed status

  -- the catalogue can be used, and a feed was to be followed by a journal in memory alone, which is new
  pub record FollowedMemory (name : List ℕ) (count : ℕ) (old new : World F S K A) (status : ℕ) : Type 0 where
    pub catalogue : Catalogue
    pub spells : Spells f s k a name count old.files (Ok catalogue)
    pub follows : FollowsNew s k catalogue (streams_of old) (streams_of new) status
    pub files : f.faults new.files ≡ f.faults old.files

  -- `standby NAME -`
  pub record StandbyMemory (name : List ℕ) (count : ℕ) (old new : World F S K A) (status : ℕ) : Type 0 where
    pub did : HadNoCatalogue f s k a old new status ⊎ RefusedCatalogue f s k a name count old new status ⊎ FollowedMemory name count old new status
    pub keeps : KeepsFiles f old.files new.files
    pub devices : new.devices ≡ old.devices
    pub asks : f.tells → AsksFront (name ∷ []) (f.asked old.files) (f.asked new.files)
    pub complete : (catalogue : Catalogue) (file : List ℕ) → f.tells → f.holds old.files name ≡ Some file → usable count file ≡ Ok catalogue
        → ¬ Rose (f.faults old.files) (f.faults new.files) → ¬ Rose (s.faults old.source) (s.faults new.source) → ¬ Rose (k.faults old.sink) (k.faults new.sink) → IsFollowed status
