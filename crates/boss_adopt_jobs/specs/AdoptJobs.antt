-- Source: own.
-- `adopt OLD NEW JOURNAL`.
use Rattle.std.specs.Prelude.{◌≡◌, ◌≢◌, ◌⊎◌, ℕ, List, [], ◌∷◌, Some, Ok}
use Rattle.boss_model.specs.Catalogue.{Catalogue, actuators}
use Rattle.boss_model.specs.State.{State}
use Rattle.boss_outside.specs.Counts.{Rose}
use Rattle.boss_outside.specs.declared.actuators.Actuators as actuators_of
use Rattle.boss_files.specs.declared.files.Files as files
use Rattle.boss_outside.specs.declared.sink.Sink as sink
use Rattle.boss_outside.specs.declared.source.Source as source
use Rattle.boss_pair_find.specs.declared.refusal.DurableRefusal.{DurableRefusal}
use Rattle.boss_journal_lines.specs.Reports.{new_line}
use Rattle.boss_files.specs.Names.{second_name}
use Rattle.boss_opening.specs.Opens.{digest_of, OpenedAt}
use Rattle.boss_changing.specs.Adoptions.{MayAdopt}
use Rattle.boss_jobs.specs.Checks.{KeepsFiles}
use Rattle.boss_jobs.specs.Jobs.{HadNoCatalogue, RefusedCatalogue, Spells, TellsLine, World}
use Rattle.boss_jobs.specs.Journals.{AsksFront, in_files, IsRefused, Pair}
use Rattle.boss_jobs.specs.Programs.{usable}
use Rattle.boss_adopt_jobs.specs.Adoptions.{AdoptsOver}

-- wherever the pair opens under the old catalogue, no removed point is in use, and all values fit
abbrev pub CanAdopt : Catalogue → Catalogue → Pair → Type 0
CanAdopt old new pair = (state : State) (number : ℕ) → OpenedAt (actuators old) (digest_of old) pair.first pair.second state number → MayAdopt old new state.persistent

module _ {F D S K A : Type 0} (f : files.Ghosts F D) (s : source.Ghosts S) (k : sink.Ghosts K) (a : actuators_of.Ghosts A)
    (old_name new_name : List ℕ) (count : ℕ) (old new : World F S K A) (status : ℕ) where
  -- the old catalogue can be used, and the new one is refused
  pub record RefusedNew : Type 0 where
    pub old_catalogue : Catalogue
    pub old_spells : Spells f s k a old_name count old.files (Ok old_catalogue)
    pub refused : RefusedCatalogue f s k a new_name count old new status

  -- both can be used, and what the journal of this name stands for was to be taken over
  pub record AdoptedKept (journal : List ℕ) : Type 0 where
    pub old_catalogue : Catalogue
    pub old_spells : Spells f s k a old_name count old.files (Ok old_catalogue)
    pub new_catalogue : Catalogue
    pub new_spells : Spells f s k a new_name count old.files (Ok new_catalogue)
    pub adopts : AdoptsOver k old_catalogue new_catalogue (in_files f journal old.files) (in_files f journal new.files) old.sink new.sink status

  -- where there are so many devices
  pub record AdoptsJournal (journal : List ℕ) : Type 0 where
    pub did : HadNoCatalogue f s k a old new status ⊎ RefusedCatalogue f s k a old_name count old new status ⊎ RefusedNew ⊎ AdoptedKept journal
    -- nothing is read, and no device is called
    pub source : new.source ≡ old.source
    pub devices : new.devices ≡ old.devices
    -- the two catalogues are asked for, the old one first, and the journal's two files behind them, as far as it comes to that; and no other
    pub asks : f.tells → AsksFront (old_name ∷ new_name ∷ journal ∷ second_name journal ∷ []) (f.asked old.files) (f.asked new.files)
    -- no other file changes
    pub others : f.tells → (file : List ℕ) → file ≢ journal → file ≢ second_name journal → f.holds new.files file ≡ f.holds old.files file
    -- where both can be used, the journal is not refused, its state can be adopted and nothing failed, it is, or the journal is new, or
    -- memory is wanting
    pub complete : (old_catalogue new_catalogue : Catalogue) (old_file new_file : List ℕ) → f.tells
        → f.holds old.files old_name ≡ Some old_file → usable count old_file ≡ Ok old_catalogue
        → f.holds old.files new_name ≡ Some new_file → usable count new_file ≡ Ok new_catalogue
        → ((refusal : DurableRefusal) → IsRefused old_catalogue (in_files f journal old.files) refusal → ⊥)
        → CanAdopt old_catalogue new_catalogue (in_files f journal old.files)
        → ¬ Rose (f.faults old.files) (f.faults new.files) → ¬ Rose (k.faults old.sink) (k.faults new.sink) → (status ≡ 0) ⊎ (status ≡ 8)

  -- both can be used, and a journal in memory alone is new: one line tells it, with status 0
  pub record ToldNewUnderBoth : Type 0 where
    pub old_catalogue : Catalogue
    pub old_spells : Spells f s k a old_name count old.files (Ok old_catalogue)
    pub new_catalogue : Catalogue
    pub new_spells : Spells f s k a new_name count old.files (Ok new_catalogue)
    pub tells : TellsLine k new_line 0 old.sink new.sink status
    pub files : f.faults new.files ≡ f.faults old.files

  -- `adopt OLD NEW -`
  pub record AdoptsMemory : Type 0 where
    pub did : HadNoCatalogue f s k a old new status ⊎ RefusedCatalogue f s k a old_name count old new status ⊎ RefusedNew ⊎ ToldNewUnderBoth
    pub keeps : KeepsFiles f old.files new.files
    pub source : new.source ≡ old.source
    pub devices : new.devices ≡ old.devices
    pub asks : f.tells → AsksFront (old_name ∷ new_name ∷ []) (f.asked old.files) (f.asked new.files)
    pub complete : (old_catalogue new_catalogue : Catalogue) (old_file new_file : List ℕ) → f.tells
        → f.holds old.files old_name ≡ Some old_file → usable count old_file ≡ Ok old_catalogue
        → f.holds old.files new_name ≡ Some new_file → usable count new_file ≡ Ok new_catalogue
        → ¬ Rose (f.faults old.files) (f.faults new.files) → ¬ Rose (k.faults old.sink) (k.faults new.sink) → (status ≡ 0) ⊎ (status ≡ 8)
