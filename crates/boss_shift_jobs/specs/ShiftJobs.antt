-- Source: own.
-- `shift CATALOGUE JOURNAL BY`.
use Rattle.std.specs.Prelude.{◌≡◌, ◌≢◌, ◌⊎◌, ℕ, List, [], ◌∷◌, Some, Ok}
use Rattle.boss_model.specs.Catalogue.{Catalogue, actuators}
use Rattle.boss_model.specs.State.{State}
use Rattle.boss_outside.specs.Counts.{Rose}
use Rattle.boss_outside.specs.declared.actuators.Actuators as actuators_of
use Rattle.boss_files.specs.declared.files.Files as files
use Rattle.boss_outside.specs.declared.sink.Sink as sink
use Rattle.boss_outside.specs.declared.source.Source as source
use Rattle.boss_pair_find.specs.declared.refusal.DurableRefusal.{DurableRefusal}
use Rattle.boss_files.specs.Names.{second_name}
use Rattle.boss_opening.specs.Opens.{digest_of, OpenedAt}
use Rattle.boss_jobs.specs.Jobs.{HadNoCatalogue, RefusedCatalogue, Spells, World}
use Rattle.boss_jobs.specs.Journals.{AsksFront, in_files, IsRefused, Pair}
use Rattle.boss_jobs.specs.Programs.{usable}
use Rattle.law_shift.specs.Shifted.{MayShift}
use Rattle.boss_shift_jobs.specs.Shifts.{ShiftsOver}

-- whatever state the pair opens to, its moments can be taken back so far
abbrev pub CanShift : Catalogue → ℕ → Pair → Type 0
CanShift catalogue by pair = (state : State) (number : ℕ) → OpenedAt (actuators catalogue) (digest_of catalogue) pair.first pair.second state number → MayShift by state.persistent

module _ {F D S K A : Type 0} (f : files.Ghosts F D) (s : source.Ghosts S) (k : sink.Ghosts K) (a : actuators_of.Ghosts A)
    (name journal : List ℕ) (by count : ℕ) (old new : World F S K A) (status : ℕ) where
  -- the catalogue can be used, and the moments of the journal of this name were to be taken back
  pub record ShiftedKept : Type 0 where
    pub catalogue : Catalogue
    pub spells : Spells f s k a name count old.files (Ok catalogue)
    pub shifts : ShiftsOver k catalogue by (in_files f journal old.files) (in_files f journal new.files) old.sink new.sink status

  -- where there are so many devices
  pub record ShiftsJournal : Type 0 where
    pub did : HadNoCatalogue f s k a old new status ⊎ RefusedCatalogue f s k a name count old new status ⊎ ShiftedKept
    -- nothing is read, and no device is called
    pub source : new.source ≡ old.source
    pub devices : new.devices ≡ old.devices
    -- the catalogue's file is asked for, and the journal's two behind it, as far as it comes to that; and no other
    pub asks : f.tells → AsksFront (name ∷ journal ∷ second_name journal ∷ []) (f.asked old.files) (f.asked new.files)
    -- no other file changes
    pub others : f.tells → (file : List ℕ) → file ≢ journal → file ≢ second_name journal → f.holds new.files file ≡ f.holds old.files file
    -- where the catalogue can be used, the journal is not refused, its moments can be taken back so far and nothing failed, they are, or the
    -- journal is new, or memory is wanting
    pub complete : (catalogue : Catalogue) (file : List ℕ) → f.tells
        → f.holds old.files name ≡ Some file → usable count file ≡ Ok catalogue
        → ((refusal : DurableRefusal) → IsRefused catalogue (in_files f journal old.files) refusal → ⊥)
        → CanShift catalogue by (in_files f journal old.files)
        → ¬ Rose (f.faults old.files) (f.faults new.files) → ¬ Rose (k.faults old.sink) (k.faults new.sink) → (status ≡ 0) ⊎ (status ≡ 8)
