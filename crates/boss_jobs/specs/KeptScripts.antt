-- Source: own.
-- `script CATALOGUE JOURNAL`, where the journal is kept in two files.
use Rattle.std.specs.Prelude.{◌≡◌, ◌≢◌, ◌⊎◌, ℕ, ◌≤◌, false, List, [], ◌∷◌, length, Some, Ok}
use Rattle.boss_model.specs.Catalogue.{Catalogue}
use Rattle.boss_model.specs.Limits.{most_lines}
use Rattle.boss_model.specs.Lines.{lines}
use Rattle.boss_outside.specs.Counts.{Rose}
use Rattle.boss_outside.specs.declared.actuators.Actuators as actuators
use Rattle.boss_files.specs.declared.files.Files as files
use Rattle.boss_outside.specs.declared.sink.Sink as sink
use Rattle.boss_outside.specs.declared.source.Source as source
use Rattle.boss_pair_find.specs.declared.refusal.DurableRefusal.{DurableRefusal}
use Rattle.boss_files.specs.Names.{second_name}
use Rattle.boss_scripts.specs.Ends.{has_too_long}
use Rattle.boss_jobs.specs.Jobs.{HadNoCatalogue, RefusedCatalogue, Spells, World}
use Rattle.boss_jobs.specs.Journals.{AsksFront, beside_files, in_files, IsRefused, RunsOver}
use Rattle.boss_jobs.specs.Programs.{usable}

module _ {F D S K A : Type 0} (f : files.Ghosts F D) (s : source.Ghosts S) (k : sink.Ghosts K) (a : actuators.Ghosts A) where
  -- the catalogue can be used, and a script ran over the journal of this name, as far as there is one
  pub record RanKept (name journal : List ℕ) (count : ℕ) (old new : World F S K A) (status : ℕ) : Type 0 where
    pub catalogue : Catalogue
    pub spells : Spells f s k a name count old.files (Ok catalogue)
    pub runs : RunsOver s k a catalogue (in_files f journal old.files) (in_files f journal new.files) (beside_files old) (beside_files new) status

  -- where there are so many devices
  pub record DoesKeptScript (name journal : List ℕ) (count : ℕ) (old new : World F S K A) (status : ℕ) : Type 0 where
    pub did : HadNoCatalogue f s k a old new status ⊎ RefusedCatalogue f s k a name count old new status ⊎ RanKept name journal count old new status
    -- the catalogue's file is asked for, and the journal's two behind it, as far as it comes to that; and no other
    pub asks : f.tells → AsksFront (name ∷ journal ∷ second_name journal ∷ []) (f.asked old.files) (f.asked new.files)
    -- no other file changes
    pub others : f.tells → (file : List ℕ) → file ≢ journal → file ≢ second_name journal → f.holds new.files file ≡ f.holds old.files file
    -- where the catalogue can be used, the journal is not refused, nothing failed, no line is too long and the lines are not too many,
    -- the script runs to its end, or memory is wanting
    pub complete : (catalogue : Catalogue) (file : List ℕ) → f.tells → f.holds old.files name ≡ Some file → usable count file ≡ Ok catalogue
        → ((refusal : DurableRefusal) → IsRefused catalogue (in_files f journal old.files) refusal → ⊥) → s.tells
        → ¬ Rose (f.faults old.files) (f.faults new.files) → ¬ Rose (s.faults old.source) (s.faults new.source) → ¬ Rose (k.faults old.sink) (k.faults new.sink)
        → has_too_long (lines (s.left old.source)) ≡ false → length (lines (s.left old.source)) ≤ most_lines → (status ≡ 0) ⊎ (status ≡ 8)
