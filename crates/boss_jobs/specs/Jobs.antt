-- Source: own.
-- What the program does, a relation for each job that the words may ask for.
use Rattle.std.specs.Prelude.{◌≡◌, ◌⊎◌, ℕ, ◌≤◌, false, List, [], ◌∷◌, ◌++◌, length, Some, Result, Ok, Err}
use Rattle.boss_model.specs.Catalogue.{Catalogue}
use Rattle.boss_model.specs.Limits.{most_lines}
use Rattle.boss_model.specs.Lines.{lines}
use Rattle.boss_outside.specs.Counts.{Rose}
use Rattle.boss_outside.specs.Streams.{TakesFront}
use Rattle.boss_outside.specs.declared.actuators.Actuators as actuators
use Rattle.boss_files.specs.declared.files.Files as files
use Rattle.boss_outside.specs.declared.sink.Sink as sink
use Rattle.boss_outside.specs.declared.source.Source as source
use Rattle.boss_points.specs.declared.CatalogueRefusal.{CatalogueRefusal}
use Rattle.boss_answers.specs.Refused.{help_text, refusal_line, usage_line, version_line}
use Rattle.boss_jobs.specs.Ends.{EndsScript}
use Rattle.boss_scripts.specs.Ends.{has_too_long}
use Rattle.boss_scripts.specs.Outside.{outside}
use Rattle.boss_jobs.specs.Programs.{usable}

-- all that the program is given, at one moment
pub record World (F S K A : Type 0) : Type 0 where
  pub files : F
  pub source : S
  pub sink : K
  pub devices : List A

abbrev pub world : {F S K A : Type 0} → F → S → K → List A → World F S K A
world files source sink devices = record { files = files; source = source; sink = sink; devices = devices }

-- One line was told, with its own status; or a write failed, which is 7, and the front of it was told; or no memory was to be
-- had, which is 8, and the sink is as it was.
module _ {K : Type 0} (k : sink.Ghosts K) where
  abbrev pub TellsLine : List ℕ → ℕ → K → K → ℕ → Type 0
  TellsLine line told old new status =
      ((status ≡ told) × (k.tells → k.taken new ≡ k.taken old ++ line) × (k.faults new ≡ k.faults old))
      ⊎ ((status ≡ 7) × (k.tells → TakesFront (k.taken old) (k.taken new) line) × Rose (k.faults old) (k.faults new))
      ⊎ ((status ≡ 8) × (new ≡ old))

module _ {F D S K A : Type 0} (f : files.Ghosts F D) (s : source.Ghosts S) (k : sink.Ghosts K) (a : actuators.Ghosts A) where
  -- the words ask for no job that is served: one line tells it, with status 2, and no file is asked for, nothing read and no device called
  pub record SaysUsage (old new : World F S K A) (status : ℕ) : Type 0 where
    pub tells : TellsLine k usage_line 2 old.sink new.sink status
    pub files : new.files ≡ old.files
    pub source : new.source ≡ old.source
    pub devices : new.devices ≡ old.devices

  -- a text is told, and all is done: no file is asked for, nothing read and no device called
  pub record SaysText (text : List ℕ) (old new : World F S K A) (status : ℕ) : Type 0 where
    pub tells : TellsLine k text 0 old.sink new.sink status
    pub files : new.files ≡ old.files
    pub source : new.source ≡ old.source
    pub devices : new.devices ≡ old.devices

  abbrev pub SaysHelp : World F S K A → World F S K A → ℕ → Type 0
  SaysHelp = SaysText help_text

  abbrev pub SaysVersion : World F S K A → World F S K A → ℕ → Type 0
  SaysVersion = SaysText version_line

  -- what the file under this name comes to, for so many devices, if files tell what they hold
  abbrev pub Spells : List ℕ → ℕ → F → Result Catalogue CatalogueRefusal → Type 0
  Spells name count files result = f.tells → (file : List ℕ) × (f.holds files name ≡ Some file) × (usable count file ≡ result)

  -- no catalogue was had, as a file failed, which is status 5, or no memory was to be had: nothing was told, read or called
  pub record HadNoCatalogue (old new : World F S K A) (status : ℕ) : Type 0 where
    pub why : ((status ≡ 5) × Rose (f.faults old.files) (f.faults new.files)) ⊎ ((status ≡ 8) × (f.faults new.files ≡ f.faults old.files))
    pub source : new.source ≡ old.source
    pub sink : new.sink ≡ old.sink
    pub devices : new.devices ≡ old.devices

  -- the catalogue is refused, or a point's driver has no device: one line tells it, with status 3, and nothing was read or called
  pub record RefusedCatalogue (name : List ℕ) (count : ℕ) (old new : World F S K A) (status : ℕ) : Type 0 where
    pub refusal : CatalogueRefusal
    pub spells : Spells name count old.files (Err refusal)
    pub tells : TellsLine k (refusal_line refusal) 3 old.sink new.sink status
    pub files : f.faults new.files ≡ f.faults old.files
    pub source : new.source ≡ old.source
    pub devices : new.devices ≡ old.devices

  -- the catalogue can be used, and its script was run
  pub record RanCatalogue (name : List ℕ) (count : ℕ) (old new : World F S K A) (status : ℕ) : Type 0 where
    pub catalogue : Catalogue
    pub spells : Spells name count old.files (Ok catalogue)
    pub files : f.faults new.files ≡ f.faults old.files
    pub script : EndsScript catalogue (outside s k a old.source old.sink old.devices) (outside s k a new.source new.sink new.devices) status

  -- `script NAME -`, where there are so many devices
  pub record DoesScript (name : List ℕ) (count : ℕ) (old new : World F S K A) (status : ℕ) : Type 0 where
    pub did : HadNoCatalogue old new status ⊎ RefusedCatalogue name count old new status ⊎ RanCatalogue name count old new status
    -- the catalogue's file is asked for once, and no other; where memory was wanting maybe not even this one
    pub asks : f.tells → (f.asked new.files ≡ f.asked old.files ++ name ∷ []) ⊎ ((status ≡ 8) × (f.asked new.files ≡ f.asked old.files))
    -- where the catalogue can be used, nothing failed, no line is too long and the lines are not too many, the script runs to its
    -- end, or memory is wanting
    pub complete : (catalogue : Catalogue) (file : List ℕ) → f.tells → f.holds old.files name ≡ Some file → usable count file ≡ Ok catalogue → s.tells
        → ¬ Rose (f.faults old.files) (f.faults new.files) → ¬ Rose (s.faults old.source) (s.faults new.source) → ¬ Rose (k.faults old.sink) (k.faults new.sink)
        → has_too_long (lines (s.left old.source)) ≡ false → length (lines (s.left old.source)) ≤ most_lines → (status ≡ 0) ⊎ (status ≡ 8)
