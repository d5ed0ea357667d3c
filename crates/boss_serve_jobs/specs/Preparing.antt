-- Source: own.
-- What a server is set up with before it opens a journal: the catalogue of a file, the access rules and the keys of two others, if the
-- words name them, and the devices as a plan assigns them.
use Rattle.std.specs.Prelude.{◌≡◌, ◌⊎◌, ℕ, List, [], ◌∷◌, ◌++◌, Option, Some, None, Result, Ok, Err}
use Rattle.boss_model.specs.Catalogue.{Catalogue}
use Rattle.boss_outside.specs.Counts.{Rose}
use Rattle.boss_outside.specs.declared.actuators.Actuators as actuators
use Rattle.boss_outside.specs.declared.sink.Sink as sink
use Rattle.boss_files.specs.declared.files.Files as files
use Rattle.boss_points.specs.declared.CatalogueRefusal.{CatalogueRefusal}
use Rattle.boss_access.specs.declared.refusal.RulesRefusal.{RulesRefusal}
use Rattle.boss_access.specs.declared.rule.Rule.{Rule}
use Rattle.boss_access.specs.Lines.{refusal_line as rules_refusal_line}
use Rattle.boss_access.specs.Reading.{rules_of}
use Rattle.boss_answers.specs.Refused.{refusal_line}
use Rattle.boss_keys.specs.declared.file.KeyFile.{KeyFile}
use Rattle.boss_keys.specs.declared.refusal.KeysRefusal.{KeysRefusal}
use Rattle.boss_keys.specs.Lines.{refusal_line as keys_refusal_line}
use Rattle.boss_keys.specs.Reading.{keys_of}
use Rattle.boss_plans.specs.declared.Part.{Part}
use Rattle.boss_plans.specs.declared.PlanRefusal.{PlanRefusal}
use Rattle.boss_plans.specs.Plans.{plan_of}
use Rattle.boss_assignment.specs.Assignments.{AreAssigned, Spells}
use Rattle.boss_plans.specs.Lines.{refusal_line as plan_refusal_line}
use Rattle.boss_jobs.specs.declared.status.Status.{Status}
use Rattle.boss_jobs.specs.Jobs.{TellsLine}
use Rattle.boss_jobs.specs.Journals.{AsksFront}
use Rattle.boss_jobs.specs.Programs.{usable}

-- what is read, told and assigned meanwhile
pub record Setting (F K A : Type 0) : Type 0 where
  pub files : F
  pub sink : K
  pub devices : List A

abbrev pub setting : {F K A : Type 0} → F → K → List A → Setting F K A
setting files sink devices = record { files = files; sink = sink; devices = devices }

-- the same where no device is at hand
abbrev pub reading : {F K : Type 0} → F → K → Setting F K (Unit {0})
reading files sink = record { files = files; sink = sink; devices = [] }

-- a file that the words may name: of the rules, of the keys, or of the plan
abbrev pub listed : Option (List ℕ) → List (List ℕ)
listed None = []
listed (Some name) = name ∷ []

-- the files that are asked for, in order: all of them, or the front of them where it came to nothing
abbrev pub AsksNames : {T : Type 0} → List (List ℕ) → List (List ℕ) → List (List ℕ) → Result T Status → Type 0
AsksNames names old new (Ok _) = new ≡ old ++ names
AsksNames names old new (Err _) = AsksFront names old new

module _ {F D : Type 0} (f : files.Ghosts F D) where
  -- the catalogue's file comes to this, for so many devices
  abbrev pub Comes : List ℕ → ℕ → F → Result Catalogue CatalogueRefusal → Type 0
  Comes name count files result = f.tells → (file : List ℕ) × (f.holds files name ≡ Some file) × (usable count file ≡ result)

  -- the file of this name spells these rules, or is refused so, if files tell what they hold
  abbrev pub SpellsRules : List ℕ → F → Result (List Rule) RulesRefusal → Type 0
  SpellsRules name files result = f.tells → (file : List ℕ) × (f.holds files name ≡ Some file) × (rules_of file ≡ result)

  -- these are the rules that the words name, if they name some
  abbrev pub AreRuled : Option (List ℕ) → F → Option (List Rule) → Type 0
  AreRuled None files given = given ≡ None
  AreRuled (Some name) files given = (rules : List Rule) × (given ≡ Some rules) × SpellsRules name files (Ok rules)

  -- the rules that the words name are refused
  abbrev pub RefusesRules : Option (List ℕ) → F → RulesRefusal → Type 0
  RefusesRules None files refusal = ⊥
  RefusesRules (Some name) files refusal = SpellsRules name files (Err refusal)

  -- the rules that the words name, if they name some, can be used
  abbrev pub TakesRules : Option (List ℕ) → F → Type 0
  TakesRules None files = Unit {0}
  TakesRules (Some name) files = (file : List ℕ) × (rules : List Rule) × (f.holds files name ≡ Some file) × (rules_of file ≡ Ok rules)

  -- the file of this name spells these keys, or is refused so, if files tell what they hold
  abbrev pub SpellsKeys : List ℕ → F → Result KeyFile KeysRefusal → Type 0
  SpellsKeys name files result = f.tells → (file : List ℕ) × (f.holds files name ≡ Some file) × (keys_of file ≡ result)

  -- these are the keys that the words name, if they name some
  abbrev pub AreKeyed : Option (List ℕ) → F → Option KeyFile → Type 0
  AreKeyed None files given = given ≡ None
  AreKeyed (Some name) files given = (found : KeyFile) × (given ≡ Some found) × SpellsKeys name files (Ok found)

  -- the keys that the words name are refused
  abbrev pub RefusesKeys : Option (List ℕ) → F → KeysRefusal → Type 0
  RefusesKeys None files refusal = ⊥
  RefusesKeys (Some name) files refusal = SpellsKeys name files (Err refusal)

  -- the keys that the words name, if they name some, can be used
  abbrev pub TakesKeys : Option (List ℕ) → F → Type 0
  TakesKeys None files = Unit {0}
  TakesKeys (Some name) files = (file : List ℕ) × (found : KeyFile) × (f.holds files name ≡ Some file) × (keys_of file ≡ Ok found)

  -- the plan that the words name is refused under this catalogue
  abbrev pub RefusesPlan : Option (List ℕ) → Catalogue → F → PlanRefusal → Type 0
  RefusesPlan None catalogue files refusal = ⊥
  RefusesPlan (Some plan) catalogue files refusal = Spells f plan catalogue files (Err refusal)

  -- the plan that the words name, if they name one, can be used under this catalogue
  abbrev pub TakesPlan : Option (List ℕ) → Catalogue → F → Type 0
  TakesPlan None catalogue files = Unit {0}
  TakesPlan (Some plan) catalogue files = (file : List ℕ) × (parts : List Part) × (f.holds files plan ≡ Some file) × (plan_of catalogue file ≡ Ok parts)

  module _ {K A : Type 0} (k : sink.Ghosts K) where
    -- a file failed, which is status 5, or no memory was to be had: nothing was told
    pub record HadNone (old new : Setting F K A) (status : ℕ) : Type 0 where
      pub why : ((status ≡ 5) × Rose (f.faults old.files) (f.faults new.files)) ⊎ ((status ≡ 8) × (f.faults new.files ≡ f.faults old.files))
      pub sink : new.sink ≡ old.sink
      pub devices : new.devices ≡ old.devices

    -- a file was refused: one line tells why, with its status, and nothing else was done
    pub record Refused (line : List ℕ) (told : ℕ) (old new : Setting F K A) (status : ℕ) : Type 0 where
      pub tells : TellsLine k line told old.sink new.sink status
      pub files : f.faults new.files ≡ f.faults old.files
      pub devices : new.devices ≡ old.devices

    -- the catalogue is refused, or a point's driver has no device: status 3
    pub record RefusedCatalogue (name : List ℕ) (count : ℕ) (old new : Setting F K A) (status : ℕ) : Type 0 where
      pub refusal : CatalogueRefusal
      pub comes : Comes name count old.files (Err refusal)
      pub ends : Refused (refusal_line refusal) 3 old new status

    -- the catalogue can be used, and the rules are refused: status 16
    pub record RefusedRules (name : List ℕ) (rules : Option (List ℕ)) (count : ℕ) (old new : Setting F K A) (status : ℕ) : Type 0 where
      pub catalogue : Catalogue
      pub comes : Comes name count old.files (Ok catalogue)
      pub refusal : RulesRefusal
      pub refuses : RefusesRules rules old.files refusal
      pub ends : Refused (rules_refusal_line refusal) 16 old new status

    -- the catalogue and the rules can be used, and the keys are refused: status 19
    pub record RefusedKeys (name : List ℕ) (rules keys : Option (List ℕ)) (count : ℕ) (old new : Setting F K A) (status : ℕ) : Type 0 where
      pub catalogue : Catalogue
      pub comes : Comes name count old.files (Ok catalogue)
      pub given : Option (List Rule)
      pub ruled : AreRuled rules old.files given
      pub refusal : KeysRefusal
      pub refuses : RefusesKeys keys old.files refusal
      pub ends : Refused (keys_refusal_line refusal) 19 old new status

    -- the catalogue, the rules and the keys can be used, and the plan is refused: status 17
    pub record RefusedPlan (name : List ℕ) (rules plan keys : Option (List ℕ)) (count : ℕ) (old new : Setting F K A) (status : ℕ) : Type 0 where
      pub catalogue : Catalogue
      pub comes : Comes name count old.files (Ok catalogue)
      pub given : Option (List Rule)
      pub ruled : AreRuled rules old.files given
      pub entries : Option KeyFile
      pub keyed : AreKeyed keys old.files entries
      pub refusal : PlanRefusal
      pub refuses : RefusesPlan plan catalogue old.files refusal
      pub ends : Refused (plan_refusal_line catalogue refusal) 17 old new status

    abbrev pub Unprepared : List ℕ → Option (List ℕ) → Option (List ℕ) → Option (List ℕ) → ℕ → Setting F K A → Setting F K A → ℕ → Type 0
    Unprepared name rules plan keys count old new status =
        HadNone old new status ⊎ RefusedCatalogue name count old new status ⊎ RefusedRules name rules count old new status
        ⊎ RefusedKeys name rules keys count old new status ⊎ RefusedPlan name rules plan keys count old new status

    -- the rules that the words name were read, if they name some; or it ended without
    abbrev pub GivesRules : Option (List ℕ) → Setting F K A → Setting F K A → Result (Option (List Rule)) Status → Type 0
    GivesRules rules old new (Ok given) = AreRuled rules old.files given × (f.faults new.files ≡ f.faults old.files) × (new.sink ≡ old.sink)
    GivesRules rules old new (Err status) =
        HadNone old new status.0 ⊎ ((refusal : RulesRefusal) × RefusesRules rules old.files refusal × Refused (rules_refusal_line refusal) 16 old new status.0)

    -- the keys that the words name were read, if they name some; or it ended without
    abbrev pub GivesKeys : Option (List ℕ) → Setting F K A → Setting F K A → Result (Option KeyFile) Status → Type 0
    GivesKeys keys old new (Ok given) = AreKeyed keys old.files given × (f.faults new.files ≡ f.faults old.files) × (new.sink ≡ old.sink)
    GivesKeys keys old new (Err status) =
        HadNone old new status.0 ⊎ ((refusal : KeysRefusal) × RefusesKeys keys old.files refusal × Refused (keys_refusal_line refusal) 19 old new status.0)

    module _ (a : actuators.Ghosts A) where
      -- the devices are as the plan assigns them, if the words name one
      abbrev pub AreSet : Option (List ℕ) → Catalogue → F → List A → List A → Type 0
      AreSet None catalogue files old new = new ≡ old
      AreSet (Some plan) catalogue files old new = AreAssigned f a plan catalogue files old new

      -- the devices were assigned so; or it ended without, and no device was told anything
      abbrev pub GivesPlan : Option (List ℕ) → Catalogue → Setting F K A → Setting F K A → Result (Unit {0}) Status → Type 0
      GivesPlan plan catalogue old new (Ok _) = AreSet plan catalogue old.files old.devices new.devices × (f.faults new.files ≡ f.faults old.files) × (new.sink ≡ old.sink)
      GivesPlan plan catalogue old new (Err status) =
          HadNone old new status.0
          ⊎ ((refusal : PlanRefusal) × RefusesPlan plan catalogue old.files refusal × Refused (plan_refusal_line catalogue refusal) 17 old new status.0)

      -- all is set up, and nothing was told
      pub record Prepared (name : List ℕ) (rules plan keys : Option (List ℕ)) (count : ℕ) (catalogue : Catalogue) (given : Option (List Rule)) (entries : Option KeyFile) (old new : Setting F K A) : Type 0 where
        pub comes : Comes name count old.files (Ok catalogue)
        pub ruled : AreRuled rules old.files given
        pub keyed : AreKeyed keys old.files entries
        pub set : AreSet plan catalogue old.files old.devices new.devices
        pub files : f.faults new.files ≡ f.faults old.files
        pub sink : new.sink ≡ old.sink

      abbrev pub Prepares : List ℕ → Option (List ℕ) → Option (List ℕ) → Option (List ℕ) → ℕ → Setting F K A → Setting F K A → Result (Catalogue × Option (List Rule) × Option KeyFile) Status → Type 0
      Prepares name rules plan keys count old new (Ok made) = Prepared name rules plan keys count made.0 made.1 made.2 old new
      Prepares name rules plan keys count old new (Err status) = Unprepared name rules plan keys count old new status.0
