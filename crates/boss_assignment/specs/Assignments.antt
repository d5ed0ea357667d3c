-- Source: own.
-- What a plan's file comes to, and the devices as a plan assigns them.
use Rattle.std.specs.Prelude.{◌≡◌, ◌⊎◌, ℕ, List, [], ◌∷◌, ◌++◌, slice_get, slice_set, Option, Some, None, Result, Ok, Err}
use Rattle.boss_model.specs.Catalogue.{Catalogue}
use Rattle.boss_model.specs.declared.places.DriverPlan.{DriverPlan}
use Rattle.boss_files.specs.declared.files.Files as files
use Rattle.boss_outside.specs.Counts.{Rose}
use Rattle.boss_outside.specs.declared.actuators.Actuators as actuators
use Rattle.boss_plans.specs.declared.plan.Part.{Part}
use Rattle.boss_plans.specs.declared.refusal.PlanRefusal.{PlanRefusal}
use Rattle.boss_plans.specs.Plans.{plan_of}
use Rattle.boss_assignment.specs.declared.assigning.Unplanned.{Unplanned}
use Rattle.boss_assignment.specs.declared.assigning.Unplanned.TheVariants as unplanned

-- ---- the file

-- the plan of a file that holds this is what the file spells, and what was refused is refused as it says
abbrev pub Reads : Catalogue → Option (List ℕ) → Result (List Part) Unplanned → Type 0
Reads catalogue held (Ok parts) = (file : List ℕ) × (held ≡ Some file) × (plan_of catalogue file ≡ Ok parts)
Reads catalogue held (Err (unplanned.Refused refusal)) = (file : List ℕ) × (held ≡ Some file) × (plan_of catalogue file ≡ Err refusal)
Reads catalogue held (Err unplanned.FileFault) = Unit {0}
Reads catalogue held (Err unplanned.NoMemory) = Unit {0}

-- a file fault comes exactly where the count rose
abbrev pub FaultOnly : {T : Type 0} → ℕ → ℕ → Result T Unplanned → Type 0
FaultOnly before now (Ok _) = now ≡ before
FaultOnly before now (Err (unplanned.Refused refusal)) = now ≡ before
FaultOnly before now (Err unplanned.FileFault) = Rose before now
FaultOnly before now (Err unplanned.NoMemory) = now ≡ before

-- the file of this name was asked for, and no other; where memory was wanting maybe not even this one
abbrev pub AsksFor : {T : Type 0} → List ℕ → List (List ℕ) → List (List ℕ) → Result T Unplanned → Type 0
AsksFor name old new (Ok _) = new ≡ old ++ name ∷ []
AsksFor name old new (Err (unplanned.Refused refusal)) = new ≡ old ++ name ∷ []
AsksFor name old new (Err unplanned.FileFault) = new ≡ old ++ name ∷ []
AsksFor name old new (Err unplanned.NoMemory) = (new ≡ old) ⊎ (new ≡ old ++ name ∷ [])

-- ---- the devices

module _ {A : Type 0} (a : actuators.Ghosts A) where
  -- the devices of one driver were told their part: no call was made of them
  pub record IsTold (part : DriverPlan) (old new : A) : Type 0 where
    pub assigned : a.assigned old part new
    pub calls : a.tells → a.calls new ≡ a.calls old
    pub whole : a.tells → (a.whole old → a.whole new) × (a.whole new → a.whole old)
    pub faults : a.faults new ≡ a.faults old

  -- a part was told to its driver's devices, if there are such, and to no others
  abbrev pub ToldAt : Option A → Part → List A → List A → Type 0
  ToldAt None part old new = new ≡ old
  ToldAt (Some device) part old new = (told : A) × IsTold part.plan device told × (new ≡ slice_set old part.driver told)

  abbrev pub AssignsOne : Part → List A → List A → Type 0
  AssignsOne part old new = ToldAt (slice_get old part.driver) part old new

  -- each part of a plan was, one after the other
  abbrev pub Assigns : List Part → List A → List A → Type 0
  Assigns [] old new = new ≡ old
  Assigns (part ∷ parts) old new = (between : List A) × AssignsOne part old between × Assigns parts between new

-- ---- both

module _ {F D : Type 0} (f : files.Ghosts F D) where
  -- what the file of this name comes to under a catalogue, if files tell what they hold
  abbrev pub Spells : List ℕ → Catalogue → F → Result (List Part) PlanRefusal → Type 0
  Spells name catalogue files result = f.tells → (file : List ℕ) × (f.holds files name ≡ Some file) × (plan_of catalogue file ≡ result)

  module _ {A : Type 0} (a : actuators.Ghosts A) where
    -- the devices are as the plan of this file assigns them
    abbrev pub AreAssigned : List ℕ → Catalogue → F → List A → List A → Type 0
    AreAssigned name catalogue files old new = (parts : List Part) × Spells name catalogue files (Ok parts) × Assigns a parts old new

    -- what came of a plan's file: the devices are as it assigns them; or it was refused or not had, and none was told anything
    abbrev pub Planned : List ℕ → Catalogue → F → List A → List A → Result (Unit {0}) Unplanned → Type 0
    Planned name catalogue files old new (Ok _) = AreAssigned name catalogue files old new
    Planned name catalogue files old new (Err (unplanned.Refused refusal)) = Spells name catalogue files (Err refusal) × (new ≡ old)
    Planned name catalogue files old new (Err unplanned.FileFault) = new ≡ old
    Planned name catalogue files old new (Err unplanned.NoMemory) = new ≡ old
