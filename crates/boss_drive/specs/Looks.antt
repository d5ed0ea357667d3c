-- Source: own.
-- A look of a driver's worker, where its driver has no want.
use Rattle.std.specs.Prelude.{◌≡◌, ℕ, ◌<◌, Bool, true, false, List, [], ◌∷◌, ◌++◌, length}
use Rattle.boss_model.specs.declared.answer.Answer.{Answer}
use Rattle.boss_model.specs.declared.command.Command.TheVariants.{Doubt}
use Rattle.boss_model.specs.declared.state.Actuator.{Actuator}
use Rattle.boss_model.specs.Catalogue.{driver_of}
use Rattle.def_history.specs.declared.entry.Entry.{Entry}
use Rattle.def_history.specs.declared.entry.Entry.TheVariants.{Did}
use Rattle.boss_expiry.specs.declared.end.WorkEnd.{WorkEnd}
use Rattle.boss_expiry.specs.declared.end.WorkEnd.TheVariants.{Finished, Closed, ClockFault, Stopped, DiskFault}
use Rattle.boss_expiry.specs.Ends.{mark}

-- a point of the plant, and of this driver
abbrev pub IsOf : List Actuator → ℕ → ℕ → Type 0
IsOf plant driver point = (point < length plant) × (driver_of plant point ≡ driver)

-- what was found of a point: one of this driver, or nothing is said
abbrev pub IsFound : List Actuator → ℕ → ℕ → Bool → Type 0
IsFound plant driver point true = IsOf plant driver point
IsFound plant driver point false = Unit {0}

-- what a look came to: nothing is to be done; or a point was doubted, and this was the answer
pub data Looked : Type 0 where
  quiet : Looked
  doubted : ℕ → Bool → Answer → Looked

abbrev pub entries_of : ℕ → Looked → List Entry
entries_of moment quiet = []
entries_of moment (doubted point differs answer) = Did 0 (Doubt point differs) moment answer ∷ []

-- a doubt is of a point of the driver
abbrev pub FitsLook : List Actuator → ℕ → Looked → Type 0
FitsLook plant driver quiet = Unit {0}
FitsLook plant driver (doubted point differs answer) = IsOf plant driver point

pub record IsLook (plant : List Actuator) (driver moment : ℕ) (own own' : List Entry) : Type 0 where
  pub looked : Looked
  pub fits : FitsLook plant driver looked
  pub entries_are : own' ≡ own ++ entries_of moment looked

abbrev pub IsDisk : WorkEnd → Type 0
IsDisk Finished = ⊥
IsDisk Closed = ⊥
IsDisk ClockFault = ⊥
IsDisk Stopped = Unit {0}
IsDisk DiskFault = Unit {0}

-- the disk ended the work at a doubt
pub record IsCutLook (plant : List Actuator) (driver moment : ℕ) (own own' : List Entry) (end : WorkEnd) : Type 0 where
  pub point : ℕ
  pub differs : Bool
  pub fits : IsOf plant driver point
  pub disk : IsDisk end
  pub entries_are : own' ≡ own ++ mark (Doubt point differs) moment end
