-- Source: own.
-- A part of a script that a keeper carries out.
use Rattle.std.specs.Prelude.{◌≡◌, ℕ, false, List, length, Option}
use Rattle.boss_model.specs.declared.state.Actuator.{Actuator}
use Rattle.boss_model.specs.Catalogue.{Catalogue, actuators}
use Rattle.boss_outside.specs.declared.source.ReadAt.{ReadAt}
use Rattle.def_wire.specs.Script.{Run}
use Rattle.def_history.specs.declared.entry.Entry.{Entry}
use Rattle.boss_shared.specs.declared.keeper.Keeper as keeper
use Rattle.boss_shared.specs.Keeping.{Keeps}
use Rattle.boss_scripts.specs.InTime.{AreInTimeFrom}
use Rattle.boss_scripts.specs.Outside.{Trace}
use Rattle.boss_scripts.specs.Runs.{Broke, Did, Under}

module _ {V : Type 0} (v : keeper.Ghosts V) where
  -- the keeper made these entries
  abbrev pub Kept : V → V → List Entry → Type 0
  Kept before now made = Keeps v.plant v.state v.stopped v.faults v.leaves v.passes v.keeps before now made

  -- The keeper is as far as this. Once its disk has failed it doesn't tell the state that its entries leave.
  pub record IsAt (keeper : V) (under : Under) : Type 0 where
    pub stopped : v.stopped keeper ≡ under.stopped
    pub state : under.stopped ≡ false → v.state keeper ≡ under.state

  -- with these entries the part was carried out as far as `rest`
  abbrev pub Through : List Actuator → (Run → Run) → (Run → Run) → V → List Entry → Trace → Trace → Type 0
  Through plant part rest before entries old new = (start : Under) → IsAt before start → Did plant part rest start entries old new

  -- with these entries the part broke off
  abbrev pub Breaks : List Actuator → (Run → Run) → V → List Entry → Trace → Trace → Type 0
  Breaks plant part before entries old new = (start : Under) → IsAt before start → Broke plant part start entries old new

  -- so lines were taken, and the source was read in time meanwhile
  module _ (catalogue : Catalogue) (bytes : List ℕ) (reads reads' : Option (List ReadAt)) where
    abbrev pub ThroughInTime : (Run → Run) → (Run → Run) → V → List Entry → Trace → Trace → Type 0
    ThroughInTime part rest before entries old new = (start : Under) → IsAt before start →
        (did : Did (actuators catalogue) part rest start entries old new) × AreInTimeFrom catalogue start entries did.results bytes (length old.taken) reads reads'

    abbrev pub BreaksInTime : (Run → Run) → V → List Entry → Trace → Trace → Type 0
    BreaksInTime part before entries old new = (start : Under) → IsAt before start →
        (broke : Broke (actuators catalogue) part start entries old new) × AreInTimeFrom catalogue start entries broke.results bytes (length old.taken) reads reads'

  -- the keeper made entries, and with them the part was carried out as far as `rest`, if the sink tells what it takes
  pub record Went (plant : List Actuator) (part rest : Run → Run) (before now : V) (tells : Type 0) (old new : Trace) : Type 0 where
    pub entries : List Entry
    pub kept : Kept before now entries
    pub did : tells → Through plant part rest before entries old new

  -- the keeper made entries, and with them the part broke off
  pub record BrokeOff (plant : List Actuator) (part : Run → Run) (before now : V) (tells : Type 0) (old new : Trace) : Type 0 where
    pub entries : List Entry
    pub kept : Kept before now entries
    pub broke : tells → Breaks plant part before entries old new
