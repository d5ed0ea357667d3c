-- Source: own.
-- What the worker of a driver added to the history, and the calls of its devices.
use Rattle.std.specs.Prelude.{◌≡◌, ℕ, ◌<◌, ◌≤◌, Bool, true, List, [], ◌++◌, length}
use Rattle.boss_model.specs.Catalogue.{actuators, Catalogue}
use Rattle.boss_model.specs.DeviceCall.{DeviceCall}
use Rattle.boss_model.specs.Limits.{last_number}
use Rattle.def_history.specs.declared.entry.Entry.{Entry}
use Rattle.def_history.specs.History.{deeds}
use Rattle.def_lanes.specs.Lanes.{of_driver}
use Rattle.def_lanes.specs.Parts.{Added}
use Rattle.def_lanes.specs.Works.{not_cut, Course}
use Rattle.boss_drive.specs.Driving.{Stand}
use Rattle.def_guards.specs.Guards.{is_guarded}
use Rattle.boss_worker.specs.declared.trouble.Trouble.{Trouble}
use Rattle.boss_worker.specs.Saying.{IsDriven}
use Rattle.boss_worker.specs.Troubles.{cut_by}

-- all in its lane; the worker paused so often
pub record Drove (catalogue : Catalogue) (driver : ℕ) (clocking recording : Type 0) (old new : Stand) (pausing : Type 0) (pauses : ℕ) (trouble : Trouble) : Type 0 where
  pub calls : List DeviceCall
  pub course : Course
  pub cut_is : course.cut ≡ cut_by trouble
  pub added : Added (actuators catalogue) (of_driver driver) (IsDriven (is_guarded catalogue driver) catalogue driver calls pausing pauses course) clocking course.moments old.own new.own old.given new.given
  pub wrote : recording → new.whole → old.whole × (new.calls ≡ old.calls ++ calls)

-- where nothing went wrong at a worker that took fewer than all its turns, each of which has an entry, it was told to end
abbrev pub WasTold : List Entry → List Entry → Type 0 → Bool → ℕ → Trouble → Type 0
WasTold own own' pausing closed most trouble = deeds own ≡ [] → last_number ≤ most → cut_by trouble ≡ not_cut → pausing → length (deeds own') < last_number → closed ≡ true
