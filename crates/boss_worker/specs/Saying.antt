-- Source: own.
-- What the works of a server say of the entries of their lanes.
use Rattle.std.specs.Prelude.{◌⊎◌, ℕ, Bool, true, false, List, Option}
use Rattle.boss_model.specs.Catalogue.{actuators, Catalogue}
use Rattle.boss_model.specs.DeviceCall.{DeviceCall}
use Rattle.def_history.specs.declared.entry.Entry.{Entry}
use Rattle.boss_outside_server.specs.Hosts.{Served}
use Rattle.def_lanes.specs.Parts.{AreTimed, Terms}
use Rattle.def_lanes.specs.Works.{Course, Work, visit, beat, drive}
use Rattle.def_connection.specs.Talks.{IsTalkOf}
use Rattle.def_connection.specs.Watching.{IsWatchOf}
use Rattle.boss_shared.specs.Gates.{Gate}
use Rattle.boss_keys.specs.declared.entry.Entry.{Entry as KeyEntry}
use Rattle.boss_sessions.specs.Speaking.{speech_of}
use Rattle.boss_watching.specs.Notes.{notes}
use Rattle.boss_expiry.specs.Beats.{IsBeatOf}
use Rattle.boss_drive.specs.Drives.{IsDriveOf}
use Rattle.def_guards.specs.Guards.{is_guarded}
use Rattle.boss_guard.specs.GuardDrives.{IsGuardOf}

-- a connection agrees with these entries: they are a talk, or what was watched
abbrev pub IsVisit : Catalogue → List Gate → Option (List KeyEntry) → Type 0 → Served → Course → List Entry → Type 0
IsVisit catalogue gates keys tells served course entries =
    IsTalkOf (speech_of catalogue gates keys) tells served course entries ⊎ IsWatchOf (speech_of catalogue gates keys) (notes catalogue) tells served course entries

-- the worker of a driver kept minimum times, or the driver has no point with any
abbrev pub IsDriven : Bool → Catalogue → ℕ → List DeviceCall → Type 0 → ℕ → Course → List Entry → Type 0
IsDriven true catalogue driver calls pausing pauses course entries = IsGuardOf catalogue driver calls pausing pauses course entries
IsDriven false catalogue driver calls pausing pauses course entries = IsDriveOf driver calls pausing pauses course entries

-- a connection was called at moments that the clock gave for it, and agrees where its input tells the bytes that it lost; the pauses of a worker are those of its turns
abbrev pub says : Catalogue → List Gate → Option (List KeyEntry) → Type 0 → Type 0 → Type 0 → Work → List Entry → Type 0
says catalogue gates keys heeds tells pausing (visit served course) entries = AreTimed course.moments entries × (heeds → IsVisit catalogue gates keys tells served course entries)
says catalogue gates keys heeds tells pausing (beat waited course) entries = IsBeatOf pausing waited.pauses course entries
says catalogue gates keys heeds tells pausing (drive driver calls waited course) entries =
    IsDriven (is_guarded catalogue driver) catalogue driver calls pausing waited.pauses course entries

-- a server with these gates and keys and so many workers for connections; whether the inputs of its connections tell their bytes, and the outputs theirs;
-- whether its host tells what it took back, its clock the moments that it gave, and its waiter the pauses
abbrev pub terms_of : Catalogue → List Gate → Option (List KeyEntry) → ℕ → Type 0 → Type 0 → Type 0 → Type 0 → Type 0 → Terms
terms_of catalogue gates keys workers heeds tells hosting clocking pausing = record {
  plant = actuators catalogue;
  workers = workers;
  says = says catalogue gates keys heeds tells pausing;
  hosting = hosting;
  clocking = clocking;
}
