-- Source: own.
-- What the worker that drives the devices of a driver has done, as its lane has it.
use Rattle.std.specs.Prelude.{◌≡◌, ℕ, List}
use Rattle.boss_model.specs.DeviceCall.{DeviceCall}
use Rattle.def_history.specs.declared.entry.Entry.{Entry}
use Rattle.def_history.specs.History.{deeds}
use Rattle.def_lanes.specs.Waits.{paused}
use Rattle.def_lanes.specs.Works.{Course}
use Rattle.boss_expiry.specs.declared.end.WorkEnd.{WorkEnd}
use Rattle.boss_expiry.specs.Ends.{cut_of}
use Rattle.boss_drive.specs.Driving.{Turn, Cut, Leaves, made_by, left_by, idles}

-- the entries, the moments that the clock gave and the calls of the devices are those of turns, of which the last may be cut; there is one pause for each turn
-- without a want, of a waiter that tells them
pub record IsDriveOf (driver : ℕ) (calls : List DeviceCall) (pausing : Type 0) (pauses : ℕ) (course : Course) (entries : List Entry) : Type 0 where
  pub turns : List Turn
  pub last : Cut
  pub end : WorkEnd
  pub fits : Leaves end last
  pub entries_are : entries ≡ deeds (made_by driver turns (left_by driver end last)).entries
  pub calls_are : calls ≡ (made_by driver turns (left_by driver end last)).calls
  pub moments_are : course.moments ≡ (made_by driver turns (left_by driver end last)).moments
  pub cut_is : course.cut ≡ cut_of end
  pub waited : pausing → pauses ≡ paused (idles turns) 0
