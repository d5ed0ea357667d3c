-- Source: own.
-- What a guarded worker has done, as the lane of its driver has it.
use Rattle.std.specs.Prelude.{◌≡◌, ◌⊎◌, ℕ, ℤ, ◌==◌, if◌then◌else◌, List, [], ◌∷◌}
use Rattle.boss_model.specs.Catalogue.{Catalogue}
use Rattle.boss_model.specs.DeviceCall.{DeviceCall}
use Rattle.def_history.specs.declared.entry.Entry.{Entry}
use Rattle.def_history.specs.History.{deeds}
use Rattle.def_guards.specs.Guards.{guards_of}
use Rattle.def_guards.specs.Turns.{Turn, Cut, AreTurns, FitsCut, after_turns, idles}
use Rattle.def_lanes.specs.Waits.{paused}
use Rattle.def_lanes.specs.Works.{Course, by_memory}
use Rattle.boss_expiry.specs.Ends.{cut_of}
use Rattle.boss_expiry.specs.declared.end.WorkEnd.{WorkEnd}
use Rattle.boss_guard.specs.Guarding.{start}
use Rattle.boss_guard.specs.Making.{made_by}
use Rattle.boss_guard.specs.Trying.{Leaves}

-- the entries and the calls of the devices are those of guarded turns over the catalogue's points, of which the last may be cut;
-- there is one pause for each turn without a write, of a waiter that tells them
pub record IsGuardOf (catalogue : Catalogue) (driver : ℕ) (calls : List DeviceCall) (pausing : Type 0) (pauses : ℕ) (course : Course) (entries : List Entry) : Type 0 where
  pub turns : List Turn
  pub last : Cut
  pub end : WorkEnd
  pub are : AreTurns (start (guards_of catalogue)) turns
  pub fits : FitsCut (after_turns turns (start (guards_of catalogue))) last
  pub leaves : Leaves end last
  pub entries_are : entries ≡ deeds (made_by driver end (start (guards_of catalogue)) turns last).entries
  pub calls_are : calls ≡ (made_by driver end (start (guards_of catalogue)) turns last).calls
  pub moments_are : course.moments ≡ (made_by driver end (start (guards_of catalogue)) turns last).moments
  pub cut_is : (course.cut ≡ cut_of end) ⊎ ((course.cut ≡ by_memory) × (turns ≡ []))
  pub waited : pausing → pauses ≡ paused (idles turns) 0

-- the values that the device of a point was to take, in order
abbrev pub values_at : ℕ → List DeviceCall → List ℤ
values_at point [] = []
values_at point (call ∷ calls) = if call.point == point then call.value ∷ values_at point calls else values_at point calls
