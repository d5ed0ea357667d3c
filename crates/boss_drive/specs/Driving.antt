-- Source: own.
-- The turns of the worker that drives the devices of a driver.
use Rattle.std.specs.Prelude.{◌≡◌, ℕ, ℤ, suc, Bool, true, false, List, [], ◌∷◌, ◌++◌, length, Option, is_none}
use Rattle.std.specs.List.{AllByRecursion}
use Rattle.boss_model.specs.declared.answer.Answer.{Answer}
use Rattle.boss_model.specs.declared.answer.Answer.TheVariants.{Want, Nothing}
use Rattle.boss_model.specs.declared.command.Command.TheVariants.{Doubt, Next, Report}
use Rattle.boss_model.specs.declared.state.Actuator.{Actuator}
use Rattle.boss_model.specs.DeviceCall.{DeviceCall}
use Rattle.def_history.specs.declared.entry.Entry.{Entry}
use Rattle.def_history.specs.declared.entry.Entry.TheVariants.{Did}
use Rattle.def_history.specs.History.{is_broken}
use Rattle.boss_expiry.specs.declared.end.WorkEnd.{WorkEnd}
use Rattle.boss_expiry.specs.declared.end.WorkEnd.TheVariants.{Finished, Closed, ClockFault, Stopped, DiskFault}
use Rattle.def_lanes.specs.Waits.{paused}
use Rattle.boss_expiry.specs.Ends.{mark, TookTurns}
use Rattle.boss_drive.specs.Looks.{IsDisk, IsOf}

-- a want that was handed out at a moment, and whether its device took it
pub record Write : Type 0 where
  pub moment : ℕ
  pub point : ℕ
  pub version : ℕ
  pub value : ℤ
  pub ok : Bool

-- A turn at a moment at which there was no want; such a one whose look had a point doubted, with the answer to it; or one with
-- its write, and the moment and the answer of its report
pub data Turn : Type 0 where
  idle : ℕ → Turn
  doubted : ℕ → ℕ → Bool → Answer → Turn
  served : Write → ℕ → Answer → Turn

-- what the end left of a last turn: nothing; a moment at which the disk failed; one without a want, and a doubt at which the disk
-- failed; a write, where the clock failed after it; or a write and the moment of its report, at which the disk failed
pub data Cut : Type 0 where
  nothing : Cut
  at_next : ℕ → Cut
  at_doubt : ℕ → ℕ → Bool → Cut
  at_reading : Write → Cut
  at_report : Write → ℕ → Cut

-- ---- what was made: entries, moments that the clock gave, and calls of devices

pub record Made : Type 0 where
  pub entries : List Entry
  pub moments : List ℕ
  pub calls : List DeviceCall

abbrev pub asked : ℕ → Write → Entry
asked driver w = Did 0 (Next driver) w.moment (Want w.point w.version w.value)

abbrev pub call_of : Write → DeviceCall
call_of w = record { point = w.point; value = w.value; ok = w.ok }

abbrev pub made_in : ℕ → Turn → Made
made_in driver (idle moment) = record { entries = Did 0 (Next driver) moment Nothing ∷ []; moments = moment ∷ []; calls = [] }
made_in driver (doubted moment point differs answer) = record {
  entries = Did 0 (Next driver) moment Nothing ∷ Did 0 (Doubt point differs) moment answer ∷ [];
  moments = moment ∷ [];
  calls = [];
}
made_in driver (served w told answer) = record {
  entries = asked driver w ∷ Did 0 (Report w.point w.version w.ok) told answer ∷ [];
  moments = w.moment ∷ told ∷ [];
  calls = call_of w ∷ [];
}

abbrev pub left_by : ℕ → WorkEnd → Cut → Made
left_by driver end nothing = record { entries = []; moments = []; calls = [] }
left_by driver end (at_next moment) = record { entries = mark (Next driver) moment end; moments = moment ∷ []; calls = [] }
left_by driver end (at_doubt moment point differs) = record {
  entries = Did 0 (Next driver) moment Nothing ∷ mark (Doubt point differs) moment end;
  moments = moment ∷ [];
  calls = [];
}
left_by driver end (at_reading w) = record { entries = asked driver w ∷ []; moments = w.moment ∷ []; calls = call_of w ∷ [] }
left_by driver end (at_report w told) = record {
  entries = asked driver w ∷ mark (Report w.point w.version w.ok) told end;
  moments = w.moment ∷ told ∷ [];
  calls = call_of w ∷ [];
}

abbrev pub both : Made → Made → Made
both first then = record { entries = first.entries ++ then.entries; moments = first.moments ++ then.moments; calls = first.calls ++ then.calls }

-- the turns in order, and what is left of a last one
abbrev pub made_by : ℕ → List Turn → Made → Made
made_by driver [] last = last
made_by driver (turn ∷ turns) last = both (made_in driver turn) (made_by driver turns last)

-- ---- how it stands: the worker's own entries, and what its clock and its devices tell

pub record Stand : Type 1 where
  pub own : List Entry
  pub given : List ℕ
  pub whole : Type 0
  pub calls : List DeviceCall

-- this was made and nothing else, as far as the clock and the devices tell it
pub record Gained (clocking recording : Type 0) (old new : Stand) (made : Made) : Type 0 where
  pub entries : new.own ≡ old.own ++ made.entries
  pub gave : clocking → new.given ≡ old.given ++ made.moments
  pub wrote : recording → new.whole → old.whole × (new.calls ≡ old.calls ++ made.calls)

-- ---- one turn

abbrev pub is_served : Turn → Bool
is_served (idle moment) = false
is_served (doubted moment point differs answer) = false
is_served (served w told answer) = true

-- a doubt is of a point of the driver
abbrev pub FitsTurn : List Actuator → ℕ → Turn → Type 0
FitsTurn plant driver (idle moment) = Unit {0}
FitsTurn plant driver (doubted moment point differs answer) = IsOf plant driver point
FitsTurn plant driver (served w told answer) = Unit {0}

abbrev pub FitsCut : List Actuator → ℕ → Cut → Type 0
FitsCut plant driver nothing = Unit {0}
FitsCut plant driver (at_next moment) = Unit {0}
FitsCut plant driver (at_doubt moment point differs) = IsOf plant driver point
FitsCut plant driver (at_reading w) = Unit {0}
FitsCut plant driver (at_report w told) = Unit {0}

-- it has no pause exactly where a device was written
pub record IsTurn (plant : List Actuator) (driver : ℕ) (clocking recording : Type 0) (old new : Stand) (rest : Option ℕ) : Type 0 where
  pub turn : Turn
  pub own : FitsTurn plant driver turn
  pub wrote_is : is_none rest ≡ is_served turn
  pub gained : Gained clocking recording old new (made_in driver turn)

abbrev pub IsNoDisk : WorkEnd → Type 0
IsNoDisk Finished = Unit {0}
IsNoDisk Closed = Unit {0}
IsNoDisk ClockFault = Unit {0}
IsNoDisk Stopped = ⊥
IsNoDisk DiskFault = ⊥

-- what each end may leave of a last turn
abbrev pub Leaves : WorkEnd → Cut → Type 0
Leaves end nothing = IsNoDisk end
Leaves end (at_next moment) = IsDisk end
Leaves end (at_doubt moment point differs) = IsDisk end
Leaves end (at_reading w) = end ≡ ClockFault
Leaves end (at_report w told) = IsDisk end

pub record IsCutTurn (plant : List Actuator) (driver : ℕ) (clocking recording : Type 0) (old new : Stand) (end : WorkEnd) : Type 0 where
  pub cut : Cut
  pub fits : Leaves end cut
  pub own : FitsCut plant driver cut
  pub gained : Gained clocking recording old new (left_by driver end cut)

-- the clock failed, or the mark of a failed disk is what the pass has seen last
abbrev pub DiskCause : List Entry → WorkEnd → Type 0
DiskCause seen Finished = ⊥
DiskCause seen Closed = ⊥
DiskCause seen ClockFault = Unit {0}
DiskCause seen Stopped = is_broken seen ≡ true
DiskCause seen DiskFault = is_broken seen ≡ true

-- ---- the work up to its end

-- the turns without a want: each made one pause
abbrev pub idles : List Turn → ℕ
idles [] = 0
idles (idle moment ∷ turns) = suc (idles turns)
idles (doubted moment point differs answer ∷ turns) = suc (idles turns)
idles (served w told answer ∷ turns) = idles turns

-- turns, and maybe a last one that was cut
pub record Driven (plant : List Actuator) (driver : ℕ) (clocking recording : Type 0) (old new : Stand) (pausing : Type 0) (pauses pauses' most : ℕ) (end : WorkEnd) : Type 0 where
  pub turns : List Turn
  pub last : Cut
  pub fits : Leaves end last
  pub own : AllByRecursion (FitsTurn plant driver) turns × FitsCut plant driver last
  pub made : Gained clocking recording old new (made_by driver turns (left_by driver end last))
  pub waited : pausing → pauses' ≡ paused (idles turns) pauses
  pub taken : TookTurns (length turns) most end
