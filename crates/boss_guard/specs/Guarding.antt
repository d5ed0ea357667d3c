-- Source: own.
-- The work of a guarded worker up to its end.
use Rattle.std.specs.Prelude.{◌≡◌, ℕ, Bool, List, length}
use Rattle.std.specs.List.{AllByRecursion}
use Rattle.boss_model.specs.declared.state.Actuator.{Actuator}
use Rattle.def_history.specs.declared.entry.Entry.{Entry}
use Rattle.def_guards.specs.declared.guard.Guard.{Guard}
use Rattle.def_guards.specs.Acts.{Watch}
use Rattle.def_guards.specs.Turns.{Turn, Cut, AreTurns, FitsCut, after_turns, idles}
use Rattle.def_lanes.specs.Waits.{paused}
use Rattle.boss_expiry.specs.declared.end.WorkEnd.{WorkEnd}
use Rattle.def_lanes.specs.Works.{Cut as Cutting, by_memory}
use Rattle.boss_expiry.specs.Ends.{cut_of, ClockCause, EndCause, TookTurns}
use Rattle.boss_drive.specs.Driving.{Stand, Gained}
use Rattle.boss_guard.specs.declared.end.GuardEnd.{GuardEnd}
use Rattle.boss_guard.specs.declared.end.GuardEnd.TheVariants.{Worked, NoMemory}
use Rattle.boss_guard.specs.Making.{made_by, no_more}
use Rattle.boss_guard.specs.Trying.{IsOwnCut, IsOwnTurn, Leaves}

-- before the first reading
abbrev pub start : List Guard → Watch
start guards = record { now = 0; guards = guards }

-- turns, and maybe a last one that was cut; there is one pause for each turn without a write
pub record Turned (plant : List Actuator) (driver : ℕ) (guards : List Guard) (clocking recording : Type 0) (old new : Stand) (pausing : Type 0) (pauses pauses' most : ℕ) (end : WorkEnd) : Type 0 where
  pub turns : List Turn
  pub last : Cut
  pub are : AreTurns (start guards) turns
  pub fits : FitsCut (after_turns turns (start guards)) last
  pub leaves : Leaves end last
  pub own : AllByRecursion (IsOwnTurn plant driver) turns × IsOwnCut plant driver last
  pub made : Gained clocking recording old new (made_by driver end (start guards) turns last)
  pub waited : pausing → pauses' ≡ paused (idles turns) pauses
  pub taken : TookTurns (length turns) most end

-- nothing was made without memory
abbrev pub Guarded : List Actuator → ℕ → List Guard → Type 0 → Type 0 → Stand → Stand → Type 0 → ℕ → ℕ → ℕ → GuardEnd → Type 0
Guarded plant driver guards clocking recording old new pausing pauses pauses' most (Worked end) =
    Turned plant driver guards clocking recording old new pausing pauses pauses' most end
Guarded plant driver guards clocking recording old new pausing pauses pauses' most NoMemory =
    Gained clocking recording old new no_more × (pausing → pauses' ≡ pauses)

-- the clock failed exactly where its count rose
abbrev pub GuardClock : ℕ → ℕ → GuardEnd → Type 0
GuardClock before now (Worked end) = ClockCause before now end
GuardClock before now NoMemory = now ≡ before

-- what cut the work off
abbrev pub cut_of_guard : GuardEnd → Cutting
cut_of_guard (Worked end) = cut_of end
cut_of_guard NoMemory = by_memory

-- a pause said Close, or the mark of a failed disk is what the pass has seen last
abbrev pub GuardCause : List Entry → Type 0 → Bool → ℕ → ℕ → GuardEnd → Type 0
GuardCause seen pausing closed before now (Worked end) = EndCause seen pausing closed before now end
GuardCause seen pausing closed before now NoMemory = now ≡ before
