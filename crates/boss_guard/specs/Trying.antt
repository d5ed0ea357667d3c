-- Source: own.
-- What the parts of a turn do: one want, the wants of some points, and the whole turn.
use Rattle.std.specs.Prelude.{◌≡◌, ℕ, ◌+◌, max, Bool, true, false, List, [], ◌∷◌, ◌++◌, Option, Some, None, is_none, drop}
use Rattle.boss_model.specs.declared.answer.Answer.{Answer}
use Rattle.boss_model.specs.declared.command.Command.TheVariants.{Read}
use Rattle.boss_model.specs.declared.state.Actuator.{Actuator}
use Rattle.def_history.specs.declared.entry.Entry.{Entry}
use Rattle.def_history.specs.declared.entry.Entry.TheVariants.{Did}
use Rattle.def_guards.specs.declared.guard.Guard.{Guard}
use Rattle.def_guards.specs.Guards.{is_free, shown_by}
use Rattle.def_guards.specs.declared.guard.Due.{Due}
use Rattle.def_guards.specs.Acts.{Watch, Decision, Reason, Act, IsReason, IsAct, Tried, after_act, after_acts, decided, due_from, guard_at, is_write}
use Rattle.def_guards.specs.Turns.{Turn, Doubt, IsTurn, after_turn, has_wrote, WriteCut, at_clock, at_report, TryCut, at_read, at_write, FitsTry, Cut, nothing, at_next, in_turn, at_doubt, FitsCut}
use Rattle.boss_expiry.specs.declared.end.WorkEnd.{WorkEnd}
use Rattle.boss_expiry.specs.declared.end.WorkEnd.TheVariants.{ClockFault}
use Rattle.boss_expiry.specs.Ends.{IsCut}
use Rattle.boss_drive.specs.Driving.{Stand, Gained, IsNoDisk, both}
use Rattle.boss_drive.specs.Looks.{IsDisk, IsOf}
use Rattle.boss_guard.specs.Making.{reads, made_by_write, made_by_act, made_by_acts, made_in, left_by, left_by_try, left_by_write}

-- a want, or none
abbrev pub due_list : Option Due → List Due
due_list None = []
due_list (Some want) = want ∷ []

-- ---- which end cuts what

abbrev pub LeavesWrite : WorkEnd → WriteCut → Type 0
LeavesWrite end (at_clock ok) = end ≡ ClockFault
LeavesWrite end (at_report ok told) = IsDisk end

abbrev pub LeavesTry : WorkEnd → TryCut → Type 0
LeavesTry end at_read = IsDisk end
LeavesTry end (at_write reason cut) = LeavesWrite end cut

abbrev pub Leaves : WorkEnd → Cut → Type 0
Leaves end nothing = IsNoDisk end
Leaves end (at_next reading) = IsDisk end
Leaves end (in_turn turn d cut) = LeavesTry end cut
Leaves end (at_doubt turn point differs) = IsDisk end

-- ---- doubts

-- a doubt is of a point of the driver, in a turn that was given no want and wrote none
abbrev pub DoubtsOwn : List Actuator → ℕ → Turn → ℕ → Type 0
DoubtsOwn plant driver turn point = IsOf plant driver point × (turn.want ≡ None) × (has_wrote turn.acts ≡ false)

abbrev pub FitsDoubt : List Actuator → ℕ → Turn → Option Doubt → Type 0
FitsDoubt plant driver turn None = Unit {0}
FitsDoubt plant driver turn (Some doubt) = DoubtsOwn plant driver turn doubt.point

abbrev pub IsOwnTurn : List Actuator → ℕ → Turn → Type 0
IsOwnTurn plant driver turn = FitsDoubt plant driver turn turn.doubt

abbrev pub IsOwnCut : List Actuator → ℕ → Cut → Type 0
IsOwnCut plant driver nothing = Unit {0}
IsOwnCut plant driver (at_next reading) = Unit {0}
IsOwnCut plant driver (in_turn turn d cut) = Unit {0}
IsOwnCut plant driver (at_doubt turn point differs) = DoubtsOwn plant driver turn point

-- ---- one want

-- it may be written, for a reason; or its point was read and did not show it
abbrev pub Judged : Guard → Decision → List Entry → List Entry → Bool → Type 0
Judged guard d own own' true = (reason : Reason) × IsReason guard d reason × (own' ≡ own ++ reads d reason)
Judged guard d own own' false = (answer : Answer) × (is_free guard d.value d.now ≡ false) × (shown_by answer d.value ≡ false)
    × (own' ≡ own ++ Did 0 (Read d.point) d.now answer ∷ [])

-- its point was to be read, and the disk ended the work
abbrev pub JudgedCut : Guard → Decision → List Entry → List Entry → List Entry → WorkEnd → Type 0
JudgedCut guard d own own' seen end = (is_free guard d.value d.now ≡ false) × IsCut (Read d.point) d.now own own' seen end

module _ (clocking recording : Type 0) (old new : Stand) where
  pub record Wrote (d : Decision) (later : ℕ) : Type 0 where
    pub ok : Bool
    pub told : ℕ
    pub answer : Answer
    pub later_is : later ≡ max d.now told
    pub gained : Gained clocking recording old new (made_by_write d ok told answer)

  pub record WroteCut (d : Decision) (end : WorkEnd) : Type 0 where
    pub cut : WriteCut
    pub leaves : LeavesWrite end cut
    pub gained : Gained clocking recording old new (left_by_write end d cut)

  pub record TriedOne (before : Watch) (want : Due) (after : Watch) (written : Bool) : Type 0 where
    pub act : Act
    pub is : IsAct before want act
    pub after_is : after ≡ after_act act before
    pub written_is : written ≡ is_write act
    pub gained : Gained clocking recording old new (made_by_act act)

  pub record TriedCut (before : Watch) (want : Due) (end : WorkEnd) : Type 0 where
    pub cut : TryCut
    pub fits : FitsTry (guard_at before.guards want.point) (decided want before.now) cut
    pub leaves : LeavesTry end cut
    pub gained : Gained clocking recording old new (left_by_try end (decided want before.now) cut)

  -- ---- wants in order

  -- the first of these wants were tried, and these are left
  pub record Swept (before : Watch) (due : List Due) (after : Watch) (left : List Due) (written : Bool) : Type 0 where
    pub acts : List Act
    pub tried : Tried before due acts left
    pub after_is : after ≡ after_acts acts before
    pub written_is : written ≡ has_wrote acts
    pub gained : Gained clocking recording old new (made_by_acts acts)

  pub record SweptCut (before : Watch) (due : List Due) (end : WorkEnd) : Type 0 where
    pub acts : List Act
    pub want : Due
    pub left : List Due
    pub tried : Tried before due acts (want ∷ left)
    pub cut : TryCut
    pub fits : FitsTry (guard_at (after_acts acts before).guards want.point) (decided want (after_acts acts before).now) cut
    pub leaves : LeavesTry end cut
    pub gained : Gained clocking recording old new (both (made_by_acts acts) (left_by_try end (decided want (after_acts acts before).now) cut))

  -- the want that the point at a place holds, if there is one and it is not passed over
  abbrev pub Placed : Watch → Option ℕ → ℕ → Watch → Bool → Type 0
  Placed before skipped place after written =
      Swept before (due_from place skipped (drop place before.guards)) after (due_from (place + 1) skipped (drop (place + 1) after.guards)) written

  pub record PlacedCut (before : Watch) (skipped : Option ℕ) (place : ℕ) (end : WorkEnd) : Type 0 where
    pub want : Due
    pub left : List Due
    pub due : due_from place skipped (drop place before.guards) ≡ want ∷ left
    pub trial : TriedCut before want end

  -- ---- a turn

  -- it has no pause exactly where a want was written
  pub record TookTurn (plant : List Actuator) (driver : ℕ) (before after : Watch) (rest : Option ℕ) : Type 0 where
    pub turn : Turn
    pub is : IsTurn before turn []
    pub own : IsOwnTurn plant driver turn
    pub after_is : after ≡ after_turn turn before
    pub written_is : is_none rest ≡ has_wrote turn.acts
    pub gained : Gained clocking recording old new (made_in driver before turn)

  pub record CutTurn (plant : List Actuator) (driver : ℕ) (before : Watch) (end : WorkEnd) : Type 0 where
    pub cut : Cut
    pub fits : FitsCut before cut
    pub own : IsOwnCut plant driver cut
    pub leaves : Leaves end cut
    pub gained : Gained clocking recording old new (left_by driver end before cut)
