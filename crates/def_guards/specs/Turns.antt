-- Source: own.
-- The turns of a guarded worker, and what an end may leave of a last one.
use Rattle.std.specs.Prelude.{◌≡◌, ℕ, suc, Bool, false, ◌||◌, if◌then◌else◌, List, [], ◌∷◌, Option}
use Rattle.boss_model.specs.declared.answer.Answer.{Answer}
use Rattle.def_guards.specs.declared.guard.Guard.{Guard}
use Rattle.def_guards.specs.Guards.{is_free}
use Rattle.def_guards.specs.declared.guard.Due.{Due}
use Rattle.def_guards.specs.Acts.{Watch, Decision, Reason, Act, IsReason, Tried, decided, after_acts, after_reading, due_of, guard_at, is_write}

-- a point that was doubted, whether its device was found with another value, and the answer
pub record Doubt : Type 0 where
  pub point : ℕ
  pub differs : Bool
  pub answer : Answer

-- a reading of the clock, the want that was given at it, what became of all that was due, and a doubt, if there was one behind them
pub record Turn : Type 0 where
  pub reading : ℕ
  pub want : Option Due
  pub acts : List Act
  pub doubt : Option Doubt

-- so far as it went: these wants are left
abbrev pub IsTurn : Watch → Turn → List Due → Type 0
IsTurn watch turn left = Tried (after_reading turn.reading watch) (due_of turn.want watch.guards) turn.acts left

abbrev pub after_turn : Turn → Watch → Watch
after_turn turn watch = after_acts turn.acts (after_reading turn.reading watch)

abbrev pub after_turns : List Turn → Watch → Watch
after_turns [] watch = watch
after_turns (turn ∷ turns) watch = after_turns turns (after_turn turn watch)

abbrev pub AreTurns : Watch → List Turn → Type 0
AreTurns watch [] = Unit {0}
AreTurns watch (turn ∷ turns) = IsTurn watch turn [] × AreTurns (after_turn turn watch) turns

-- whether one of the wants was written
abbrev pub has_wrote : List Act → Bool
has_wrote [] = false
has_wrote (act ∷ acts) = is_write act || has_wrote acts

-- the turns without a write
abbrev pub idles : List Turn → ℕ
idles [] = 0
idles (turn ∷ turns) = if has_wrote turn.acts then idles turns else suc (idles turns)

-- ---- a last turn that was cut

-- a write after which the clock failed; or one whose report, at this reading, was not done
pub data WriteCut : Type 0 where
  at_clock : Bool → WriteCut
  at_report : Bool → ℕ → WriteCut

-- a want whose point could not be read, or whose write was cut
pub data TryCut : Type 0 where
  at_read : TryCut
  at_write : Reason → WriteCut → TryCut

abbrev pub FitsTry : Guard → Decision → TryCut → Type 0
FitsTry guard d at_read = is_free guard d.value d.now ≡ false
FitsTry guard d (at_write reason cut) = IsReason guard d reason

-- nothing; a reading at which no want was given; the turn up to a want that was not tried to its end; or the turn up to a doubt that
-- was not done
pub data Cut : Type 0 where
  nothing : Cut
  at_next : ℕ → Cut
  in_turn : Turn → Decision → TryCut → Cut
  at_doubt : Turn → ℕ → Bool → Cut

-- the want that was not tried to its end is the next one of the turn
pub record IsCutTurn (watch : Watch) (turn : Turn) (d : Decision) (cut : TryCut) : Type 0 where
  pub want : Due
  pub left : List Due
  pub tried : IsTurn watch turn (want ∷ left)
  pub decides : d ≡ decided want (after_turn turn watch).now
  pub fits : FitsTry (guard_at (after_turn turn watch).guards d.point) d cut

abbrev pub FitsCut : Watch → Cut → Type 0
FitsCut watch nothing = Unit {0}
FitsCut watch (at_next reading) = Unit {0}
FitsCut watch (in_turn turn d cut) = IsCutTurn watch turn d cut
FitsCut watch (at_doubt turn point differs) = IsTurn watch turn []
