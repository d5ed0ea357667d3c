-- Source: own.
-- The turns of the worker that lets time pass.
use Rattle.std.specs.Prelude.{◌≡◌, ℕ, List, [], ◌∷◌, ◌++◌, length}
use Rattle.boss_model.specs.declared.answer.Answer.{Answer}
use Rattle.boss_model.specs.declared.command.Command.TheVariants.{Tick}
use Rattle.def_history.specs.declared.entry.Entry.{Entry}
use Rattle.def_history.specs.declared.entry.Entry.TheVariants.{Did}
use Rattle.boss_expiry.specs.declared.end.WorkEnd.{WorkEnd}
use Rattle.def_lanes.specs.Waits.{paused}
use Rattle.boss_expiry.specs.Ends.{mark, unused, TookTurns}

-- a tick of session 0 for each turn: a moment and what was answered at it
abbrev pub ticks : List (ℕ × Answer) → List Entry
ticks [] = []
ticks (turn ∷ turns) = Did 0 Tick turn.0 turn.1 ∷ ticks turns

abbrev pub moments : List (ℕ × Answer) → List ℕ
moments [] = []
moments (turn ∷ turns) = turn.0 ∷ moments turns

-- Whole turns: each made one tick, at the moment that the clock gave for it, and one pause
pub record Ticked (own own' : List Entry) (clocking : Type 0) (given given' : List ℕ) (pausing : Type 0) (pauses pauses' : ℕ)
    (turns : List (ℕ × Answer)) : Type 0 where
  pub entries : own' ≡ own ++ ticks turns
  pub gave : clocking → given' ≡ given ++ moments turns
  pub waited : pausing → pauses' ≡ paused (length turns) pauses

-- The work up to its end: whole turns, and maybe one that was cut after its reading
pub record Expired (own own' : List Entry) (clocking : Type 0) (given given' : List ℕ) (pausing : Type 0) (pauses pauses' : ℕ)
    (most : ℕ) (end : WorkEnd) : Type 0 where
  pub turns : List (ℕ × Answer)
  pub last : ℕ
  pub entries : own' ≡ own ++ (ticks turns ++ mark Tick last end)
  pub gave : clocking → given' ≡ given ++ (moments turns ++ unused last end)
  pub waited : pausing → pauses' ≡ paused (length turns) pauses
  pub taken : TookTurns (length turns) most end
