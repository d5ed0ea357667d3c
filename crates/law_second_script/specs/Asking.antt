-- Source: own; the questions: ASHRAE 135, clause 19.2 (Present_Value, Priority_Array), BOSS (states of a
-- transaction).
-- Scripts that only ask: their rows are questions, and between them devices are written and take what they are given.
use Rattle.std.specs.Prelude.{◌≡◌, ℕ, max, Bool, true, false, ◌||◌, if◌then◌else◌, List, [], ◌∷◌}
use Rattle.std.specs.List.{AllByRecursion}
use Rattle.boss_model.specs.declared.answer.Answer.{Answer}
use Rattle.boss_model.specs.declared.command.Command.{Command}
use Rattle.boss_model.specs.declared.command.Command.TheVariants as command
use Rattle.law_machine.specs.Commands.{is_question, unmarked}
use Rattle.def_history.specs.declared.entry.Entry.{Entry}
use Rattle.def_history.specs.declared.entry.Entry.TheVariants.{Did, Broke}

-- ---- rows

-- a question of what outlasts a stop: what time it is, a point's value or its priority array, a transaction's status, a process's
-- notices
abbrev pub asks : Command → Bool
asks (command.Read point) = true
asks c = is_question c

-- a device's worker takes its next write, reports that the device took one, or wants it written again
abbrev pub serves : Command → Bool
serves (command.Next driver) = true
serves (command.Report point version ok) = ok
serves (command.Doubt point differs) = true
serves c = false

-- a row that asks, or that serves a device
abbrev pub only_asks : Entry → Bool
only_asks (Did session c moment answer) = asks c || serves c
only_asks (Broke session commands others) = false

abbrev pub OnlyAsks : List Entry → Type 0
OnlyAsks entries = AllByRecursion (λ entry. only_asks entry ≡ true) entries

-- ---- what is asked, and what is answered

-- how far the clock has come behind these rows: moments never go back, and rows that serve devices count too
abbrev pub latest : ℕ → List Entry → ℕ
latest moment [] = moment
latest moment (Did session c next answer ∷ entries) = latest (max moment next) entries
latest moment (Broke session commands others ∷ entries) = latest moment entries

-- the questions, one after another, and how far the clock has come as each is asked
abbrev pub asked : ℕ → List Entry → List (Command × ℕ)
asked moment [] = []
asked moment (Did session c next answer ∷ entries) =
    if asks c then (c, max moment next) ∷ asked (max moment next) entries else asked (max moment next) entries
asked moment (Broke session commands others ∷ entries) = asked moment entries

-- their answers, each reading without its mark, which tells whether the device has the value
abbrev pub answered : List Entry → List Answer
answered [] = []
answered (Did session c next answer ∷ entries) = if asks c then unmarked answer ∷ answered entries else answered entries
answered (Broke session commands others ∷ entries) = answered entries
