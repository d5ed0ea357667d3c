-- Source: own.
-- What one call adds to a history, by its outcome.
use Rattle.std.specs.Prelude.{ℕ, Bool, true, false, List, [], ◌∷◌, ◌++◌, Option, Some, None}
use Rattle.boss_model.specs.declared.answer.Answer.{Answer}
use Rattle.boss_model.specs.declared.command.Command.{Command}
use Rattle.boss_model.specs.declared.command.Command.TheVariants as command
use Rattle.def_history.specs.declared.entry.Entry.{Entry}
use Rattle.def_history.specs.declared.entry.Entry.TheVariants.{Did, Broke}
use Rattle.def_history.specs.declared.entry.Tried.{Tried}
use Rattle.def_history.specs.declared.outcome.Outcome.{Outcome}
use Rattle.def_history.specs.declared.outcome.Outcome.TheVariants.{Done, Stopped, DiskFault, NoMemory, Denied}

-- a command that was done is an entry, a disk that failed leaves the mark, and nothing else adds anything
abbrev pub made_by : ℕ → Command → ℕ → Outcome → List Entry
made_by session command moment (Done answer) = Did session command moment answer ∷ []
made_by session command moment Stopped = []
made_by session command moment DiskFault = Broke session ((command, moment) ∷ []) [] ∷ []
made_by session command moment NoMemory = []
made_by session command moment (Denied index rule) = []

-- several commands: an entry for each that was answered
abbrev pub done_by : ℕ → List (Command × ℕ) → List Answer → List Entry
done_by session [] answers = []
done_by session (call ∷ calls) [] = []
done_by session (call ∷ calls) (answer ∷ answers) = Did session call.0 call.1 answer ∷ done_by session calls answers

-- where the disk failed, the calls of others may have been tried together with these
abbrev pub mark_by : List Tried → ℕ → List (Command × ℕ) → Option Outcome → List Entry
mark_by others session calls None = []
mark_by others session calls (Some (Done answer)) = []
mark_by others session calls (Some Stopped) = []
mark_by others session calls (Some DiskFault) = Broke session calls others ∷ []
mark_by others session calls (Some NoMemory) = []
mark_by others session calls (Some (Denied index rule)) = []

abbrev pub made_by_all : List Tried → ℕ → List (Command × ℕ) → List Answer → Option Outcome → List Entry
made_by_all others session calls answers rest = done_by session calls answers ++ mark_by others session calls rest

-- commands that may want memory
abbrev pub is_growing : Command → Bool
is_growing (command.Attach name) = true
is_growing (command.Submit writes policy seq) = true
is_growing (command.Notices name from most) = true
is_growing other = false

-- commands that rules may deny
abbrev pub is_submit : Command → Bool
is_submit (command.Submit writes policy seq) = true
is_submit other = false
