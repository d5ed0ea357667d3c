-- Source: own.
-- Calls of several callers that are kept together: what each asks for, what they add to a history, and what each caller is told.
use Rattle.std.specs.Prelude.{◌≡◌, ℕ, ◌+◌, ◌*◌, ◌≤◌, Bool, List, [], ◌∷◌, ◌++◌, length, map, take, Some, None, vec_capacity}
use Rattle.std.specs.List.{AllByRecursion}
use mathlib.Core.List.{IsPrefix}
use Rattle.boss_model.specs.declared.state.Actuator.{Actuator}
use Rattle.boss_model.specs.Sound.{IsSound}
use Rattle.boss_model.specs.State.{State}
use Rattle.boss_lock.specs.Places.{ArePlacesOf}
use Rattle.boss_lock.specs.Seats.{Standing, after_turn, own_entries, with_turn}
use Rattle.def_history.specs.declared.entry.Entry.{Entry}
use Rattle.def_history.specs.declared.entry.Tried.{Tried}
use Rattle.def_history.specs.History.{is_broken, IsLegal, MayCall}
use Rattle.def_history.specs.Made.{made_by_all}
use Rattle.boss_shared.specs.declared.asked.Asked.{Asked}
use Rattle.boss_shared.specs.Calls.{has_failed_rest, is_stopped_rest, NoneDone, RestFits}
use Rattle.boss_shared.specs.Gates.{denial_of_rest}

-- ---- what is asked

-- 1 to 16 commands, each allowed, and room for their answers
pub record MayAsk (plant : List Actuator) (asked : Asked) : Type 0 where
  pub some : 1 ≤ length asked.commands
  pub few : length asked.commands ≤ 16
  pub may : AllByRecursion (MayCall plant) asked.commands
  pub room : length asked.commands ≤ vec_capacity asked.answers

abbrev pub AsksSome : Asked → Type 0
AsksSome asked = 1 ≤ length asked.commands

-- how many commands several callers ask for
abbrev pub commands_in : List Asked → ℕ
commands_in [] = 0
commands_in (asked ∷ group) = length asked.commands + commands_in group

-- what was asked stays, and the room for the answers
pub record IsSameAsked (old new : Asked) : Type 0 where
  pub session : new.session ≡ old.session
  pub commands : new.commands ≡ old.commands
  pub room : vec_capacity new.answers ≡ vec_capacity old.answers

abbrev pub AreSameAsked : List Asked → List Asked → Type 0
AreSameAsked [] [] = Unit {0}
AreSameAsked [] (new ∷ after) = ⊥
AreSameAsked (old ∷ before) [] = ⊥
AreSameAsked (old ∷ before) (new ∷ after) = IsSameAsked old new × AreSameAsked before after

-- ---- what is added

-- what was tried of a caller's commands
abbrev pub tried_of : Asked → Tried
tried_of asked = record { session = asked.session; commands = take asked.tried asked.commands }

-- An entry for each command that was answered. Where the disk failed the mark, which holds what was tried of those behind it too.
abbrev pub made_of : Asked → List Asked → List Entry
made_of asked behind = made_by_all (map tried_of behind) asked.session asked.commands asked.answers.items asked.outcomes.rest

-- one caller's behind another's
abbrev pub made_together : List Asked → List Entry
made_together [] = []
made_together (asked ∷ group) = made_of asked group ++ made_together group

-- ---- what is told

-- to a caller, whose disk had failed before or not
pub record IsReplied (was : Bool) (asked : Asked) : Type 0 where
  pub stops : is_stopped_rest asked.outcomes.rest ≡ was
  pub done : length asked.answers.items ≡ asked.outcomes.done
  pub rest : RestFits asked.commands asked.outcomes.done asked.outcomes.rest
  pub together : NoneDone asked.outcomes.done asked.outcomes.rest
  pub undenied : denial_of_rest asked.outcomes.rest ≡ None

-- To each. Behind one at which the disk failed all are told that it had.
abbrev pub AreReplied : Bool → List Asked → Type 0
AreReplied was [] = Unit {0}
AreReplied was (asked ∷ group) = IsReplied was asked × AreReplied (has_failed_rest asked.outcomes.rest) group

-- A caller's seat after a turn that was lent to it: it found a history, and made just the entries of what it asked for.
pub record IsServed {T : Type 0} (plant : T → List Actuator) (opening : T → State) (seat told : Standing T Entry) (asked replied : Asked) : Type 0 where
  pub before : List Entry
  pub behind : List Asked
  pub goes_on : IsPrefix seat.seen before
  pub turned : told ≡ after_turn (with_turn seat before) (made_of replied behind)
  pub own : own_entries told ≡ own_entries seat ++ made_of replied behind
  pub places : ArePlacesOf told.places told.seen
  pub same : IsSameAsked asked replied
  pub says : IsReplied (is_broken before) replied
  pub sound : (start : T) → seat.start ≡ Some start → IsSound (plant start) (opening start)
  pub legal : (start : T) → seat.start ≡ Some start → IsLegal (plant start) (before ++ made_of replied behind) (opening start)

-- ---- the parts of a pass

-- whole pairs, one or more: of each pair one part takes the turns, while the other lies where a turn can be lent to it
abbrev pub IsPaired : ℕ → Type 0
IsPaired parts = (pairs : ℕ) × (parts ≡ 2 * pairs) × (1 ≤ pairs)
