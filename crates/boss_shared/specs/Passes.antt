-- Source: own.
-- What a pass has seen of the one history, which of its entries are its own, and what a call or a join makes of it.
use Rattle.std.specs.Prelude.{◌≡◌, ℕ, Bool, true, if◌then◌else◌, List, [], ◌∷◌, ◌++◌, length, Option, Some}
use mathlib.Core.List.{IsPrefix}
use Rattle.boss_model.specs.declared.answer.Answer.{Answer}
use Rattle.boss_model.specs.declared.command.Command.{Command}
use Rattle.boss_model.specs.declared.state.Actuator.{Actuator}
use Rattle.boss_model.specs.Sound.{IsSound}
use Rattle.boss_model.specs.State.{State}
use Rattle.boss_lock.specs.Places.{numbers_from, ArePlacesOf, entries_at}
use Rattle.def_history.specs.declared.entry.Entry.{Entry}
use Rattle.def_history.specs.declared.outcome.Outcome.{Outcome}
use Rattle.def_history.specs.declared.outcome.Outcome.TheVariants.{Denied}
use Rattle.def_history.specs.History.{is_broken, IsLegal, deeds}
use Rattle.def_history.specs.Made.{done_by, made_by}
use Rattle.boss_shared.specs.Calls.{has_failed_rest, is_stopped}

-- the entries of which this holds
abbrev pub only : (Entry → Bool) → List Entry → List Entry
only p [] = []
only p (entry ∷ entries) = if p entry then entry ∷ only p entries else only p entries

-- The history from a sound opening, as far as a pass has seen it, and the places in it of the pass's own entries
pub record IsPassOf (plant : List Actuator) (opening : State) (seen : List Entry) (mine : List ℕ) : Type 0 where
  pub sound : IsSound plant opening
  pub legal : IsLegal plant seen opening
  pub places : ArePlacesOf mine seen

-- After a call the disk has failed, as far as the pass has seen, exactly where its outcome says so. A denied call looks at nothing:
-- behind it the disk has failed only if the pass had seen that before
abbrev pub FailsBy : Bool → Bool → Option Outcome → Type 0
FailsBy was now (Some (Denied index rule)) = now ≡ true → was ≡ true
FailsBy was now other = now ≡ has_failed_rest other

module _ (plant : List Actuator) (opening : State) (seen : List Entry) (mine : List ℕ) (now : List Entry) (own : List ℕ) where
  -- One turn in which a pass made these entries: after it the pass has seen them at the end of a history that begins with all
  -- that it had seen before, and of what was new to it they alone are its own
  pub record Turn (made : List Entry) (stopped : Bool) : Type 0 where
    -- the history as the turn found it
    pub before : List Entry
    pub goes_on : IsPrefix seen before
    pub ends : now ≡ before ++ made
    pub places : own ≡ mine ++ numbers_from (length before) (length made)
    pub entries : entries_at now own ≡ entries_at seen mine ++ made
    pub legal : IsLegal plant now opening
    -- the disk had failed exactly where the mark stood there before
    pub stopped_is : stopped ≡ is_broken before

  -- a call that was denied leaves all as it was, and each other is a turn
  abbrev pub TurnsBy : ℕ → Command → ℕ → Outcome → Type 0
  TurnsBy session command moment (Denied index rule) = (now ≡ seen) × (own ≡ mine)
  TurnsBy session command moment other = Turn (made_by session command moment other) (is_stopped other)

  -- Several commands of a session, of which so many were answered: they are in order, and maybe in several turns
  pub record Batch (session : ℕ) (calls : List (Command × ℕ)) (answers : List Answer) (rest : Option Outcome) : Type 0 where
    pub goes_on : IsPrefix seen now
    pub deeds_are : deeds (entries_at now own) ≡ deeds (entries_at seen mine) ++ done_by session calls answers
    pub legal : IsLegal plant now opening
    pub failed : FailsBy (is_broken seen) (is_broken now) rest
