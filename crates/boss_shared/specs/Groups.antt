-- Source: own.
-- Seats and requests while a turn is under way in which callers are served together.
use Rattle.std.specs.Prelude.{◌≡◌, ◌+◌, ◌≤◌, ℕ, List, [], ◌∷◌, None, IsSome, vec_capacity}
use Rattle.std.specs.List.{AllByRecursion}
use Rattle.boss_counters.specs.Matters.{IsAt}
use Rattle.boss_lock.specs.Seats.{Lock, Standing, IsSeatOf}
use Rattle.boss_model.specs.declared.answer.Answer.{Answer}
use Rattle.boss_model.specs.declared.state.Actuator.{Actuator}
use Rattle.boss_model.specs.State.{State}
use Rattle.def_history.specs.declared.entry.Entry.{Entry}
use Rattle.def_history.specs.declared.outcome.Outcomes.{Outcomes}
use Rattle.boss_shared.specs.declared.asked.Asked.{Asked}
use Rattle.boss_shared.specs.declared.group.Group.{Group}
use Rattle.boss_shared.specs.declared.group.Owed.{Owed}
use Rattle.boss_shared.specs.Together.{commands_in, IsSameAsked, IsServed, MayAsk}

module _ {T : Type 0} where
  -- a seat of the lock that has no turn
  abbrev pub IsIdleOf : Lock T → Standing T Entry → Type 0
  IsIdleOf lock seat = IsSeatOf lock seat × (seat.turn ≡ None)

  -- a seat of the lock that has the turn
  abbrev pub IsTurnOf : Lock T → Standing T Entry → Type 0
  IsTurnOf lock seat = IsSeatOf lock seat × IsSome seat.turn

  -- a seat that takes turns and makes nothing
  abbrev pub IsBare : Standing T Entry → Type 0
  IsBare seat = (seat.parts ≡ 1) × (seat.places ≡ [])

-- What a caller has that collected its reply: its seat with all its parts, the answers, and what became of its commands.
pub record IsCollected {T : Type 0} (plant : T → List Actuator) (opening : T → State) (seat : Standing T Entry) (asked : Asked)
    (now : Standing T Entry) (answers : List Answer) (room : ℕ) (outcomes : Outcomes) : Type 0 where
  pub told : Standing T Entry
  pub replied : Asked
  pub served : IsServed plant opening seat told asked replied
  pub seat_is : now ≡ record told { parts = told.parts + 1 }
  pub answers_are : answers ≡ replied.answers.items
  pub room_is : room ≡ vec_capacity replied.answers
  pub outcomes_are : outcomes ≡ replied.outcomes

module _ {K : Type 0} where
  -- room for a group, and nobody in it
  pub record IsEmpty (group : Group K) : Type 0 where
    pub asked : group.asked.items ≡ []
    pub owed : group.owed.items ≡ []
    pub room : 16 ≤ vec_capacity group.asked
    pub place : 16 ≤ vec_capacity group.owed

  -- A reply is owed to a caller, whose seat is here, for what it asked.
  pub record IsOwed (lock : Lock K) (owed : Owed K) (asked : Asked) : Type 0 where
    pub seat : IsIdleOf lock owed.seat
    pub duty : IsAt owed.counter.now owed.duty
    pub own : owed.duty.request.seat ≡ owed.seat
    pub same : IsSameAsked owed.duty.request.asked asked

  -- to each of a group
  abbrev pub AreOwed : Lock K → List (Owed K) → List Asked → Type 0
  AreOwed lock [] [] = Unit {0}
  AreOwed lock [] (asked ∷ group) = ⊥
  AreOwed lock (owed ∷ others) [] = ⊥
  AreOwed lock (owed ∷ others) (asked ∷ group) = IsOwed lock owed asked × AreOwed lock others group

  -- So many requests were taken from counters: each is allowed, and they have 16 commands or fewer.
  pub record IsTaken (plant : List Actuator) (lock : Lock K) (owed : List (Owed K)) (asked : List Asked) : Type 0 where
    pub owed_to : AreOwed lock owed asked
    pub may : AllByRecursion (MayAsk plant) asked
    pub few : commands_in asked ≤ 16
