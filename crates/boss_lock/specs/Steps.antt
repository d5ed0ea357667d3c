-- Source: a ticket lock; its steps as views own.
-- The views that the kinds of step leave, and what each step tells the seat that makes it.
-- A telling takes the step, the seat before, the number found in the word, and the seat after.
use Rattle.std.specs.Prelude.{◌≡◌, ◌≢◌, ℕ, ◌+◌, ◌-◌, ◌%◌, ◌^◌, List, [], ◌∷◌, ◌++◌, length, Option, Some}
use mathlib.Core.List.{IsPrefix}
use Rattle.atomic_table.specs.Seated.{TableId}
use Rattle.atomic_table.specs.Table.{Step, Me, rest}
use Rattle.atomic_table.specs.declared.shared.Seat.{Seat}
use Rattle.boss_lock.specs.Places.{numbers_from, ArePlacesOf, woven, longer, IsLonger}
use Rattle.boss_lock.specs.declared.view.View.{View}
use Rattle.boss_lock.specs.declared.view.Stage.{Stage}
use Rattle.boss_lock.specs.declared.view.Stage.TheVariants.{Idle, Waiting, Turn, Holding, Given}

module _ {E : Type 0} where
  -- the ticket of a seat that has one
  abbrev pub ticket_of : Stage E → ℕ
  ticket_of Idle = 0
  ticket_of (Waiting t) = t
  ticket_of (Turn t list) = t
  ticket_of (Holding t list) = t
  ticket_of (Given t list made) = t

  -- the history as a seat with the turn found it
  abbrev pub list_of : Stage E → List E
  list_of Idle = []
  list_of (Waiting t) = []
  list_of (Turn t list) = list
  list_of (Holding t list) = list
  list_of (Given t list made) = list

  -- the entries that a seat has made and not yet passed on
  abbrev pub made_of : Stage E → List E
  made_of Idle = []
  made_of (Waiting t) = []
  made_of (Turn t list) = []
  made_of (Holding t list) = []
  made_of (Given t list made) = made

module _ {T E : Type 0} where
  -- the view of a seat that has drawn the ticket t
  abbrev pub waiting_view : View T E → ℕ → View T E
  waiting_view v t = record v { stage = Waiting t }

  -- the view of a seat that got the turn, and found this history
  abbrev pub turn_view : View T E → List E → View T E
  turn_view v list = record v { stage = Turn (ticket_of v.stage) list }

  -- the view of a seat that took the value out
  abbrev pub holding_view : View T E → List E → View T E
  holding_view v list = record v { stage = Holding (ticket_of v.stage) list }

  -- the view of a seat that put a value back, and has made these entries
  abbrev pub given_view : View T E → List E → View T E
  given_view v made = record v { stage = Given (ticket_of v.stage) (list_of v.stage) made }

  -- the view of a seat that passed the turn on
  abbrev pub passed_view : View T E → View T E
  passed_view v = record v {
    seen = list_of v.stage ++ made_of v.stage;
    places = v.places ++ numbers_from (length (list_of v.stage)) (length (made_of v.stage));
    stage = Idle;
  }

  -- the view of a seat that gave one part away
  abbrev pub left_view : View T E → View T E
  left_view v = record v { parts = v.parts - 1 }

  -- the view of the seat that got the part
  abbrev pub right_view : View T E → View T E
  right_view v = record v { parts = 1; other = []; places = []; stage = Idle }

  -- the view of a seat that took in another, before what both had seen is compared
  abbrev pub joined_view : View T E → View T E → View T E
  joined_view v u = record v { parts = v.parts + u.parts; other = u.seen; places = woven v.places u.places }

  -- the view of a seat that has compared them
  abbrev pub compared_view : View T E → View T E
  compared_view v = record v { seen = longer v.seen v.other; other = [] }

  -- the view of a seat that has the value, and added these entries to the history
  abbrev pub added_view : View T E → List E → View T E
  added_view v made = record v {
    seen = list_of v.stage ++ made;
    other = [];
    places = v.places ++ numbers_from (length (list_of v.stage)) (length made);
    stage = Holding (ticket_of v.stage) (list_of v.stage ++ made);
  }

  -- the view of a seat that keeps one part, with its turn, and sets down the rest
  abbrev pub bare_view : View T E → View T E
  bare_view v = record v { parts = 1; places = [] }

  -- the view of the seat with that rest
  abbrev pub set_down_view : View T E → View T E
  set_down_view v = record v { parts = v.parts - 1; other = []; stage = Idle }

  -- the view of a seat that took the parts of another, and nothing else of it
  abbrev pub folded_view : View T E → View T E → View T E
  folded_view v u = record v { parts = v.parts + u.parts }

  -- the stage of a seat, with whatever it has
  abbrev pub IsWaiting : View T E → Type 0
  IsWaiting v = v.stage ≡ Waiting (ticket_of v.stage)

  abbrev pub HasTurn : View T E → Type 0
  HasTurn v = v.stage ≡ Turn (ticket_of v.stage) (list_of v.stage)

  abbrev pub IsHolding : View T E → Type 0
  IsHolding v = v.stage ≡ Holding (ticket_of v.stage) (list_of v.stage)

  abbrev pub HasGiven : View T E → Type 0
  HasGiven v = v.stage ≡ Given (ticket_of v.stage) (list_of v.stage) (made_of v.stage)

  -- the value stands for a list, from the start that the seat knows
  abbrev pub StandsFor : {V : Type 0} → (V → T → List E → Type 0) → V → View T E → List E → Type 0
  StandsFor means value v list = (start : T) → v.start ≡ Some start → means value start list

-- a seat as the table sees it: its view, and the slots that it holds, each with what lies in it
abbrev pub Knower : Type 0 → Type 0 → Type 0 → Type 0
Knower V T E = Me (Option V) (View T E)

module _ {V T E : Type 0} where
  abbrev pub drawn : Step (Option V) → Knower V T E → ℕ → Knower V T E → Type 0
  drawn step me found after = (t : ℕ) × (found ≡ t % 2 ^ 64) × (after ≡ (waiting_view me.0 t, me.1))

  abbrev pub looked : Step (Option V) → Knower V T E → ℕ → Knower V T E → Type 0
  looked step me found after =
      let own = ticket_of me.0.stage % 2 ^ 64 in
      (found ≡ own → (list : List E) × IsPrefix me.0.seen list × (after ≡ (turn_view me.0 list, me.1))) × (found ≢ own → after ≡ me)

  abbrev pub taken : (V → T → List E → Type 0) → Step (Option V) → Knower V T E → ℕ → Knower V T E → Type 0
  taken means step me found after =
      let list = list_of me.0.stage in
      (value : V) × StandsFor means value me.0 list × (after ≡ (holding_view me.0 list, (0, Some value) ∷ me.1))

  abbrev pub given : List E → Step (Option V) → Knower V T E → ℕ → Knower V T E → Type 0
  given told step me found after = after ≡ (given_view me.0 told, rest me.1)

  abbrev pub passed : Step (Option V) → Knower V T E → ℕ → Knower V T E → Type 0
  passed step me found after = let v = passed_view me.0 in (after ≡ (v, me.1)) × ArePlacesOf v.places v.seen

  abbrev pub compared : Step (Option V) → Knower V T E → ℕ → Knower V T E → Type 0
  compared step me found after =
      let v = compared_view me.0 in (after ≡ (v, me.1)) × IsLonger me.0.seen me.0.other v.seen × ArePlacesOf v.places v.seen

  abbrev pub added : List E → Step (Option V) → Knower V T E → ℕ → Knower V T E → Type 0
  added told step me found after =
      let v = added_view me.0 told in (after ≡ (v, me.1)) × IsPrefix me.0.other (list_of me.0.stage) × ArePlacesOf v.places v.seen

-- the token is one of this table, which has a lock's words and its slot
abbrev pub IsOn : {S W : Type 0} → TableId → Seat S W → Type 0
IsOn table token = (token.table_id ≡ table) × (table.words ≡ 2) × (table.slots ≡ 1)

-- the token has changed its view and its slots alone
abbrev pub IsSameToken : {S W : Type 0} → Seat S W → Seat S W → Type 0
IsSameToken old new = (new.table_id ≡ old.table_id) × (new.id ≡ old.id)
