-- Source: own.
-- What contracts see of a lock and of a seat.
use Rattle.std.specs.Prelude.{◌≡◌, ℕ, ◌+◌, ◌-◌, ◌<◌, List, [], ◌∷◌, ◌++◌, length, Option, Some, None, unwrap_or}
use mathlib.Core.List.{IsPrefix}
use Rattle.atomic_table.specs.Seated.{TableId}
use Rattle.boss_lock.specs.Places.{numbers_from, ArePlacesOf, woven, entries_at, longer}
use Rattle.boss_lock.specs.Steps.{Knower}
use Rattle.boss_lock.specs.declared.view.View.{View}
use Rattle.boss_lock.specs.declared.view.Stage.{Stage}
use Rattle.boss_lock.specs.declared.view.Stage.TheVariants.{Idle, Waiting, Turn, Holding, Given}

-- A lock: which table it is, the start that its first value told, and how many parts its seats have together
pub record Lock (T : Type 0) : Type 0 where
  pub table : TableId
  pub start : T
  pub seats : ℕ

-- A seat: its table, the start, its parts, the beginning of the history that it has seen, the places in it of
-- the entries that it made, and, while it has the turn, the history as it found it
pub record Standing (T E : Type 0) : Type 0 where
  pub table : TableId
  pub start : Option T
  pub parts : ℕ
  pub seen : List E
  pub places : List ℕ
  pub turn : Option (List E)

module _ {E : Type 0} where
  abbrev pub turn_of : Stage E → Option (List E)
  turn_of Idle = None
  turn_of (Waiting t) = None
  turn_of (Turn t list) = None
  turn_of (Holding t list) = Some list
  turn_of (Given t list made) = None

module _ {V E : Type 0} where
  -- Between two calls a seat is idle, or it has the turn: it holds the slot, with nothing in it, and found a
  -- history that begins with all that it has seen
  abbrev pub Carries : List E → Stage E → List (ℕ × Option V) → Type 0
  Carries seen Idle slots = slots ≡ []
  Carries seen (Waiting t) slots = ⊥
  Carries seen (Turn t list) slots = ⊥
  Carries seen (Holding t list) slots = (slots ≡ (0, None) ∷ []) × IsPrefix seen list
  Carries seen (Given t list made) slots = ⊥

module _ {T E : Type 0} where
  abbrev pub standing : TableId → View T E → Standing T E
  standing table v = record { table = table; start = v.start; parts = v.parts; seen = v.seen; places = v.places; turn = turn_of v.stage }

-- what every seat keeps between two calls
pub record IsAtRest {V T E : Type 0} (me : Knower V T E) : Type 0 where
  pub some_part : 0 < me.0.parts
  pub compared : me.0.other ≡ []
  pub places : ArePlacesOf me.0.places me.0.seen
  pub carries : Carries me.0.seen me.0.stage me.1

module _ {T E : Type 0} where
  -- it is a seat of this lock
  abbrev pub IsSeatOf : Lock T → Standing T E → Type 0
  IsSeatOf lock seat = (seat.table ≡ lock.table) × (seat.start ≡ Some lock.start)

  -- the history as a seat with the turn found it
  abbrev pub found : Standing T E → List E
  found seat = unwrap_or seat.turn []

  -- the entries that the seat made, in order
  abbrev pub own_entries : Standing T E → List E
  own_entries seat = entries_at seat.seen seat.places

  -- the only seat of a new lock
  abbrev pub first_seat : Lock T → Standing T E
  first_seat lock = record { table = lock.table; start = Some lock.start; parts = lock.seats; seen = []; places = []; turn = None }

  -- the seat with the turn, which found this history
  abbrev pub with_turn : Standing T E → List E → Standing T E
  with_turn seat list = record seat { turn = Some list }

  -- the seat after a turn in which these entries were made
  abbrev pub after_turn : Standing T E → List E → Standing T E
  after_turn seat made = record seat {
    seen = found seat ++ made;
    places = seat.places ++ numbers_from (length (found seat)) (length made);
    turn = None;
  }

  -- the seat after it has given one part away
  abbrev pub one_part_less : Standing T E → Standing T E
  one_part_less seat = record seat { parts = seat.parts - 1 }

  -- the seat that got the part
  abbrev pub one_part_of : Standing T E → Standing T E
  one_part_of seat = record seat { parts = 1; places = [] }

  -- the seat after it has taken in another
  abbrev pub both_seats : Standing T E → Standing T E → Standing T E
  both_seats seat other = record seat {
    parts = seat.parts + other.parts;
    seen = longer seat.seen other.seen;
    places = woven seat.places other.places;
  }

  -- the seat that lent its turn to another, which made these entries
  abbrev pub after_lending : Standing T E → List E → Standing T E
  after_lending seat made = record seat { seen = found seat ++ made; turn = Some (found seat ++ made) }

  -- the seat with the parts of another too
  abbrev pub with_parts_of : Standing T E → Standing T E → Standing T E
  with_parts_of seat other = record seat { parts = seat.parts + other.parts }
