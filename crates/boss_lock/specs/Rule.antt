-- Source: a ticket lock (Mellor-Crummey and Scott, ACM TOCS 9(1), 1991); the rule of proof own.
-- The rule of the lock: a fact over the two words, the slot and what every seat knows.
-- The first word is the next ticket to be drawn, and the second the one that is served, each modulo 2 ^ 64.
use Rattle.std.specs.Prelude.{◌≡◌, ℕ, ◌+◌, ◌%◌, ◌^◌, ◌<◌, ◌≤◌, List, [], ◌∷◌, ◌++◌, length, Option, Some, None}
use mathlib.Core.Option as slot
use mathlib.Core.List.{IsPrefix}
use lib.ListN.{get_elem?}
use Rattle.atomic_table.specs.Table.{State}
use Rattle.boss_lock.specs.Places.{same, below, times, numbers_from, AllBelow, Rises, longer, total}
use Rattle.boss_lock.specs.declared.view.View.{View}
use Rattle.boss_lock.specs.declared.view.Stage.{Stage}
use Rattle.boss_lock.specs.declared.view.Stage.TheVariants.{Idle, Waiting, Turn, Holding, Given}

module _ {E : Type 0} where
  -- 1 with a ticket
  abbrev pub in_line : Stage E → ℕ
  in_line Idle = 0
  in_line (Waiting t) = 1
  in_line (Turn t list) = 1
  in_line (Holding t list) = 1
  in_line (Given t list made) = 1

  -- 1 with the ticket k
  abbrev pub ticketed : ℕ → Stage E → ℕ
  ticketed k Idle = 0
  ticketed k (Waiting t) = same k t
  ticketed k (Turn t list) = same k t
  ticketed k (Holding t list) = same k t
  ticketed k (Given t list made) = same k t

  -- 1 while the value is out of its slot, in the seat's hands
  abbrev pub away : Stage E → ℕ
  away Idle = 0
  away (Waiting t) = 0
  away (Turn t list) = 0
  away (Holding t list) = 1
  away (Given t list made) = 0

  -- 1 where k is the place of an entry that the seat has made and not yet passed on
  abbrev pub due : ℕ → Stage E → ℕ
  due k Idle = 0
  due k (Waiting t) = 0
  due k (Turn t list) = 0
  due k (Holding t list) = 0
  due k (Given t list made) = times k (numbers_from (length list) (length made))

  -- a seat with the turn has the ticket that is served, and knows the whole history
  abbrev pub Knows : ℕ → List E → Stage E → Type 0
  Knows low log Idle = Unit {0}
  Knows low log (Waiting t) = Unit {0}
  Knows low log (Turn t list) = (t ≡ low) × (list ≡ log)
  Knows low log (Holding t list) = (t ≡ low) × (list ≡ log)
  Knows low log (Given t list made) = (t ≡ low) × (list ++ made ≡ log)

module _ {T E : Type 0} where
  abbrev pub first_view : T → ℕ → View T E
  first_view start seats = record { start = Some start; parts = seats; seen = []; other = []; places = []; stage = Idle }

  -- a view whose parts went to another seat
  abbrev pub spent_view : View T E
  spent_view = record { start = None; parts = 0; seen = []; other = []; places = []; stage = Idle }

  -- how often the place k is with this seat
  abbrev pub placed : ℕ → View T E → ℕ
  placed k v = times k v.places + due k v.stage

  -- what the rule says of one seat
  pub record Fits (low : ℕ) (log : List E) (start : T) (v : View T E) : Type 0 where
    pub same_start : 0 < v.parts → v.start ≡ Some start
    pub one_ticket : in_line v.stage ≤ v.parts
    pub spent : v.parts ≡ 0 → v.places ≡ []
    pub rising : Rises v.places
    pub seen_before : IsPrefix v.seen log
    pub other_before : IsPrefix v.other log
    pub places_seen : AllBelow (length (longer v.seen v.other)) v.places
    pub knows : Knows low log v.stage

module _ {V : Type 0} where
  -- the slot as the table sees it: at home with a value, or out with a seat
  abbrev pub slot_of : Option V → slot.Option (Option V)
  slot_of (Some y) = slot.some (Some y)
  slot_of None = slot.none

  -- 1 where the value is in its slot
  abbrev pub present : Option V → ℕ
  present (Some y) = 1
  present None = 0

  -- the value in the slot stands for the history
  abbrev pub StandsAtHome : {T E : Type 0} → (V → T → List E → Type 0) → T → List E → Option V → Type 0
  StandsAtHome means start log (Some y) = means y start log
  StandsAtHome means start log None = Unit {0}

-- The rule. Tickets are counted without end here, from `low`, which is served, up to `high`, which is drawn next.
-- `log` is the history, and `home` the value in the slot
pub record IsKept {V T E : Type 0} (means : V → T → List E → Type 0) (start : T) (seats : ℕ) (s : State (Option V) (View T E)) : Type 0 where
  pub low : ℕ
  pub high : ℕ
  pub log : List E
  pub home : Option V
  pub words : s.words ≡ (high % 2 ^ 64) ∷ (low % 2 ^ 64) ∷ []
  pub slots : s.homes ≡ slot_of home ∷ []
  pub few_seats : seats < 2 ^ 33
  pub stands : StandsAtHome means start log home
  pub one_value : present home + total (λ (v : View T E). away v.stage) s.views ≡ 1
  pub all_parts : total (λ (v : View T E). v.parts) s.views ≡ seats
  pub line : low + total (λ (v : View T E). in_line v.stage) s.views ≡ high
  -- each number from `low` up to `high` is the ticket of one seat, and no other is
  pub tickets : (t : ℕ) → total (λ (v : View T E). ticketed t v.stage) s.views + below t low ≡ below t high
  -- each place of the history is with one seat, once
  pub one_place : (k : ℕ) → total (placed k) s.views ≡ below k (length log)
  pub each_seat : (id : ℕ) (v : View T E) → get_elem? s.views id ≡ slot.some v → Fits low log start v
