-- Source: own.
-- The rule of a counter: a fact over its word, its slot and what every seat knows.
-- All of it follows from one phase, which names the seats that have to do with the counter.
use Rattle.std.specs.Prelude.{◌≡◌, ℕ, [], ◌∷◌, Option, Some, None}
use mathlib.Core.Option as slot
use lib.ListN.{get_elem?}
use Rattle.atomic_table.specs.Table.{State}
use Rattle.boss_counters.specs.declared.view.Letter.{Letter}
use Rattle.boss_counters.specs.declared.view.Letter.TheVariants.{Request, Reply}
use Rattle.boss_counters.specs.declared.view.Part.{Part}
use Rattle.boss_counters.specs.declared.view.Part.TheVariants.{Nothing, Place, Asked, Owes}
use Rattle.boss_counters.specs.declared.view.View.{View}

-- where a request is, and which seats asked, or serve
pub data Phase (Q R : Type 0) : Type 0 where
  -- no request is here
  free : Phase Q R
  -- a seat has the place to itself, to put something there or to clear it
  held : ℕ → Phase Q R
  -- the request of a seat lies here
  asked : ℕ → Q → Phase Q R
  -- the request of the first seat is with the second
  served : ℕ → Q → ℕ → Phase Q R
  -- the reply to the request of a seat lies here
  told : ℕ → Q → R → Phase Q R

-- the view of a seat that has nothing to do with the counter
abbrev pub fresh_view : {K Q : Type 0} → K → View K Q
fresh_view key = record { key = key; part = Nothing }

module _ {Q R : Type 0} where
  -- the number in the word
  abbrev pub number_of : Phase Q R → ℕ
  number_of free = 0
  number_of (held i) = 1
  number_of (asked i q) = 2
  number_of (served i q j) = 3
  number_of (told i q x) = 4

  -- the slot as the table sees it: at home with what lies there, or out with a seat
  abbrev pub slot_of : Phase Q R → slot.Option (Option (Letter Q R))
  slot_of free = slot.some None
  slot_of (held i) = slot.none
  slot_of (asked i q) = slot.some (Some (Request q))
  slot_of (served i q j) = slot.none
  slot_of (told i q x) = slot.some (Some (Reply x))

  -- the seat has the place to itself
  abbrev pub IsHeldBy : Phase Q R → ℕ → Type 0
  IsHeldBy free id = ⊥
  IsHeldBy (held i) id = i ≡ id
  IsHeldBy (asked i q) id = ⊥
  IsHeldBy (served i q j) id = ⊥
  IsHeldBy (told i q x) id = ⊥

  -- the seat has left this request here
  abbrev pub IsAskedBy : Phase Q R → ℕ → Q → Type 0
  IsAskedBy free id r = ⊥
  IsAskedBy (held i) id r = ⊥
  IsAskedBy (asked i q) id r = (i ≡ id) × (q ≡ r)
  IsAskedBy (served i q j) id r = (i ≡ id) × (q ≡ r)
  IsAskedBy (told i q x) id r = (i ≡ id) × (q ≡ r)

  -- the seat owes the reply to this request
  abbrev pub IsOwedBy : Phase Q R → ℕ → Q → Type 0
  IsOwedBy free id r = ⊥
  IsOwedBy (held i) id r = ⊥
  IsOwedBy (asked i q) id r = ⊥
  IsOwedBy (served i q j) id r = (j ≡ id) × (q ≡ r)
  IsOwedBy (told i q x) id r = ⊥

  -- what a seat knows is so
  abbrev pub IsPartIn : Phase Q R → ℕ → Part Q → Type 0
  IsPartIn phase id Nothing = Unit {0}
  IsPartIn phase id Place = IsHeldBy phase id
  IsPartIn phase id (Asked q) = IsAskedBy phase id q
  IsPartIn phase id (Owes q) = IsOwedBy phase id q

  -- a request that lies here may, and a reply answers its request
  abbrev pub IsProper : {K : Type 0} → (K → Q → Type 0) → (Q → R → Type 0) → K → Phase Q R → Type 0
  IsProper may answers key free = Unit {0}
  IsProper may answers key (held i) = Unit {0}
  IsProper may answers key (asked i q) = may key q
  IsProper may answers key (served i q j) = Unit {0}
  IsProper may answers key (told i q x) = answers q x

-- the rule
pub record IsKept {K Q R : Type 0} (may : K → Q → Type 0) (answers : Q → R → Type 0) (key : K) (s : State (Option (Letter Q R)) (View K Q)) : Type 0 where
  pub phase : Phase Q R
  pub word : s.words ≡ number_of phase ∷ []
  pub lies : s.homes ≡ slot_of phase ∷ []
  pub proper : IsProper may answers key phase
  pub each_seat : (id : ℕ) (v : View K Q) → get_elem? s.views id ≡ slot.some v → (v.key ≡ key) × IsPartIn phase id v.part
