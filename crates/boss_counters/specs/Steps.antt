-- Source: own.
-- What each kind of step tells the seat that makes it. A telling takes the step, the seat before, the number
-- found in the word, and the seat after. The word is 0 where the counter is free, 1 where a seat has the place
-- to itself, 2 where a request lies there, 3 where it is being served, and 4 where its reply lies there.
use Rattle.std.specs.Prelude.{◌≡◌, ◌≢◌, ℕ, [], ◌∷◌, Option, Some, None}
use Rattle.atomic_table.specs.Seated.{TableId}
use Rattle.atomic_table.specs.Table.{Step, Me}
use Rattle.atomic_table.specs.declared.shared.Seat.{Seat}
use Rattle.boss_counters.specs.declared.view.Letter.{Letter}
use Rattle.boss_counters.specs.declared.view.Letter.TheVariants.{Request, Reply}
use Rattle.boss_counters.specs.declared.view.Part.{Part}
use Rattle.boss_counters.specs.declared.view.Part.TheVariants.{Place, Asked, Owes}
use Rattle.boss_counters.specs.declared.view.View.{View}

-- a seat as the table sees it: its view, and the slots that it holds, each with what lies in it
abbrev pub Knower : Type 0 → Type 0 → Type 0 → Type 0
Knower K Q R = Me (Option (Letter Q R)) (View K Q)

abbrev pub with_part : {K Q : Type 0} → View K Q → Part Q → View K Q
with_part v part = record v { part = part }

module _ {K Q R : Type 0} where
  -- a seat that holds the slot, and nothing else
  abbrev pub holding : View K Q → Option (Letter Q R) → Knower K Q R
  holding v letter = (v, (0, letter) ∷ [])

  abbrev pub arrived : Step (Option (Letter Q R)) → Knower K Q R → ℕ → Knower K Q R → Type 0
  arrived step me found after = after ≡ me

  abbrev pub claimed : Step (Option (Letter Q R)) → Knower K Q R → ℕ → Knower K Q R → Type 0
  claimed step me found after = (found ≡ 0 → after ≡ holding (with_part me.0 Place) None) × (found ≢ 0 → after ≡ me)

  abbrev pub filed : Step (Option (Letter Q R)) → Knower K Q R → ℕ → Knower K Q R → Type 0
  filed step me found after = (q : Q) × (me.1 ≡ (0, Some (Request q)) ∷ []) × (after ≡ (with_part me.0 (Asked q), []))

  abbrev pub recalled : Step (Option (Letter Q R)) → Knower K Q R → ℕ → Knower K Q R → Type 0
  recalled step me found after =
      (found ≡ 2 → (q : Q) × (me.0.part ≡ Asked q) × (after ≡ holding (with_part me.0 Place) (Some (Request q)))) × (found ≢ 2 → after ≡ me)

  abbrev pub fetched : (Q → R → Type 0) → Step (Option (Letter Q R)) → Knower K Q R → ℕ → Knower K Q R → Type 0
  fetched answers step me found after =
      (found ≡ 4 → (q : Q) × (x : R) × (me.0.part ≡ Asked q) × answers q x × (after ≡ holding (with_part me.0 Place) (Some (Reply x)))) × (found ≢ 4 → after ≡ me)

  abbrev pub accepted : (K → Q → Type 0) → Step (Option (Letter Q R)) → Knower K Q R → ℕ → Knower K Q R → Type 0
  accepted may step me found after =
      (found ≡ 2 → (q : Q) × may me.0.key q × (after ≡ holding (with_part me.0 (Owes q)) (Some (Request q)))) × (found ≢ 2 → after ≡ me)

  -- a step after which the seat has nothing to do with the counter
  abbrev pub parted : Step (Option (Letter Q R)) → Knower K Q R → ℕ → Knower K Q R → Type 0
  parted step me found after = Unit {0}

-- the token is one of this table, which has a counter's word and its slot
abbrev pub IsOn : {S W : Type 0} → TableId → Seat S W → Type 0
IsOn table token = (token.table_id ≡ table) × (table.words ≡ 1) × (table.slots ≡ 1)
