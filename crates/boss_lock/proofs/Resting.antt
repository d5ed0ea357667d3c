-- A seat between two calls.
use Rattle.std.proofs.Common.{◌≡◌, ℕ, List, [], ◌∷◌, Option, None, IsSome, ◌++◌, ◌+◌, refl, sym, subst, ap, ◌∙◌}
use Rattle.atomic_table.specs.Seated.{TableId}
use mathlib.Core.List.{IsPrefix}
use Rattle.atomic_table.specs.Table.{rest}
use Rattle.boss_lock.specs.Places.{entries_at, IsLonger, total}
use Rattle.boss_lock.specs.declared.view.View.{View}
use Rattle.boss_lock.specs.Seats.{Standing, standing, turn_of, Carries, IsAtRest, own_entries}
use Rattle.boss_lock.specs.Steps.{Knower, list_of, given_view, passed_view, compared_view, joined_view}
use Rattle.boss_lock.proofs.Entries.{entries_after_turn, total_joined}
use Rattle.boss_lock.specs.declared.view.Stage.{Stage}
use Rattle.boss_lock.specs.declared.view.Stage.TheVariants.{Idle, Waiting, Turn, Holding, Given}

module _ {V E : Type 0} (seen : List E) where
  idle_with_nothing : (stage : Stage E) (slots : List (ℕ × Option V)) → Carries seen stage slots → turn_of stage ≡ None → (stage ≡ Idle) × (slots ≡ [])
  idle_with_nothing Idle slots carries none = (refl, carries)
  idle_with_nothing (Waiting t) slots carries none = absurd carries
  idle_with_nothing (Turn t list) slots carries none = absurd carries
  idle_with_nothing (Holding t list) slots carries none = absurd (cc)
  idle_with_nothing (Given t list made) slots carries none = absurd carries

  found_more : (stage : Stage E) (slots : List (ℕ × Option V)) → Carries seen stage slots → IsSome (turn_of stage) → IsPrefix seen (list_of stage)
  found_more Idle slots carries turn = absurd (cc)
  found_more (Waiting t) slots carries turn = absurd carries
  found_more (Turn t list) slots carries turn = absurd carries
  found_more (Holding t list) slots carries turn = carries.1
  found_more (Given t list made) slots carries turn = absurd carries

module _ {V T E : Type 0} where
  -- a slot that was taken is the first of those that the seat holds
  pub held_first : (me : Knower V T E) (v : View T E) (y : ℕ × Option V) (slots : List (ℕ × Option V)) → me ≡ (v, y ∷ slots) → me.1 ≡ y ∷ rest me.1
  held_first me v y slots is = subst (λ (m : Knower V T E). m.1 ≡ y ∷ rest m.1) (sym is) refl

  -- a seat that has no turn is idle, and holds no slot
  pub idle_at_rest : (table : TableId) (me : Knower V T E) (seat : Standing T E) → standing table me.0 ≡ seat → IsAtRest me → seat.turn ≡ None → (me.0.stage ≡ Idle) × (me.1 ≡ [])
  idle_at_rest table me seat is rest none = idle_with_nothing me.0.seen me.0.stage me.1 rest.carries (ap (λ (s : Standing T E). s.turn) is ∙ none)

  -- A seat's own entries after a turn: those before, and those that were made
  pub own_after_turn : (table : TableId) (me now : Knower V T E) (seat : Standing T E) (made : List E) → standing table me.0 ≡ seat → IsAtRest me → IsSome seat.turn
      → now ≡ (passed_view (given_view me.0 made), []) → entries_at now.0.seen now.0.places ≡ own_entries seat ++ made
  own_after_turn table me now seat made is rest turn passed =
      let v = me.0 in
      let found = found_more v.seen v.stage me.1 rest.carries (subst (λ (s : Standing T E). IsSome s.turn) (sym is) turn) in
      ap (λ (m : Knower V T E). entries_at m.0.seen m.0.places) passed
      ∙ (entries_after_turn v.seen (list_of v.stage) made v.places found rest.places.1 ∙ ap (λ (s : Standing T E). own_entries s ++ made) is)

  -- A seat's own entries once it has taken in another weigh as much as those of both
  pub own_of_both : (table their_table : TableId) (me them now : Knower V T E) (seat other : Standing T E) → standing table me.0 ≡ seat → standing their_table them.0 ≡ other → IsAtRest me → IsAtRest them
      → now ≡ (compared_view (joined_view me.0 them.0), me.1) → IsLonger me.0.seen them.0.seen now.0.seen
      → (weight : E → ℕ) → total weight (entries_at now.0.seen now.0.places) ≡ total weight (own_entries seat) + total weight (own_entries other)
  own_of_both table their_table me them now seat other is are rest rest_too both seen weight =
      let v = me.0 in
      let u = them.0 in
      ap (λ (m : Knower V T E). total weight (entries_at now.0.seen m.0.places)) both
      ∙ (total_joined weight v.seen u.seen now.0.seen v.places u.places seen rest.places.1 rest_too.places.1
      ∙ (λ i. total weight (own_entries (is i)) + total weight (own_entries (are i))))
