-- Items copied one by one.
use Rattle.std.proofs.Common.{◌≡◌, ℕ, ◌+◌, ◌-◌, ◌≤◌, List, [], ◌∷◌, ◌++◌, take, drop, Some, arith}
use Rattle.std.specs.Prelude.{slice_get}
use Rattle.std.proofs.lemmas.Grind.{common_steps}
use Rattle.std.proofs.lemmas.List.{take_more, get_or-drop}
use Rattle.std.proofs.lemmas.Option.{slice_get_within, get_or_from_slice_get}

-- the item at an index is the next one of those from a place on
pub take_more_at : {X : Type 0} (items : List X) (place index : ℕ) (item : X) → place ≤ index → slice_get items index ≡ Some item → take (index + 1 - place) (drop place items) ≡ take (index - place) (drop place items) ++ item ∷ []
take_more_at items place index item from there =
    grind (arith, common_steps, take_more (drop place items) (index - place) item, get_or-drop place items (index - place) item, slice_get_within items index item there, get_or_from_slice_get items index item item there)
