-- Source: own.
use Rattle.std.specs.Prelude.{ℕ, ◌-◌, max, ◌==◌, Bool, not, List, [], ◌∷◌, length, drop, filter, Option, Some, None}
use Rattle.std.specs.List.{list_any}

abbrev pub member : ℕ → List ℕ → Bool
member n ns = list_any (λ other. other == n) ns

abbrev pub without : ℕ → List ℕ → List ℕ
without n ns = filter (λ other. not (other == n)) ns

-- the last items, at most so many
abbrev pub keep_last : {X : Type 0} → ℕ → List X → List X
keep_last most items = drop (length items - most) items

-- the first that is there
abbrev pub first_some : {X : Type 0} → List (Option X) → Option X
first_some [] = None
first_some (None ∷ rest) = first_some rest
first_some (Some x ∷ rest) = Some x

-- the greatest of some moments, and 0 of none
abbrev pub latest : List ℕ → ℕ
latest [] = 0
latest (moment ∷ moments) = max moment (latest moments)
