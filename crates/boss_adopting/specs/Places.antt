-- Source: own.
-- A renumbering as a list: for each point of the old catalogue its place in the new one.
use Rattle.std.specs.Prelude.{ℕ, List, map, Option, slice_get}
use Rattle.std.specs.Option.{option_and_then}
use Rattle.boss_model.specs.Catalogue.{Catalogue, place_of}

-- where the list leads a point; nowhere behind its end
abbrev pub places_of : List (Option ℕ) → ℕ → Option ℕ
places_of places point = option_and_then (λ place. place) (slice_get places point)

-- the places that the points have in the new catalogue, by their names
abbrev pub places_between : Catalogue → Catalogue → List (Option ℕ)
places_between old new = map (λ point. place_of new point.name) old.points
