-- Source: own.
-- Points of a catalogue as points of another one.
use Rattle.std.specs.Prelude.{◌≡◌, ℕ, ◌<◌, Bool, Option, Some, is_some, slice_get, unwrap_or}
use Rattle.std.specs.Option.{option_and_then}
use Rattle.boss_model.specs.Catalogue.{Catalogue, place_of}

-- the place that a point of the old catalogue has in the new one, by its name; none where the new one has no such name
abbrev pub renumbered : Catalogue → Catalogue → ℕ → Option ℕ
renumbered old new point = option_and_then (λ p. place_of new p.name) (slice_get old.points point)

-- ---- all that follows takes any such renumbering, whatever it goes by

-- the point is not removed
abbrev pub stays : (ℕ → Option ℕ) → ℕ → Bool
stays to point = is_some (to point)

-- its new number
abbrev pub at : (ℕ → Option ℕ) → ℕ → ℕ
at to point = unwrap_or (to point) 0

-- it leads into a plant of so many points, and no two points to one
pub record IsRenumbering (to : ℕ → Option ℕ) (points : ℕ) : Type 0 where
  pub within : (p q : ℕ) → to p ≡ Some q → q < points
  pub one : (p q place : ℕ) → to p ≡ Some place → to q ≡ Some place → p ≡ q
