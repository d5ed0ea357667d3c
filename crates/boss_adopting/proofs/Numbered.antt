-- The list of places stands for the renumbering.
use Rattle.std.proofs.Common.{◌≡◌, ℕ, List, Option, Some, None, refl, ap, ◌∙◌}
use Rattle.std.specs.Prelude.{slice_get}
use Rattle.std.specs.Option.{option_map, option_and_then}
use Rattle.std.proofs.lemmas.Option.{slice_get-map}
use Rattle.boss_model.specs.Catalogue.{Point, Catalogue, place_of}
use Rattle.law_adoption.specs.Renumber.{renumbered}
use Rattle.boss_adopting.specs.Places.{places_of, places_between}

then-mapped : {X Y : Type 0} (f : X → Option Y) (found : Option X) → option_and_then (λ place. place) (option_map f found) ≡ option_and_then f found
then-mapped f None = refl
then-mapped f (Some x) = refl

place-between : (old new : Catalogue) (point : ℕ) → places_of (places_between old new) point ≡ renumbered old new point
place-between old new point =
    ap (option_and_then (λ place. place)) (slice_get-map (λ (p : Point). place_of new p.name) old.points point)
    ∙ then-mapped (λ p. place_of new p.name) (slice_get old.points point)

pub places-renumber : (old new : Catalogue) (places : List (Option ℕ)) → places ≡ places_between old new → places_of places ≡ renumbered old new
places-renumber old new places are = ap places_of are ∙ (λ i point. place-between old new point i)
