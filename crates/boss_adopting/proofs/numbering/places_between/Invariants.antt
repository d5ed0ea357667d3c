use Rattle.std.proofs.Common.{◌≡◌, map, take}
use Rattle.boss_model.specs.Catalogue.{place_of}
use Rattle.boss_adopting.proofs.numbering.places_between.Given as goal

abbrev pub invariant-loop-place : goal.invariant-loop-place
invariant-loop-place l = l.places.items ≡ map (λ point. place_of l.new point.name) (take l.place l.old.points)
