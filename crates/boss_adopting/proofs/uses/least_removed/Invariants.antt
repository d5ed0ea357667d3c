use Rattle.std.proofs.Common.{◌≡◌, map, take}
use Rattle.boss_adopting.specs.Least.{least_removed}
use Rattle.boss_adopting.specs.Places.{places_of}
use Rattle.boss_adopting.proofs.uses.least_removed.Given as goal

abbrev pub invariant-loop-part : goal.invariant-loop-part
invariant-loop-part l = l.found ≡ least_removed (places_of l.numbering) (map (λ part. part.point) (take l.part-index l.parts))
