use Rattle.std.proofs.Common.{◌≡◌, [], drop}
use Rattle.boss_points.specs.Seen.{views}
use Rattle.boss_plans.specs.Plans.{places_from}
use Rattle.boss_plans.proofs.places.places_of.Given as goal

-- what the places so far and those to come give is what all give
abbrev pub invariant-loop-at : goal.invariant-loop-at
invariant-loop-at l =
    places_from l.catalogue l.hosts l.at l.places.items (views (drop l.at l.tables)) ≡ places_from l.catalogue l.hosts 0 [] (views l.tables)
