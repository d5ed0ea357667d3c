use Rattle.std.proofs.Common.{◌≡◌, drop}
use Rattle.boss_plans.specs.Plans.{first_lacking}
use Rattle.boss_plans.proofs.places.first_lacking.Given as goal

-- no point so far lacks its place
abbrev pub invariant-loop-id : goal.invariant-loop-id
invariant-loop-id l =
    first_lacking l.hosts l.places 0 l.catalogue.points ≡ first_lacking l.hosts l.places l.id (drop l.id l.catalogue.points)
