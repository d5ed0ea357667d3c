use Rattle.std.proofs.Common.{◌≡◌, [], drop}
use Rattle.boss_points.specs.Seen.{views}
use Rattle.boss_plans.specs.Plans.{hosts_from}
use Rattle.boss_plans.proofs.hosts.hosts_of.Given as goal

-- what the drivers so far and those to come give is what all give
abbrev pub invariant-loop-at : goal.invariant-loop-at
invariant-loop-at l = hosts_from l.catalogue l.at l.hosts.items (views (drop l.at l.tables)) ≡ hosts_from l.catalogue 0 [] (views l.tables)
