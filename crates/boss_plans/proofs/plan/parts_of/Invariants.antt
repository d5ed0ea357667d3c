use Rattle.std.proofs.Common.{◌≡◌, map}
use Rattle.boss_plans.specs.Plans.{part_of}
use Rattle.boss_plans.proofs.plan.parts_of.Given as goal

-- the parts so far are those of the drivers so far
abbrev pub invariant-loop-host : goal.invariant-loop-host
invariant-loop-host l = l.parts.items ≡ map (part_of l.catalogue l.places) l.yielded
