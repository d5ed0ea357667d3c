use Rattle.std.proofs.Common.{◌≡◌, ◌++◌, drop, filter}
use Rattle.boss_plans.specs.Places.{is_of_driver}
use Rattle.boss_plans.proofs.plan.places_of_driver.Given as goal

-- those so far and those to come are all
abbrev pub invariant-loop-place : goal.invariant-loop-place
invariant-loop-place l =
    l.own.items ++ filter (is_of_driver l.catalogue l.driver) (drop l.place-index l.places) ≡ filter (is_of_driver l.catalogue l.driver) l.places
