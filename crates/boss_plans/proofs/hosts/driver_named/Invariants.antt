use Rattle.std.proofs.Common.{◌≡◌, drop}
use Rattle.std.specs.List.{position_from}
use Rattle.std.specs.Str.{bytes_eq}
use Rattle.boss_plans.proofs.hosts.driver_named.Given as goal

-- no driver so far has the name
abbrev pub invariant-loop-place : goal.invariant-loop-place
invariant-loop-place l =
    position_from (λ other. bytes_eq other l.name) 0 l.catalogue.drivers
    ≡ position_from (λ other. bytes_eq other l.name) l.place (drop l.place l.catalogue.drivers)
