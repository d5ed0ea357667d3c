use Rattle.std.proofs.Common.{◌≡◌, drop}
use Rattle.boss_plans.specs.Places.{terms_of}
use Rattle.boss_plans.proofs.hosts.terms_of.Given as goal

-- what the hosts to come give is what all give
abbrev pub invariant-loop-host : goal.invariant-loop-host
invariant-loop-host l = terms_of (drop l.host-index l.hosts) l.driver ≡ terms_of l.hosts l.driver
