use Rattle.std.proofs.Common.{◌≡◌}
use Rattle.std.specs.List.{AllByRecursion}
use Rattle.boss_shared.proofs.manager.counters_of.Given as goal

abbrev pub invariant-loop : goal.invariant-loop
invariant-loop g l = AllByRecursion (λ counter. counter.key ≡ l.lock) l.counters.items
