use Rattle.std.proofs.Common.{◌≤◌}
use Rattle.std.specs.List.{AllByRecursion}
use Rattle.boss_model.specs.Limits.{last_moment}
use Rattle.trial_guard.proofs.holding.moments.Given as goal

abbrev pub invariant-loop-moment : goal.invariant-loop-moment
invariant-loop-moment g l = record { all : AllByRecursion (λ moment. moment ≤ last_moment) l.moments }
