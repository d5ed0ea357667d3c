use Rattle.std.proofs.Common.{◌≡◌, drop}
use Rattle.boss_shifting.proofs.Least.{least_from}
use Rattle.boss_shifting.proofs.most.least_start.Given as goal

abbrev pub invariant-loop-reversion : goal.invariant-loop-reversion
invariant-loop-reversion l = least_from l.least (drop l.reversion-index l.pending) ≡ least_from l.now l.pending
