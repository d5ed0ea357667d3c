use Rattle.std.proofs.Common.{◌≡◌}
use Rattle.trial_workers.proofs.serving.serve.Given as goal

-- each connection was given back
abbrev pub invariant-loop-number : goal.invariant-loop-number
invariant-loop-number g l = g.H.Host.sound l.host × (g.H.Host.away l.host ≡ 0)
