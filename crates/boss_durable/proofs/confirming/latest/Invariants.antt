use Rattle.std.proofs.Common.{◌≡◌, take}
use Rattle.boss_durable.specs.Confirmed.{latest}
use Rattle.boss_durable.proofs.confirming.latest.Given as goal

abbrev pub invariant-loop-call : goal.invariant-loop-call
invariant-loop-call l = l.most ≡ latest (take l.call-index l.commands)
