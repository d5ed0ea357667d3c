use Rattle.std.proofs.Common.{◌≡◌, take}
use Rattle.boss_durable.specs.Confirmed.{latest_of}
use Rattle.boss_durable.proofs.confirming.latest_of.Given as goal

abbrev pub invariant-loop-asked : goal.invariant-loop-asked
invariant-loop-asked l = l.most ≡ latest_of (take l.asked-index l.group)
