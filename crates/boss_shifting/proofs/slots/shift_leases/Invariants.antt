use Rattle.std.proofs.Common.{◌≡◌, ◌++◌, map, take, drop}
use Rattle.law_shift.specs.Shifted.{shifted_lease}
use Rattle.boss_shifting.proofs.slots.shift_leases.Given as goal

abbrev pub invariant-loop-lease : goal.invariant-loop-lease
invariant-loop-lease l = l.leases ≡ map (shifted_lease l.by) (take l.lease-index l.initial.leases) ++ drop l.lease-index l.initial.leases
