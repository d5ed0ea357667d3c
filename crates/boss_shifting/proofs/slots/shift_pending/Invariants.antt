use Rattle.std.proofs.Common.{◌≡◌, ◌++◌, map, take, drop}
use Rattle.law_shift.specs.Shifted.{shifted_pending}
use Rattle.boss_shifting.proofs.slots.shift_pending.Given as goal

abbrev pub invariant-loop-reversion : goal.invariant-loop-reversion
invariant-loop-reversion l = l.pending ≡ map (shifted_pending l.by) (take l.reversion-index l.initial.pending) ++ drop l.reversion-index l.initial.pending
