use Rattle.std.proofs.Common.{◌*◌}
use Rattle.boss_slots.specs.Bits.{IsClearBelow}
use Rattle.boss_slots.proofs.bits.first_bit.Given as goal

-- no bit of the words seen so far is set
abbrev pub invariant-loop-place : goal.invariant-loop-place
invariant-loop-place l = IsClearBelow l.words (64 * l.place)
