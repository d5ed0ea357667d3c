use Rattle.std.proofs.Common.{ℕ, ◌==◌, true, ap, arith}
use Rattle.boss_slots.proofs.Flagged.{flags-set, flags-written, point-below}
use Rattle.boss_slots.proofs.flags.Flags.set.Goals as goal

pub set_bit-requires : goal.set_bit-requires
set_bit-requires c = omega (arith, point-below c.self.inside.count c.self.inside.words.items _ c.point.inside.0 _ c.self.view_is c.point.view_is c.requires, c.self.invariant.enough)

pub invariant_of-self : goal.invariant_of-self
invariant_of-self c =
    let here = c.set_bit.ensures in
    let mark = c.set_bit-2.ensures in
    flags-set c.self.inside.count _ _ _ _ c.point.inside.0 c.self.invariant (point-below c.self.inside.count c.self.inside.words.items _ c.point.inside.0 _ c.self.view_is c.point.view_is c.requires) here.length here.here here.bits here.words mark.length mark.here mark.bits

pub returns : goal.returns
returns c =
    rw (← c.self.view_is, ← c.point.view_is)
    (flags-written c.self.inside.count c.self.inside.words.items _ c.point.inside.0 true (ap (λ (bit : ℕ). bit == 1) c.set_bit.ensures.here) c.set_bit.ensures.bits)
