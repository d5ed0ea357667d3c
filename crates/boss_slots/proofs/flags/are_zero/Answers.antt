use Rattle.std.proofs.Common.{arith}
use Rattle.boss_slots.proofs.Flagged.{none-filled, some-bit}
use Rattle.boss_slots.proofs.flags.are_zero.Goals as goal

pub returns-in-None-clause-zero : goal.returns-in-None-clause-zero
returns-in-None-clause-zero c = λ _. none-filled c.args.words.now c.args.filled.now c.requires.filled c.in-None.ensures.none

pub returns-in-Some-clause-set : goal.returns-in-Some-clause-set
returns-in-Some-clause-set c = λ _.
    some-bit c.args.words.now c.args.filled.now c.in-Some.field-0 c.requires.filled (omega (arith, c.type_inv.words c.in-Some.field-0)) c.in-Some.ensures.some.is
