use Rattle.std.proofs.Common.{refl}
use Rattle.boss_slots.proofs.Words.{first-in, first-of-all}
use Rattle.boss_slots.proofs.bits.first_bit.Goals as goal

pub returns-then-word-ne0-clause-some : goal.returns-then-word-ne0-clause-some
returns-then-word-ne0-clause-some c =
    let word = c.loop-place.place in
    let bit = c.first_of.ensures in
    first-of-all c.args.words.now word _ c.loop-place.invariant (first-in c.args.words.now word c.first_of.result _ refl bit.within bit.is bit.first)
