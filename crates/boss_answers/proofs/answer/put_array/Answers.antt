use Rattle.std.proofs.Common.{codes, sym, arith, rules}
use Rattle.std.proofs.lemmas.Int.{to_z-of_z}
use mir.Val.{SFits}
use mir.Syntax.{w64}
use Rattle.boss_answers.proofs.Puts.{puts, puts_both, puts_keyed, puts_within}
use Rattle.boss_answers.proofs.answer.put_array.Goals as goal

pub returns : goal.returns
returns c =
    let fits : SFits w64 c.default_of.result = search rules in
    let signed = simp to_z-of_z at c.write_signed.ensures in
    let value = puts_keyed (codes ",\"default\":") _ c.write_point.ensures signed in
    let slots = puts_both (puts_both value (puts c.extend.ensures)) c.write_slots.ensures in
    rw (sym c.default_of.ensures) (puts_within (puts_both slots (puts c.extend-2.ensures)) (omega arith))
