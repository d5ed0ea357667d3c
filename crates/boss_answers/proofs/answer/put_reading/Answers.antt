use Rattle.std.proofs.Common.{codes, sym, arith, rules}
use Rattle.std.proofs.lemmas.Int.{to_z-of_z}
use mir.Val.{SFits}
use mir.Syntax.{w64}
use Rattle.boss_answers.proofs.Puts.{puts, puts_both, puts_keyed, puts_within}
use Rattle.boss_answers.proofs.answer.put_reading.Goals as goal

pub returns : goal.returns
returns c =
    let fits : SFits w64 c.args.value = search rules in
    let signed = simp to_z-of_z at c.write_signed.ensures in
    let value = puts_keyed (codes ",\"value\":") _ c.write_point.ensures signed in
    let basis = puts_both (puts_both value (puts c.extend.ensures)) c.write_basis.ensures in
    let mark = puts_both (puts_both basis (puts c.extend-2.ensures)) (puts c.extend-3.ensures) in
    let took = simp to_z-of_z at c.put_took.ensures in
    let device = puts_both (puts_both mark c.put_differed.ensures) took in
    rw (sym c.mark_name.ensures.text) (puts_within (puts_both device (puts c.push.ensures)) (omega (arith, c.mark_name.ensures.short)))
