use Rattle.std.proofs.Common.{codes, arith, rules}
use Rattle.std.proofs.lemmas.Int.{to_z-of_z}
use mir.Val.{SFits}
use mir.Syntax.{w64}
use Rattle.boss_answers.proofs.Puts.{puts, puts_both, puts_keyed, puts_within}
use Rattle.boss_answers.proofs.answer.put_want.Goals as goal

pub returns : goal.returns
returns c =
    let fits : SFits w64 c.args.value = search rules in
    let signed = simp to_z-of_z at c.write_signed.ensures in
    let version = puts_keyed (codes ",\"version\":") _ c.write_point.ensures c.write_number.ensures in
    let value = puts_keyed (codes ",\"value\":") _ version signed in
    puts_within (puts_both value (puts c.push.ensures)) (omega arith)
