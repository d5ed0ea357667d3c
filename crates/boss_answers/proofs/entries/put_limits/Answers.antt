use Rattle.std.proofs.Common.{codes, arith, rules}
use Rattle.std.proofs.lemmas.Int.{to_z-of_z}
use mir.Val.{SFits}
use mir.Syntax.{w64}
use Rattle.boss_answers.proofs.Puts.{puts_keyed, puts_within}
use Rattle.boss_answers.proofs.entries.put_limits.Goals as goal

pub returns : goal.returns
returns c =
    let least : SFits w64 c.args.min = search rules in
    let most : SFits w64 c.args.max = search rules in
    let min = simp to_z-of_z at c.write_signed.ensures in
    let max = simp to_z-of_z at c.write_signed-2.ensures in
    puts_within (puts_keyed (codes ",\"max\":") _ min max) (omega arith)
