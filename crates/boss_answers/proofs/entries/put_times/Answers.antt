use Rattle.std.proofs.Common.{codes, arith, rules}
use Rattle.std.proofs.lemmas.Int.{to_z-of_z}
use mir.Val.{SFits}
use mir.Syntax.{w64}
use Rattle.boss_answers.proofs.Puts.{puts_keyed, puts_within}
use Rattle.boss_answers.proofs.entries.put_times.Goals as goal

pub returns : goal.returns
returns c =
    let least : SFits w64 c.args.on = search rules in
    let most : SFits w64 c.args.off = search rules in
    let on = simp to_z-of_z at c.write_signed.ensures in
    let off = simp to_z-of_z at c.write_signed-2.ensures in
    puts_within (puts_keyed (codes ",\"min_off\":") _ on off) (omega arith)
