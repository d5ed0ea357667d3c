use Rattle.std.proofs.Common.{codes, arith}
use Rattle.boss_answers.proofs.Puts.{puts, puts_both, puts_keyed, puts_within}
use Rattle.boss_answers.proofs.refusal.put_ended.Goals as goal

pub returns : goal.returns
returns c =
    let cause = puts_both (puts c.extend.ensures) c.write_cause.ensures in
    let at = puts_keyed (codes ",\"at\":") _ cause c.write_number.ensures in
    let moment = puts_keyed (codes ",\"moment\":") _ at c.write_number-2.ensures in
    puts_within (puts_both moment (puts c.push.ensures)) (omega arith)
