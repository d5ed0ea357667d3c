use Rattle.std.proofs.Common.{codes, arith}
use Rattle.boss_answers.proofs.Puts.{puts, puts_both, puts_keyed, puts_within}
use Rattle.boss_answers.proofs.answer.put_notices.Goals as goal

pub returns : goal.returns
returns c =
    let next = puts_keyed (codes ",\"next\":") _ c.write_number.ensures c.write_number-2.ensures in
    let list = puts_both (puts_both next (puts c.extend.ensures)) c.write_notices.ensures in
    puts_within (puts_both list (puts c.extend-2.ensures)) (omega arith)
