use Rattle.std.proofs.Common.{codes, arith}
use Rattle.boss_answers.proofs.Puts.{puts, puts_both, puts_keyed, puts_within}
use Rattle.boss_answers.proofs.refusal.write_denied.Goals as goal

pub returns : goal.returns
returns c =
    let index = rw c.from.ensures at c.write_number.ensures in
    let rule = rw c.from-2.ensures at c.write_number-2.ensures in
    puts_within (puts_both (puts_keyed (codes ",\"rule\":") _ index rule) (puts c.push.ensures)) (omega arith)
