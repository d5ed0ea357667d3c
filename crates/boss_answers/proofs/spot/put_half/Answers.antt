use Rattle.std.proofs.Common.{codes, arith}
use Rattle.boss_answers.proofs.Puts.{puts, puts_both, puts_keyed, puts_within}
use Rattle.boss_answers.proofs.spot.put_half.Goals as goal

pub returns : goal.returns
returns c =
    let half = rw c.from.ensures at c.write_number.ensures in
    puts_within (puts_both (puts_keyed (codes "[") _ c.put_step.ensures half) (puts c.push.ensures)) (omega arith)
