use Rattle.std.proofs.Common.{arith}
use Rattle.boss_answers.proofs.Puts.{puts, puts_both, puts_within}
use Rattle.boss_answers.proofs.refusal.put_already.Goals as goal

pub returns : goal.returns
returns c =
    puts_within (puts_both c.write_quoted.ensures (puts c.push.ensures)) (omega arith)
