use Rattle.std.proofs.Common.{arith}
use Rattle.boss_answers.proofs.Puts.{puts, puts_both, puts_within}
use Rattle.boss_answers.proofs.notice.put_ended.Goals as goal

pub returns : goal.returns
returns c =
    let point = puts_both c.write_point.ensures (puts c.extend.ensures) in
    puts_within (puts_both point c.write_cause.ensures) (omega arith)
