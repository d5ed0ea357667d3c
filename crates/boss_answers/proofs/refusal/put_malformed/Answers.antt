use Rattle.std.proofs.Common.{arith}
use Rattle.boss_answers.proofs.Puts.{puts, puts_both, puts_within}
use Rattle.boss_answers.proofs.refusal.put_malformed.Goals as goal

pub returns : goal.returns
returns c =
    let spot = puts_both (puts_both (puts c.extend.ensures) c.write_spot.ensures) (puts c.push.ensures) in
    puts_within (puts_both spot (puts c.push-2.ensures)) (omega arith)
