use Rattle.std.proofs.Common.{arith}
use Rattle.boss_answers.proofs.Puts.{puts, puts_both, puts_within}
use Rattle.boss_answers.proofs.entries.put_head.Goals as goal

pub returns : goal.returns
returns c = puts_within (puts_both (puts c.extend.ensures) c.write_digest.ensures) (omega arith)
