use Rattle.std.proofs.Common.{arith}
use Rattle.boss_answers.proofs.Puts.{puts_both, puts_within}
use Rattle.boss_answers.proofs.entries.put_first.Goals as goal

pub returns : goal.returns
returns c = puts_within (puts_both (puts_both c.put_head.ensures c.put_drivers.ensures) c.put_list.ensures) (omega (arith, c.requires.few))
