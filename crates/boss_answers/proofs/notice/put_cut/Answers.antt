use Rattle.std.proofs.Common.{codes, arith}
use Rattle.boss_answers.proofs.Puts.{puts_keyed, puts_within}
use Rattle.boss_answers.proofs.notice.put_cut.Goals as goal

pub returns : goal.returns
returns c =
    puts_within (puts_keyed (codes ",\"by\":") _ c.write_point.ensures c.write_txn.ensures) (omega arith)
