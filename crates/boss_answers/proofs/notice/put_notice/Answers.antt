use Rattle.std.proofs.Common.{codes, arith}
use Rattle.boss_answers.proofs.Puts.{puts, puts_both, puts_keyed, puts_within}
use Rattle.boss_answers.proofs.notice.put_notice.Goals as goal

pub returns : goal.returns
returns c =
    let at = puts_keyed (codes ",\"at\":") _ c.write_number.ensures c.write_number-2.ensures in
    let txn = puts_keyed (codes ",\"txn\":") _ at c.write_txn.ensures in
    let what = puts_both (puts_both txn (puts c.extend.ensures)) c.put_what.ensures in
    puts_within (puts_both what (puts c.push.ensures)) (omega arith)
