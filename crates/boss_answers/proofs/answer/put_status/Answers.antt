use Rattle.std.proofs.Common.{codes, sym, arith}
use Rattle.boss_answers.proofs.Puts.{puts, puts_both, puts_keyed, puts_within}
use Rattle.boss_answers.proofs.answer.put_status.Goals as goal

pub returns : goal.returns
returns c =
    let owner = puts_keyed (codes ",\"owner\":") _ c.write_txn.ensures c.write_quoted.ensures in
    let stage = puts_both (puts_both owner (puts c.extend.ensures)) (puts c.extend-2.ensures) in
    let live = puts_keyed (codes ",\"live\":") _ stage c.write_number.ensures in
    let pending = puts_keyed (codes ",\"pending\":") _ live c.write_number-2.ensures in
    rw (sym c.stage_name.ensures.text) (puts_within (puts_both pending (puts c.push.ensures)) (omega (arith, c.stage_name.ensures.short)))
