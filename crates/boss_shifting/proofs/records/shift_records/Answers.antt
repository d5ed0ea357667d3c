use Rattle.std.proofs.Common.{ap, sym, ◌∙◌, arith}
use Rattle.boss_model.specs.Seen.{seen_txn}
use Rattle.law_shift.specs.Shifted.{shifted_txn}
use Rattle.boss_shifting.proofs.Over.{seen_over_more}
use Rattle.boss_shifting.proofs.records.shift_records.Goals as goal

pub loop-transaction-preserved : goal.loop-transaction-preserved
loop-transaction-preserved c =
    let at = c.loop-transaction.transaction-index in
    seen_over_more seen_txn (shifted_txn c.args.by) c.args.txns.now c.loop-transaction.txns at c.transaction-item.result c.shift_record.new.transaction (omega arith) (omega arith) c.loop-transaction.invariant c.transaction-item.is
    (c.shift_record.ensures ∙ ap (λ item. shifted_txn c.args.by (seen_txn item)) (sym c.transaction-item.is))
