use Rattle.std.proofs.Common.{◌≡◌, ◌++◌, map, take, drop}
use Rattle.boss_model.specs.Seen.{seen_txn}
use Rattle.law_shift.specs.Shifted.{shifted_txn}
use Rattle.boss_shifting.proofs.records.shift_records.Given as goal

abbrev pub invariant-loop-transaction : goal.invariant-loop-transaction
invariant-loop-transaction l = map seen_txn l.txns ≡ map (shifted_txn l.by) (take l.transaction-index (map seen_txn l.initial.txns)) ++ drop l.transaction-index (map seen_txn l.initial.txns)
