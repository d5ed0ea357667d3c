use Rattle.std.proofs.Common.{◌≡◌, map, take}
use Rattle.std.specs.List.{filter}
use Rattle.boss_model.specs.Seen.{seen_txn}
use Rattle.boss_model.specs.Sound.{is_kept}
use Rattle.boss_adopting.proofs.records.with_records.Given as goal

abbrev pub invariant-loop-txn : goal.invariant-loop-txn
invariant-loop-txn l = l.left.items ≡ filter (is_kept (map seen_txn l.txns)) (take l.txn-index l.numbers)
