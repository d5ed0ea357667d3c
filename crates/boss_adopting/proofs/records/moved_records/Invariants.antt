use Rattle.std.proofs.Common.{◌≡◌, map, take}
use Rattle.boss_model.specs.Seen.{seen_txn}
use Rattle.law_adoption.specs.Adopted.{moved_txn, staying}
use Rattle.boss_adopting.specs.Places.{places_of}
use Rattle.boss_adopting.proofs.records.moved_records.Given as goal

abbrev pub invariant-loop-transaction : goal.invariant-loop-transaction
invariant-loop-transaction l =
    map seen_txn l.moved.items ≡ map (moved_txn (places_of l.numbering)) (staying (places_of l.numbering) (map seen_txn (take l.transaction-index l.txns)))
