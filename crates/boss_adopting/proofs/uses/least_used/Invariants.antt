use Rattle.std.proofs.Common.{◌≡◌, map, take}
use Rattle.boss_model.specs.Seen.{seen_txn}
use Rattle.boss_adopting.specs.Least.{least_used}
use Rattle.boss_adopting.specs.Places.{places_of}
use Rattle.boss_adopting.proofs.uses.least_used.Given as goal

abbrev pub invariant-loop-transaction : goal.invariant-loop-transaction
invariant-loop-transaction l = l.found ≡ least_used (places_of l.numbering) l.done (map seen_txn (take l.transaction-index l.txns))
