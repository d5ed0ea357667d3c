use Rattle.std.proofs.Common.{◌≡◌, map, take}
use Rattle.boss_model.specs.Seen.{seen_part}
use Rattle.boss_restore.specs.Restoring.{reverting_points}
use Rattle.boss_restore.proofs.records.reverting_points.Given as goal

abbrev pub invariant-loop-part : goal.invariant-loop-part
invariant-loop-part l = l.points.items ≡ reverting_points l.holdings.pending l.txn (map seen_part (take l.part-index l.parts))
