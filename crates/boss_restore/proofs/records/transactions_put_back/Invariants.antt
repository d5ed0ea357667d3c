use Rattle.std.proofs.Common.{◌≡◌, ◌+◌, ◌≤◌, [], map, take}
use Rattle.boss_model.specs.Limits.{done_kept}
use Rattle.boss_model.specs.Seen.{seen_txn}
use Rattle.boss_restore.specs.Restoring.{tracked}
use Rattle.boss_restore.proofs.records.transactions_put_back.Given as goal

abbrev pub invariant-loop-kept : goal.invariant-loop-kept
invariant-loop-kept l = record {
  put_back : l.stages.kept ≡ map (tracked l.holdings.pending) (map seen_txn (take l.kept-index l.txns));
  done : l.stages.done ≡ [];
  room : l.holdings.points + done_kept ≤ l.stages.room;
}
