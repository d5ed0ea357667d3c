use Rattle.std.proofs.Common.{◌≡◌, ◌≤◌, length, map, take, vec_capacity}
use Rattle.boss_model.specs.Seen.{seen_txn}
use Rattle.boss_stages.specs.Entries.{all_kept}
use Rattle.boss_stages.proofs.list.keep_all.Given as goal

abbrev pub invariant-loop-place : goal.invariant-loop-place
invariant-loop-place l = record {
  kept : map seen_txn l.kept.items ≡ map (λ one. one.transaction) (all_kept (take l.place l.entries.items));
  few : length l.kept.items ≤ l.place;
  room : length l.entries.items ≤ vec_capacity l.kept;
}
