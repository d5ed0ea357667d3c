use Rattle.std.proofs.Common.{◌≡◌, ◌≤◌, length, map, take, vec_capacity}
use Rattle.boss_model.specs.Seen.{seen_process}
use Rattle.boss_persistent.proofs.kept.kept_processes.Given as goal

abbrev pub invariant-loop-place : goal.invariant-loop-place
invariant-loop-place l = record {
  kept : map seen_process l.kept.items ≡ take l.place l.processes;
  room : length l.processes ≤ vec_capacity l.kept;
}
