use Rattle.std.proofs.Common.{◌≡◌, ◌≤◌, length, take, vec_capacity}
use Rattle.boss_copies.proofs.copies.copy_writes.Given as goal

abbrev pub invariant-loop-setting : goal.invariant-loop-setting
invariant-loop-setting l = record {
  copied : l.copy.items ≡ take l.setting-index l.settings;
  room : length l.settings ≤ vec_capacity l.copy;
}
