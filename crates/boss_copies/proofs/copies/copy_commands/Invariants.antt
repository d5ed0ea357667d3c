use Rattle.std.proofs.Common.{◌≡◌, ◌≤◌, length, take, vec_capacity}
use Rattle.boss_copies.proofs.copies.copy_commands.Given as goal

abbrev pub invariant-loop-call : goal.invariant-loop-call
invariant-loop-call l = record {
  copied : l.copy.items ≡ take l.call-index l.calls;
  room : length l.calls ≤ vec_capacity l.copy;
}
