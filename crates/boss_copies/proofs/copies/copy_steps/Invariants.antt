use Rattle.std.proofs.Common.{◌≡◌, ◌≤◌, length, take, vec_capacity}
use Rattle.boss_copies.proofs.copies.copy_steps.Given as goal

abbrev pub invariant-loop-step : goal.invariant-loop-step
invariant-loop-step l = record {
  copied : l.copy.items ≡ take l.step-index l.steps;
  room : length l.steps ≤ vec_capacity l.copy;
}
