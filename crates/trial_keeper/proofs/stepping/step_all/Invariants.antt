use Rattle.std.proofs.Common.{◌≡◌, length, vec_capacity}
use Rattle.boss_memory_keeper.proofs.Steps.{HasDone}
use Rattle.trial_keeper.proofs.stepping.step_all.Given as goal

abbrev pub invariant-loop-call : goal.invariant-loop-call
invariant-loop-call l = record {
  plant : l.unkept.engine.plant ≡ l.fn.unkept.engine.plant;
  done : HasDone l.fn.unkept.engine.plant l.session l.commands l.answers.items l.fn.unkept.engine.state l.unkept.engine.state;
  many : length l.answers.items ≡ l.call-index;
  count : l.done ≡ l.call-index;
  room : vec_capacity l.answers ≡ vec_capacity l.fn.answers;
}
