use Rattle.std.proofs.Common.{◌≡◌, ◌+◌, length, min, vec_capacity}
use Rattle.boss_model.specs.Limits.{last_number}
use Rattle.def_history.specs.History.{events}
use Rattle.def_history.specs.Made.{done_by}
use Rattle.boss_memory_keeper.proofs.Steps.{HasDone}
use Rattle.boss_memory_keeper.proofs.stepping.step_all.Given as goal

abbrev pub invariant-loop-call : goal.invariant-loop-call
invariant-loop-call l = record {
  plant : l.engine.plant ≡ l.fn.engine.plant;
  done : HasDone l.fn.engine.plant l.session l.commands l.answers.items l.fn.engine.state l.engine.state;
  count : l.count ≡ min (l.fn.count + length (events l.fn.engine.plant (done_by l.session l.commands l.answers.items) l.fn.engine.state)) last_number;
  many : length l.answers.items ≡ l.call-index;
  number : l.done ≡ l.call-index;
  room : vec_capacity l.answers ≡ vec_capacity l.fn.answers;
}
