use Rattle.std.proofs.Common.{◌≡◌, List, ◌++◌, length, vec_capacity}
use Rattle.boss_model.specs.State.{State}
use Rattle.def_history.specs.declared.entry.Entry.{Entry}
use Rattle.def_history.specs.Made.{done_by}
use Rattle.boss_durable.specs.Taken.{Taken}
use Rattle.boss_durable.proofs.stepping.take_more.Given as goal

abbrev pub invariant-loop-call : goal.invariant-loop-call
invariant-loop-call l = record {
  plant : l.engine.plant ≡ l.fn.engine.plant;
  taken : (made : List Entry) (start : State) → Taken l.fn.engine.plant made start l.fn.engine.state l.fn.batch →
      Taken l.fn.engine.plant (made ++ done_by l.session l.commands l.answers.items) start l.engine.state l.batch;
  many : length l.answers.items ≡ l.call-index;
  capacity : l.batch.bytes.capacity ≡ 65536;
  room : vec_capacity l.answers ≡ vec_capacity l.fn.answers;
}
