use Rattle.std.proofs.Common.{◌≡◌, ◌+◌, ◌-◌, ◌≤◌, List, length}
use Rattle.boss_feeding.specs.Telling.{AreSpelled}
use Rattle.boss_feeding.proofs.Batches.{Left, Told}
use Rattle.boss_model.specs.declared.event.Event.{Event}
use Rattle.def_bytes.specs.Batches.{batch_text}
use Rattle.boss_feeding.proofs.records.tell_record.Given as goal

abbrev pub invariant-loop-place : goal.invariant-loop-place
invariant-loop-place g l = record {
  within : l.place ≤ length l.bytes;
  few : l.number ≤ l.before + l.place;
  sink : g.K.Sink.faults l.sink ≡ g.K.Sink.faults l.initial.sink;
  counted : (batch : List Event) → AreSpelled batch → l.bytes ≡ batch_text batch → Left l.before batch l.bytes l.place l.number;
  told : g.K.Sink.tells → (batch : List Event) → AreSpelled batch → l.bytes ≡ batch_text batch →
      Told l.before batch l.bytes l.from (g.K.Sink.taken l.initial.sink) (g.K.Sink.taken l.sink) l.place l.number;
}

abbrev pub decreases-loop-place : goal.decreases-loop-place
decreases-loop-place g l = length l.bytes - l.place
