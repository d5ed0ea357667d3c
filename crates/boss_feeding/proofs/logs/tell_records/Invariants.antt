use Rattle.std.proofs.Common.{◌≡◌, ◌+◌, ◌-◌, ◌^◌, ◌≤◌, List}
use Rattle.boss_feeding.specs.Held.{HasLog}
use Rattle.boss_feeding.proofs.LogSteps.{LeftToTell}
use Rattle.boss_model.specs.declared.event.Event.{Event}
use Rattle.boss_feeding.proofs.logs.tell_records.Given as goal

abbrev pub invariant-loop-more : goal.invariant-loop-more
invariant-loop-more g l = record {
  far : l.number + l.initial.journal.place ≤ l.before + l.journal.place;
  version : l.journal.version ≡ l.initial.journal.version;
  room : l.buffer.capacity ≡ l.initial.buffer.capacity;
  reads : g.D.Disk.tells → g.D.Disk.reads l.journal.disk ≡ g.D.Disk.reads l.initial.journal.disk;
  windows : g.D.Disk.tells → g.D.Disk.story l.journal.disk ≡ g.D.Disk.story l.initial.journal.disk;
  faults : g.D.Disk.faults l.journal.disk ≡ g.D.Disk.faults l.initial.journal.disk;
  sink : g.K.Sink.faults l.sink ≡ g.K.Sink.faults l.initial.sink;
  told : g.D.Disk.tells → g.K.Sink.tells → (events : List Event) → HasLog l.initial.journal.place events (g.D.Disk.reads l.initial.journal.disk) →
      LeftToTell l.from l.before events (g.D.Disk.reads l.initial.journal.disk) (g.K.Sink.taken l.initial.sink) (g.K.Sink.taken l.sink) l.journal.place l.number;
}

abbrev pub decreases-loop-more : goal.decreases-loop-more
decreases-loop-more g l = 2 ^ 62 - l.journal.place
