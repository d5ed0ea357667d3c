use Rattle.std.proofs.Common.{◌≡◌, ◌+◌, ◌-◌, ◌^◌, ◌≤◌, false}
use Rattle.boss_model.specs.Sound.{IsSound}
use Rattle.boss_opening.specs.Reading.{IsReadOn, ReadsOn}
use Rattle.boss_opening.proofs.reading.read_all.Given as goal

abbrev pub invariant-loop-more : goal.invariant-loop-more
invariant-loop-more g l = record {
  read : ReadsOn l.initial.pair l.pair l.initial.engine.plant l.initial.engine.state.persistent l.events l.engine.state.persistent;
  all_else : IsReadOn l.initial.pair l.pair;
  far : l.initial.pair.journal.place + l.events ≤ l.pair.journal.place;
  same : l.engine.plant ≡ l.initial.engine.plant;
  sound : IsSound l.engine.plant l.engine.state;
  room : l.buffer.capacity ≡ l.initial.buffer.capacity;
  going : l.pair.stopped ≡ false;
  faults : g.D.Disk.faults l.pair.journal.disk ≡ g.D.Disk.faults l.initial.pair.journal.disk;
}

abbrev pub decreases-loop-more : goal.decreases-loop-more
decreases-loop-more g l = 2 ^ 62 - l.pair.journal.place
