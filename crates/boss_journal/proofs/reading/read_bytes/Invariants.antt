use Rattle.std.proofs.Common.{◌≡◌, ◌+◌, ◌-◌, ◌≤◌, ◌++◌, length, take, drop}
use Rattle.boss_journal.proofs.reading.read_bytes.Given as goal

abbrev pub invariant-loop-done : goal.invariant-loop-done
invariant-loop-done g l = record {
  within : l.done ≤ l.count;
  given : g.D.Disk.tells → l.into.bytes ≡ l.initial.into.bytes ++ take l.done (drop l.at (g.D.Disk.reads l.initial.disk));
  size : length l.into.bytes ≡ length l.initial.into.bytes + l.done;
  room : l.into.capacity ≡ l.initial.into.capacity;
  reads : g.D.Disk.tells → g.D.Disk.reads l.disk ≡ g.D.Disk.reads l.initial.disk;
  windows : g.D.Disk.tells → g.D.Disk.story l.disk ≡ g.D.Disk.story l.initial.disk;
  faults : g.D.Disk.faults l.disk ≡ g.D.Disk.faults l.initial.disk;
}

abbrev pub decreases-loop-done : goal.decreases-loop-done
decreases-loop-done g l = l.count - l.done
