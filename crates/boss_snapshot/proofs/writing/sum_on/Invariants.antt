use Rattle.std.proofs.Common.{◌≡◌, ◌-◌, ◌≤◌, take, drop}
use Rattle.boss_seal.specs.Taken.{Took}
use Rattle.boss_snapshot.proofs.writing.sum_on.Given as goal

abbrev pub invariant-loop-done : goal.invariant-loop-done
invariant-loop-done g l = record {
  within : l.done ≤ l.count;
  took : g.D.Disk.tells → Took l.summing l.seed 65 (take l.done (drop 73 (g.D.Disk.reads l.initial.disk)));
  reads : g.D.Disk.tells → g.D.Disk.reads l.disk ≡ g.D.Disk.reads l.initial.disk;
  windows : g.D.Disk.tells → g.D.Disk.story l.disk ≡ g.D.Disk.story l.initial.disk;
  faults : g.D.Disk.faults l.disk ≡ g.D.Disk.faults l.initial.disk;
}

abbrev pub decreases-loop-done : goal.decreases-loop-done
decreases-loop-done g l = l.count - l.done
