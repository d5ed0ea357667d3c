use Rattle.std.proofs.Common.{◌≡◌, ◌-◌, ◌≤◌, List, ℕ, drop}
use Rattle.boss_feeding.specs.Held.{HasText}
use Rattle.boss_feeding.proofs.Items.{parts_text}
use Rattle.boss_feeding.proofs.Writing.{SoFar}
use Rattle.boss_feeding.proofs.texts.tell_text.Given as goal

abbrev pub invariant-loop-done : goal.invariant-loop-done
invariant-loop-done g l = record {
  within : l.done ≤ l.size;
  reads : g.D.Disk.tells → g.D.Disk.reads l.disk ≡ g.D.Disk.reads l.initial.disk;
  windows : g.D.Disk.tells → g.D.Disk.story l.disk ≡ g.D.Disk.story l.initial.disk;
  faults : g.D.Disk.faults l.disk ≡ g.D.Disk.faults l.initial.disk;
  sink : g.K.Sink.faults l.sink ≡ g.K.Sink.faults l.initial.sink;
  told : g.D.Disk.tells → g.K.Sink.tells → (text : List ℕ) → HasText l.place l.size text (g.D.Disk.reads l.initial.disk) →
      SoFar (g.K.Sink.taken l.initial.sink) (g.K.Sink.taken l.sink) (parts_text text) (parts_text (drop l.done text));
}

abbrev pub decreases-loop-done : goal.decreases-loop-done
decreases-loop-done g l = l.size - l.done
