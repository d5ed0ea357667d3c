use Rattle.std.proofs.Common.{◌≡◌, ℕ, ◌<◌, ◌≤◌, get_or, None}
use Rattle.boss_disk.specs.Picked.{picked}
use Rattle.boss_disk.proofs.image.pick_bytes.Given as goal

abbrev pub invariant-loop-place : goal.invariant-loop-place
invariant-loop-place l = record {
  done : (k : ℕ) → k < l.place → get_or l.bytes k 0 ≡ picked l.pick k (get_or l.stays k None) (get_or l.initial.bytes k 0);
  rest : (k : ℕ) → l.place ≤ k → get_or l.bytes k 0 ≡ get_or l.initial.bytes k 0;
}
