use Rattle.std.proofs.Common.{◌≡◌, ◌-◌, ◌≤◌, take, drop, vec_capacity}
use Rattle.boss_notices.proofs.ring.Ring.copy.Given as goal

abbrev pub invariant-loop-index : goal.invariant-loop-index
invariant-loop-index l = record {
  copied : l.into.items ≡ take (l.index - l.place) (drop l.place l.self.kept);
  room : l.count ≤ vec_capacity l.into;
  same_room : vec_capacity l.into ≡ vec_capacity l.initial.into;
}
