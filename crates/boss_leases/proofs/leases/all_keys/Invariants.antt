use Rattle.std.proofs.Common.{◌≡◌, ℕ, ◌-◌, nat_lt, nat_le, ◌&&◌, if◌then◌else◌, vec_capacity, length}
use Rattle.boss_leases.specs.Leases.{how_often}
use Rattle.boss_leases.proofs.leases.all_keys.Given as goal

-- the keys so far are the greatest ones
abbrev pub invariant-loop-place : goal.invariant-loop-place
invariant-loop-place l = record {
  keys : (key : ℕ) → how_often key l.keys.items ≡ (if nat_lt key l.capacity && nat_le (l.capacity - l.place) key then 1 else 0);
  number : length l.keys.items ≡ l.place;
  room : vec_capacity l.keys ≡ l.capacity;
}
