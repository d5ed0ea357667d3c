use Rattle.std.proofs.Common.{◌≡◌, ◌+◌, drop}
use Rattle.boss_array.specs.Array.{first_lease}
use Rattle.boss_array.proofs.array.highest_lease.Given as goal

-- none of the slots seen so far has one
abbrev pub invariant-loop-place : goal.invariant-loop-place
invariant-loop-place l = first_lease (l.place + 1) (drop l.place l.slots) ≡ first_lease 1 l.slots
