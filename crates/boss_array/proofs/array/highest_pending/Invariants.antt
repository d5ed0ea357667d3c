use Rattle.std.proofs.Common.{◌≡◌, ◌+◌, drop}
use Rattle.boss_array.specs.Array.{first_pending}
use Rattle.boss_array.proofs.array.highest_pending.Given as goal

-- none of the slots seen so far has one
abbrev pub invariant-loop-place : goal.invariant-loop-place
invariant-loop-place l = first_pending (l.place + 1) (drop l.place l.slots) ≡ first_pending 1 l.slots
