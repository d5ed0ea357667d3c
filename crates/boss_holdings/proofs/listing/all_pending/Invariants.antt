use Rattle.std.proofs.Common.{◌≡◌}
use Rattle.boss_slots.specs.Slots.{all}
use Rattle.boss_slots.specs.Tables.{pending_at}
use Rattle.boss_holdings.proofs.listing.all_pending.Given as goal

-- the points seen so far are listed
abbrev pub invariant-loop-point : goal.invariant-loop-point
invariant-loop-point l = l.pending.items ≡ all (pending_at l.tables) l.point
