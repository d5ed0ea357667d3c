use Rattle.std.proofs.Common.{◌≡◌, None, replicate, vec_capacity}
use Rattle.boss_slots.proofs.making.no_pending.Given as goal

abbrev pub invariant-loop-slot : goal.invariant-loop-slot
invariant-loop-slot l = record {
  items : l.pending.items ≡ replicate l._slot None;
  room : vec_capacity l.pending ≡ l.slots;
}
