use Rattle.std.proofs.Common.{◌≡◌, ℕ, ◌<◌, None, get_or, vec_capacity}
use Rattle.boss_slots.specs.Ending.{IsOrderly}
use Rattle.boss_holdings.specs.Held.{first_place, in_slots}
use Rattle.boss_slots.specs.Tables.{lease_at}
use Rattle.boss_holdings.proofs.ending.end_slots.Given as goal

-- the slots seen so far have no lease
abbrev pub invariant-loop-slot : goal.invariant-loop-slot
invariant-loop-slot l = record {
  orderly : IsOrderly (in_slots l.slots) l.cause l.n l.initial.tables l.tables l.initial.told.items l.told.items (vec_capacity l.told) l.initial.touched l.touched;
  gone : (k : ℕ) → k < l.slot-index → lease_at l.tables (get_or l.slots k first_place).point (get_or l.slots k first_place).priority ≡ None;
  room : vec_capacity l.told ≡ vec_capacity l.initial.told;
}
