use Rattle.std.proofs.Common.{◌≡◌, count_by, vec_capacity}
use Rattle.boss_slots.specs.Ending.{IsPassable, IsPassing, is_due}
use Rattle.boss_holdings.proofs.passing.pass_to.Given as goal

-- what was taken up so far
abbrev pub invariant-loop-slot : goal.invariant-loop-slot
invariant-loop-slot l = record {
  passable : IsPassable l.n l.last l.tables l.told.items (vec_capacity l.told) l.touched;
  passing : IsPassing l.n l.now l.last l.initial.tables l.tables l.initial.told.items l.told.items l.initial.touched l.touched;
  room : vec_capacity l.told ≡ vec_capacity l.initial.told;
}

-- a timer less goes off by n
abbrev pub decreases-loop-slot : goal.decreases-loop-slot
decreases-loop-slot l = count_by (is_due l.n) l.tables.timers
