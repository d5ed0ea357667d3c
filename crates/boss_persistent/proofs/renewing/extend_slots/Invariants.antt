use Rattle.std.proofs.Common.{◌≡◌, map, take}
use Rattle.boss_model.specs.Renew.{extended_if}
use Rattle.boss_holdings.specs.Held.{in_slots}
use Rattle.boss_persistent.specs.Meant.{some_shorter}
use Rattle.boss_persistent.proofs.renewing.extend_slots.Given as goal

-- the leases in the slots so far are extended
abbrev pub invariant-loop-slot : goal.invariant-loop-slot
invariant-loop-slot l = record {
  leases : l.holdings.leases ≡ map (extended_if (in_slots (take l.slot-index l.slots)) l.until) l.fn.holdings.leases;
  pending : l.holdings.pending ≡ l.fn.holdings.pending;
  now : l.holdings.now ≡ l.fn.holdings.now;
  points : l.holdings.points ≡ l.fn.holdings.points;
  touched : l.holdings.touched ≡ l.fn.holdings.touched;
  longer : l.longer ≡ some_shorter (take l.slot-index l.slots) l.until l.fn.holdings.leases;
}
