use Rattle.std.proofs.Common.{◌≡◌, drop}
use Rattle.law_records.specs.Slots.{soonest}
use Rattle.boss_persistent.specs.Meant.{untils_in}
use Rattle.boss_persistent.proofs.Untils.{earlier_of}
use Rattle.boss_persistent.proofs.renewing.first_end.Given as goal

-- the first moment of those so far, and those that are left
abbrev pub invariant-loop-slot : goal.invariant-loop-slot
invariant-loop-slot l =
    soonest (untils_in l.holdings.leases l.slots) ≡ earlier_of l.first (soonest (untils_in l.holdings.leases (drop l.slot-index l.slots)))
