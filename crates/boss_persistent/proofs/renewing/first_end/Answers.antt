use Rattle.std.proofs.Common.{◌≡◌, ◌+◌, drop, min, Some, ap, sym, ◌∙◌}
use Rattle.std.specs.Option.{option_map_or}
use Rattle.law_records.specs.Slots.{soonest}
use Rattle.boss_persistent.specs.Meant.{untils_in}
use Rattle.boss_persistent.proofs.Untils.{earlier_of, slot-taken, slot-free}
use Rattle.boss_persistent.proofs.renewing.first_end.Goals as goal
use Rattle.boss_persistent.proofs.renewing.first_end.Goals.{in-Some, in_default}

pub loop-slot-preserved : goal.loop-slot-preserved
loop-slot-preserved c =
    let leases = c.args.holdings.now.leases in
    let slots = c.args.slots.now in
    let i = c.loop-slot.slot-index in
    let slot = c.slot-item.result in
    let rest = soonest (untils_in leases (drop (i + 1) slots)) in
    elim c.match-lease_at.branch [
      | in-Some w ↦
          let lease = w.in-Some.lease.now in
          let first : c.match-lease_at.first ≡ Some (option_map_or (λ moment. min moment lease.until) c.loop-slot.first lease.until) = w.first-is ∙ ap Some w.earlier.ensures in
          c.loop-slot.invariant
          ∙ (slot-taken leases slots i slot c.loop-slot-test.true c.slot-item.is c.loop-slot.first lease (sym w.in-Some.ensures) ∙ ap (λ now. earlier_of now rest) (sym first))
      | in_default w ↦
          c.loop-slot.invariant
          ∙ (slot-free leases slots i slot c.loop-slot-test.true c.slot-item.is c.loop-slot.first (sym w.in_default.ensures) ∙ ap (λ now. earlier_of now rest) (sym w.first-is))
    ]
