use Rattle.std.proofs.Common.{set, ap, sym, ◌∙◌, arith}
use Rattle.std.proofs.lemmas.List.Edits.{map_over_more}
use Rattle.law_shift.specs.Shifted.{shifted_lease}
use Rattle.boss_shifting.proofs.slots.shift_leases.Goals as goal

pub loop-lease-preserved : goal.loop-lease-preserved
loop-lease-preserved c =
    let at = c.loop-lease.lease-index in
    ap (set c.loop-lease.leases at) c.shift_lease.ensures
    ∙ (ap (λ item. set c.loop-lease.leases at (shifted_lease c.args.by item)) (sym c.lease-item.is)
    ∙ map_over_more (shifted_lease c.args.by) c.args.leases.now c.loop-lease.leases at c.lease-item.result (omega arith) c.loop-lease.invariant c.lease-item.is)
