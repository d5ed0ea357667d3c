use Rattle.std.proofs.Common.{set, ap, sym, ◌∙◌, arith}
use Rattle.std.proofs.lemmas.List.Edits.{map_over_more}
use Rattle.law_shift.specs.Shifted.{shifted_pending}
use Rattle.boss_shifting.proofs.slots.shift_pending.Goals as goal

pub loop-reversion-preserved : goal.loop-reversion-preserved
loop-reversion-preserved c =
    let at = c.loop-reversion.reversion-index in
    ap (set c.loop-reversion.pending at) c.shift_reversion.ensures
    ∙ (ap (λ item. set c.loop-reversion.pending at (shifted_pending c.args.by item)) (sym c.reversion-item.is)
    ∙ map_over_more (shifted_pending c.args.by) c.args.pending.now c.loop-reversion.pending at c.reversion-item.result (omega arith) c.loop-reversion.invariant c.reversion-item.is)
