use Rattle.std.proofs.Common.{ap, sym, ◌∙◌, arith}
use Rattle.boss_model.specs.Seen.{seen_part}
use Rattle.law_shift.specs.Shifted.{shifted_part}
use Rattle.boss_shifting.proofs.Over.{seen_over_more}
use Rattle.boss_shifting.proofs.records.shift_parts.Goals as goal

pub loop-part-preserved : goal.loop-part-preserved
loop-part-preserved c =
    let at = c.loop-part.part-index in
    seen_over_more seen_part (shifted_part c.args.by) c.args.parts.now c.loop-part.parts at c.part-item.result c.shift_part.new.part (omega arith) (omega arith) c.loop-part.invariant c.part-item.is
    (c.shift_part.ensures ∙ ap (λ item. shifted_part c.args.by (seen_part item)) (sym c.part-item.is))
