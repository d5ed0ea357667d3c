use Rattle.std.proofs.Common.{set, ap, sym, ◌∙◌, arith}
use Rattle.std.proofs.lemmas.List.Edits.{map_over_more}
use Rattle.law_shift.specs.Shifted.{shifted_notice}
use Rattle.boss_shifting.proofs.processes.shift_notices.Goals as goal

pub loop-notice-preserved : goal.loop-notice-preserved
loop-notice-preserved c =
    let at = c.loop-notice.notice-index in
    ap (set c.loop-notice.notices at) c.shift_notice.ensures
    ∙ (ap (λ item. set c.loop-notice.notices at (shifted_notice c.args.by item)) (sym c.notice-item.is)
    ∙ map_over_more (shifted_notice c.args.by) c.args.notices.now c.loop-notice.notices at c.notice-item.result (omega arith) c.loop-notice.invariant c.notice-item.is)
