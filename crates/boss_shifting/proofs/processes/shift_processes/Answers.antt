use Rattle.std.proofs.Common.{ap, sym, ◌∙◌, arith}
use Rattle.boss_model.specs.Seen.{seen_process}
use Rattle.law_shift.specs.Shifted.{shifted_process}
use Rattle.boss_shifting.proofs.Over.{seen_over_more}
use Rattle.boss_shifting.proofs.processes.shift_processes.Goals as goal

pub loop-process-preserved : goal.loop-process-preserved
loop-process-preserved c =
    let at = c.loop-process.process-index in
    seen_over_more seen_process (shifted_process c.args.by) c.args.processes.now c.loop-process.processes at c.process-item.result c.shift_process.new.process (omega arith) (omega arith) c.loop-process.invariant c.process-item.is
    (c.shift_process.ensures ∙ ap (λ item. shifted_process c.args.by (seen_process item)) (sym c.process-item.is))
