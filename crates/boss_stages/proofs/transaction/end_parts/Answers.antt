use Rattle.std.proofs.Common.{set, ap, sym, ◌∙◌, arith}
use Rattle.std.proofs.lemmas.List.Edits.{map_over_more}
use Rattle.boss_stages.specs.Stages.{ended_on}
use Rattle.boss_stages.proofs.transaction.end_parts.Goals as goal

pub loop-part-preserved : goal.loop-part-preserved
loop-part-preserved c =
    let ended = ended_on c.args.point (record { cause = c.args.cause.now; at = c.args.at }) in
    ap (set c.loop-part.parts c.loop-part.part-index) c.end_if_on.ensures
    ∙ (ap (λ part. set c.loop-part.parts c.loop-part.part-index (ended part)) (sym c.part-item.is)
    ∙ map_over_more ended c.args.parts.now c.loop-part.parts c.loop-part.part-index c.part-item.result (omega arith) c.loop-part.invariant c.part-item.is)
