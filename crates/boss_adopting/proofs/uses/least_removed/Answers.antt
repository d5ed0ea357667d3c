use Rattle.std.proofs.Common.{ap₂, sym, ◌∙◌, arith}
use Rattle.boss_model.specs.declared.kept.KeptPart.{KeptPart}
use Rattle.boss_adopting.specs.Least.{lesser_of}
use Rattle.boss_adopting.specs.Places.{places_of}
use Rattle.boss_adopting.proofs.Used.{removed-more}
use Rattle.boss_adopting.proofs.uses.least_removed.Goals as goal

pub loop-part-preserved : goal.loop-part-preserved
loop-part-preserved c =
    c.lesser_of-found.ensures ∙ ap₂ lesser_of c.loop-part.invariant c.unless_staying.ensures
    ∙ sym (removed-more (places_of c.args.numbering.now) (λ (part : KeptPart). part.point) c.args.parts.now c.loop-part.part-index c.part-item.result (omega arith) c.part-item.is)
