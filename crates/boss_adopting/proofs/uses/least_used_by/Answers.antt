use Rattle.std.proofs.Common.{map, Some, ap, sym, ◌∙◌}
use Rattle.boss_model.specs.declared.kept.KeptPart.{KeptPart}
use Rattle.boss_adopting.specs.Least.{least_removed}
use Rattle.boss_adopting.specs.Places.{places_of}
use Rattle.boss_adopting.proofs.Used.{used-found, none-used}
use Rattle.boss_adopting.proofs.uses.least_used_by.Goals as goal

pub returns-in-Some : goal.returns-in-Some
returns-in-Some c =
    let to = places_of c.args.numbering.now in
    c.unless_done.ensures
    ∙ sym (used-found to c.args.done.now c.args.transaction.now (Some c.in-Some.point)
    (c.in-Some.ensures ∙ ap (λ ps. least_removed to (map (λ (part : KeptPart). part.point) ps)) c.slice.ensures))

pub returns-in-None : goal.returns-in-None
returns-in-None c =
    let to = places_of c.args.numbering.now in
    none-used to c.args.done.now c.args.transaction.now
    (c.in-None.ensures ∙ ap (λ ps. least_removed to (map (λ (part : KeptPart). part.point) ps)) c.slice.ensures)
