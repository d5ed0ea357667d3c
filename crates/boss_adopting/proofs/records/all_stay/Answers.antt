use Rattle.std.proofs.Common.{ap, sym, ◌∙◌}
use Rattle.std.specs.List.{list_all}
use Rattle.boss_model.specs.declared.kept.KeptPart.{KeptPart}
use Rattle.law_adoption.specs.Renumber.{stays}
use Rattle.boss_adopting.specs.Places.{places_of}
use Rattle.boss_adopting.proofs.Recorded.{seen-stay}
use Rattle.boss_adopting.proofs.records.all_stay.Goals as goal

pub returns : goal.returns
returns c =
    let to = places_of c.args.numbering.now in
    c.parts_stay.ensures ∙ ap (list_all (λ (part : KeptPart). stays to part.point)) c.slice.ensures ∙ sym (seen-stay to c.args.transaction.now.parts)
