use Rattle.def_lanes.proofs.PartLemmas.{part-nothing, part-more, part-both, part-next}
use Rattle.def_lanes.proofs.parts.parts_come_together.Goals as goal

pub returns-clause-nothing : goal.returns-clause-nothing
returns-clause-nothing g c first end own served given none = part-nothing g.S.Server.terms first end own served given none

pub returns-clause-more : goal.returns-clause-more
returns-clause-more g c first end works work own own' served served' served'' given given' given'' part added above below absent back =
    part-more g.S.Server.terms first end works work own own' served served' served'' given given' given'' part added above below absent back

pub returns-clause-both : goal.returns-clause-both
returns-clause-both g c first middle end works others old other new served served' back served'' given given' gave given'' low high part next join hosts clocks =
    part-both g.S.Server.terms first middle end works others old other new served served' back served'' given given' gave given'' low high part next join hosts clocks

pub returns-clause-next : goal.returns-clause-next
returns-clause-next g c number works others old other new served served' back served'' given given' gave given'' part next join hosts clocks =
    part-next g.S.Server.terms number works others old other new served served' back served'' given given' gave given'' part next join hosts clocks
