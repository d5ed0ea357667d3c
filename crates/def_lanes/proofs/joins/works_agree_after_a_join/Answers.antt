use Rattle.def_lanes.proofs.Agreements.{agreed-nothing, agreed-both}
use Rattle.def_lanes.proofs.joins.works_agree_after_a_join.Goals as goal

pub returns-clause-nothing : goal.returns-clause-nothing
returns-clause-nothing g c entries none = agreed-nothing g.S.Server.terms.plant g.S.Server.terms.says entries none

pub returns-clause-joined : goal.returns-clause-joined
returns-clause-joined g c old other new works others first then join strange =
    agreed-both g.S.Server.terms.plant g.S.Server.terms.says old other new works others first then join strange
