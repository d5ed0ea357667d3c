use Rattle.def_connection.proofs.TalkLemmas.{goes-nothing, goes-then, stops-then, stops-here}
use Rattle.def_connection.proofs.talks.a_talk_goes_on.Goals as goal

pub returns-clause-nothing : goal.returns-clause-nothing
returns-clause-nothing g c speech session at s = goes-nothing speech session g.K.Sink.tells g.C.Clock.tells at s

pub returns-clause-then : goal.returns-clause-then
returns-clause-then g c speech session at mid at' heard others a b d one other = goes-then speech session g.K.Sink.tells g.C.Clock.tells at mid at' heard others a b d one other

pub returns-clause-stops : goal.returns-clause-stops
returns-clause-stops g c speech session at mid heard others stop a b d one other = stops-then speech session g.K.Sink.tells g.C.Clock.tells at mid heard others stop a b d one other

pub returns-clause-here : goal.returns-clause-here
returns-clause-here g c speech session at behind stop old new is calm same told gave attached last = stops-here speech session g.K.Sink.tells g.C.Clock.tells at behind stop old new is calm same told gave attached last
