use Rattle.def_connection.proofs.OfSession.{talk-silent}
use Rattle.def_connection.proofs.adding.a_talk_without_replies_adds_nothing.Goals as goal

pub returns-clause-own : goal.returns-clause-own
returns-clause-own g c speech session heard name from broken old new talked = (talk-silent speech session g.K.Sink.tells g.C.Clock.tells heard name from broken old new talked).0

pub returns-clause-taken : goal.returns-clause-taken
returns-clause-taken g c speech session heard name from broken old new talked told = (talk-silent speech session g.K.Sink.tells g.C.Clock.tells heard name from broken old new talked).1 told

pub returns-clause-moments : goal.returns-clause-moments
returns-clause-moments g c speech session heard name from broken old new talked = (talk-silent speech session g.K.Sink.tells g.C.Clock.tells heard name from broken old new talked).2
