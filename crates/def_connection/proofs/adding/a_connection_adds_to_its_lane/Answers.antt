use Rattle.def_connection.proofs.OfSession.{talk-agrees, watch-agrees}
use Rattle.def_connection.proofs.adding.a_connection_adds_to_its_lane.Goals as goal

pub returns-clause-talk : goal.returns-clause-talk
returns-clause-talk g c plant speech served taken_are stop broken cut old new some talked empty quiet taken faults ended answered = talk-agrees plant speech g.K.Sink.tells g.C.Clock.tells served taken_are stop broken cut old new some talked empty quiet taken faults ended answered

pub returns-clause-watch : goal.returns-clause-watch
returns-clause-watch g c plant speech notes served taken_are line name from cut old new some watched heard asked empty quiet taken faults lost called = watch-agrees plant speech notes g.K.Sink.tells g.C.Clock.tells served taken_are line name from cut old new some watched heard asked empty quiet taken faults lost called
