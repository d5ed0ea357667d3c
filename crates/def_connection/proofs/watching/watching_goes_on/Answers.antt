use Rattle.def_connection.proofs.WatchLemmas.{watches-nothing, watches-then, watched-of}
use Rattle.def_connection.proofs.watching.watching_goes_on.Goals as goal

pub returns-clause-nothing : goal.returns-clause-nothing
returns-clause-nothing g c notes session name from s = watches-nothing notes session name g.K.Sink.tells g.C.Clock.tells from s

pub returns-clause-then : goal.returns-clause-then
returns-clause-then g c notes session name from mid next a b d one other = watches-then notes session name g.K.Sink.tells g.C.Clock.tells from mid next a b d one other

pub returns-clause-ends : goal.returns-clause-ends
returns-clause-ends g c notes session name unanswered from mid a b d turns unused one few used grew told gave = watched-of notes session name g.K.Sink.tells g.C.Clock.tells unanswered from mid a b d turns unused one few used grew told gave
