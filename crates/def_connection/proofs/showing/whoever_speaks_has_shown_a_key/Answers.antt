use Rattle.std.proofs.Common.{[]}
use Rattle.def_connection.proofs.Shows.{exchanged-keyed, watch-keyed}
use Rattle.def_connection.proofs.showing.whoever_speaks_has_shown_a_key.Goals as goal

pub returns-clause-talk : goal.returns-clause-talk
returns-clause-talk g c speech session heard stop broken old new before now entries moments guarded is = exchanged-keyed speech session g.K.Sink.tells heard stop broken old new before now entries moments guarded is

pub returns-clause-served : goal.returns-clause-served
returns-clause-served g c speech served course entries guarded is = exchanged-keyed speech served.session g.K.Sink.tells _ is.stop is.broken [] served.taken 0 served.write_faults entries course.moments guarded is.exchanged

pub returns-clause-watch : goal.returns-clause-watch
returns-clause-watch g c speech notes served course entries guarded is = watch-keyed speech notes g.K.Sink.tells served course entries guarded is
