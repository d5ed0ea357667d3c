use Rattle.std.proofs.Common.{[]}
use Rattle.def_connection.proofs.Allowing.{exchanged-allowed}
use Rattle.def_connection.proofs.judging.what_is_done_is_allowed.Goals as goal

pub returns-clause-talk : goal.returns-clause-talk
returns-clause-talk g c speech session heard stop broken old new before now entries moments is = exchanged-allowed speech session g.K.Sink.tells heard stop broken old new before now entries moments is

pub returns-clause-served : goal.returns-clause-served
returns-clause-served g c speech served course entries is = exchanged-allowed speech served.session g.K.Sink.tells _ is.stop is.broken [] served.taken 0 served.write_faults entries course.moments is.exchanged
