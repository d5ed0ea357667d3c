use Rattle.def_bytes.proofs.Exact.{one-spelling}
use Rattle.def_bytes.specs.Events.{event}
use Rattle.def_bytes.proofs.OfEvents.{event_spelled}
use Rattle.def_bytes.proofs.laws.an_event_has_one_spelling.Goals as goal

pub returns-clause-exact : goal.returns-clause-exact
returns-clause-exact c = event_spelled.exact

pub returns-clause-short : goal.returns-clause-short
returns-clause-short c = event_spelled.short

pub returns-clause-one : goal.returns-clause-one
returns-clause-one c x y a b fits others is = one-spelling event event_spelled.exact x y a b fits others is
