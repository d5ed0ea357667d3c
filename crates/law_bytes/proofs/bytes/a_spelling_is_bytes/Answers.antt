use Rattle.law_bytes.proofs.OfEvents.{an-event, a-batch}
use Rattle.law_bytes.proofs.OfStates.{a-state}
use Rattle.law_bytes.proofs.bytes.a_spelling_is_bytes.Goals as goal

pub returns-clause-event : goal.returns-clause-event
returns-clause-event c e fits = an-event.bytes e fits

pub returns-clause-batch : goal.returns-clause-batch
returns-clause-batch c events is = a-batch events is.fitting

pub returns-clause-state : goal.returns-clause-state
returns-clause-state c version d fits = (a-state version).bytes d fits
