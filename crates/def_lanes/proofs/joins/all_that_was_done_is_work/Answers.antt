use Rattle.def_lanes.proofs.Readers.{all-done, own-sessions}
use Rattle.def_lanes.proofs.joins.all_that_was_done_is_work.Goals as goal

pub returns-clause-done : goal.returns-clause-done
returns-clause-done g c entries works agreed = all-done g.S.Server.terms.plant g.S.Server.terms.says entries works agreed

pub returns-clause-sessions : goal.returns-clause-sessions
returns-clause-sessions g c entries works agreed = own-sessions works agreed.apart
