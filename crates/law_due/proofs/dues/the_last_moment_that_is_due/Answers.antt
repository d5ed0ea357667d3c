use Rattle.law_due.proofs.DueLemmas.{last-due, not-due}
use Rattle.law_due.proofs.dues.the_last_moment_that_is_due.Goals as goal

pub returns-clause-last : goal.returns-clause-last
returns-clause-last c plant d n sound reached = last-due plant d n sound reached

pub returns-clause-nothing : goal.returns-clause-nothing
returns-clause-nothing c plant d n sound reached none = not-due plant d n sound reached none
