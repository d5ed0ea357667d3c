use Rattle.law_reopening.proofs.Again.{history-again}
use Rattle.law_reopening.proofs.Found.{found, lives}
use Rattle.law_reopening.specs.Spans.{begins}
use Rattle.law_soundness.proofs.Opened.{opened-sound}
use Rattle.law_reopening.proofs.laws.what_is_opened_was_left.Goals as goal

pub returns-clause-found : goal.returns-clause-found
returns-clause-found c plant digest span first second d left opens = found plant digest span first second d left opens

pub returns-clause-acknowledged : goal.returns-clause-acknowledged
returns-clause-acknowledged c plant digest span sound is =
    history-again plant span.history (begins plant span) (opened-sound plant span.opens sound) is.legal

pub returns-clause-lives : goal.returns-clause-lives
returns-clause-lives c plant digest spans are = lives plant digest spans are
