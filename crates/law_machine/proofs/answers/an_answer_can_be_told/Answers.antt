use Rattle.law_machine.proofs.Tellable.{tellable}
use Rattle.law_machine.proofs.answers.an_answer_can_be_told.Goals as goal

pub returns : goal.returns
returns c catalogue s session command m sound allowed small = tellable catalogue s session command m sound allowed small
