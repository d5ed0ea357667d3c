use Rattle.law_second_script.proofs.Answered.{same-answers}
use Rattle.law_second_script.proofs.asking.who_asks_the_same_is_answered_the_same.Goals as goal

pub returns : goal.returns
returns c plant s t rows others sound same legal also only asks_only is = same-answers plant s t rows others sound same legal also only asks_only is
