use Rattle.law_machine.proofs.Commands.{question-same, reading-same, mark-alone}
use Rattle.law_machine.proofs.answers.questions_rest_on_what_lasts.Goals as goal

pub returns-clause-question : goal.returns-clause-question
returns-clause-question c plant s t session other command m same question = question-same plant s t session other command m same question

pub returns-clause-reading : goal.returns-clause-reading
returns-clause-reading c plant s t session other point m same = reading-same plant s t session other point m same

pub returns-clause-mark_alone : goal.returns-clause-mark_alone
returns-clause-mark_alone c given = mark-alone given
