use Rattle.boss_answers.proofs.answer.write_answer.Goals as goal

pub returns-in-Accepted-clause-text : goal.returns-in-Accepted-clause-text
returns-in-Accepted-clause-text c = rw c.in-Accepted.is c.put_until.ensures.put

pub returns-in-Gone-clause-text : goal.returns-in-Gone-clause-text
returns-in-Gone-clause-text c = rw c.in-Gone.is c.write_last.ensures.put

pub returns-in-Nothing-clause-text : goal.returns-in-Nothing-clause-text
returns-in-Nothing-clause-text c = rw c.in-Nothing.is c.extend.ensures

pub returns-in-Noted-clause-text : goal.returns-in-Noted-clause-text
returns-in-Noted-clause-text c = rw c.in-Noted.is c.extend-in-Noted.ensures
