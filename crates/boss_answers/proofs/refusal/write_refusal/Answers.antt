use Rattle.std.proofs.Common.{arith}
use Rattle.boss_answers.proofs.Puts.{puts, puts_within}
use Rattle.boss_answers.proofs.refusal.write_refusal.Goals as goal

pub returns-in-Taken : goal.returns-in-Taken
returns-in-Taken c = rw (c.in-Taken.is, ← c.session.view_is) (puts_within c.write_last-in-Taken.ensures (omega arith))

pub returns-in-TooManyProcesses : goal.returns-in-TooManyProcesses
returns-in-TooManyProcesses c = rw c.in-TooManyProcesses.is (puts_within (puts c.extend-in-TooManyProcesses.ensures) (omega arith))

pub returns-in-Spent : goal.returns-in-Spent
returns-in-Spent c = rw c.in-Spent.is (puts_within (puts c.extend-in-Spent.ensures) (omega arith))
