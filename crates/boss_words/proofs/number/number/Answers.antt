use Rattle.std.proofs.Common.{sym, arith}
use Rattle.boss_words.proofs.Numbers.{number_of-refused}
use Rattle.boss_words.proofs.number.number.Goals as goal

pub returns-in-Err-clause-number : goal.returns-in-Err-clause-number
returns-in-Err-clause-number c =
    sym (number_of-refused c.args.least c.args.most c.args.text.now c.in-Err.field-0 (omega arith) (rw c.is_number.ensures at c.if-not-is_number.false) (rw c.in-Err.is at c.parse.ensures.value.0))
