use Rattle.std.proofs.Common.{sym}
use Rattle.boss_words.proofs.Numbers.{event_number_of-refused}
use Rattle.boss_words.proofs.number.event_number.Goals as goal

pub returns-in-Err : goal.returns-in-Err
returns-in-Err c =
    sym (event_number_of-refused c.args.text.now c.in-Err.field-0 (rw c.is_event_number.ensures at c.if-not-is_event_number.false) (rw c.in-Err.is at c.parse.ensures.value.0))
