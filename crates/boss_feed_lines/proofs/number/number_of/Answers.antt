use Rattle.boss_feed_lines.proofs.Numerals.{not-text}
use Rattle.boss_feed_lines.proofs.number.number_of.Goals as goal

pub returns-in-Err : goal.returns-in-Err
returns-in-Err c = not-text c.args.text.now c.in-Err.ensures.cases.0
