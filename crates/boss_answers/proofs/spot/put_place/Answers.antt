use Rattle.std.proofs.Common.{codes, arith}
use Rattle.boss_answers.proofs.Puts.{puts, puts_both, puts_keyed, puts_within}
use Rattle.boss_answers.proofs.spot.put_place.Goals as goal

pub returns : goal.returns
returns c = puts_within (puts_both (puts_keyed (codes "[") _ (puts c.extend.ensures) c.write_number.ensures) (puts c.push.ensures)) (omega arith)
