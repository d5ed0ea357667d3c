use Rattle.std.proofs.Common.{sym, arith}
use Rattle.boss_answers.proofs.Puts.{puts, puts_both, puts_within}
use Rattle.boss_answers.proofs.spot.put_write.Goals as goal

pub returns : goal.returns
returns c =
    let place = puts_both (rw c.from.ensures at c.put_place.ensures) (puts c.push.ensures) in
    rw (sym c.key_name.ensures.text) (puts_within (puts_both place (puts c.extend.ensures)) (omega (arith, c.key_name.ensures.short)))
