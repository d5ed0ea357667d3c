use Rattle.std.proofs.Common.{codes, arith}
use Rattle.boss_answers.proofs.Puts.{puts, puts_both, puts_keyed, puts_within}
use Rattle.boss_answers.proofs.entries.put_version.Goals as goal

pub returns : goal.returns
returns c =
    let count = rw (c.from.ensures, c.count.ensures.count) at c.write_number.ensures in
    let drivers = rw (c.from-2.ensures, c.drivers.ensures.count) at c.write_number-2.ensures in
    let digest = puts_both (puts_both c.put_program.ensures (puts c.extend.ensures)) c.write_digest.ensures in
    let both = puts_keyed (codes ",\"drivers\":") _ (puts_keyed (codes ",\"points\":") _ digest count) drivers in
    puts_within (puts_both both (puts c.push.ensures)) (omega arith)
