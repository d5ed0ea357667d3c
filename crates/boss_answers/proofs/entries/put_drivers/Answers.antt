use Rattle.std.proofs.Common.{sym, arith}
use Rattle.boss_answers.proofs.Puts.{puts, puts_both, puts_within}
use Rattle.boss_answers.proofs.entries.put_drivers.Goals as goal

pub returns : goal.returns
returns c =
    rw (sym c.driver_names.ensures.names) (puts_within (puts_both (puts_both (puts c.extend.ensures) c.write_names.ensures) (puts c.extend-2.ensures)) (omega arith))
