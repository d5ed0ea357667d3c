use Rattle.std.proofs.Common.{ap, arith, length}
use Rattle.boss_opening.proofs.Redone.{lead_long}
use Rattle.boss_opening.proofs.reading.read_next.Goals as goal

pub returns-in-Ok-Some-clause-moves : goal.returns-in-Ok-Some-clause-moves
returns-in-Ok-Some-clause-moves g c =
    let leads = rw c.in-Ok-Some.field-0-is at c.in-Ok-Some.ensures.leads in
    let long = lead_long _ _ _ _ _ _ leads in
    omega (arith, long, c.in-Bytes.ensures.passes.1, ap length c.bytes.ensures)
