use Rattle.std.proofs.Common.{ap, arith}
use Rattle.boss_model.specs.Held.{Held}
use Rattle.boss_feeding.proofs.logs.tell_log.Goals as goal

pub tell_records-requires-clause-room : goal.tell_records-requires-clause-room
tell_records-requires-clause-room g c = omega (arith, ap (λ (b : Held). b.capacity) c.in_ok-buffer.ensures)
