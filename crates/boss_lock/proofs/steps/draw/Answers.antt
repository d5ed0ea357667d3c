use Rattle.std.proofs.Common.{arith}
use Rattle.boss_lock.proofs.Keeps.{draws}
use Rattle.boss_lock.proofs.steps.draw.Goals as goal

pub fetch_add-requires : goal.fetch_add-requires
fetch_add-requires g c = let own = c.requires.own in (own.0, omega arith, draws _ _ _ _ _ _ c.requires.idle.0 c.requires.idle.1)
