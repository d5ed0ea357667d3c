use Rattle.std.proofs.Common.{arith}
use Rattle.boss_lock.proofs.Keeps.{passes_on}
use Rattle.boss_lock.proofs.steps.pass_on.Goals as goal

pub fetch_add-served-requires : goal.fetch_add-served-requires
fetch_add-served-requires g c = let own = c.requires.own in (own.0, omega arith, passes_on _ _ _ _ _ _ _ _ _ c.requires.given c.requires.part)
