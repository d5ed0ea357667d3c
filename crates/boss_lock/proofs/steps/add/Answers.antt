use Rattle.std.proofs.Common.{arith}
use Rattle.boss_lock.proofs.Lending.{adds}
use Rattle.boss_lock.proofs.steps.add.Goals as goal

pub load-requires : goal.load-requires
load-requires g c = let own = c.requires.own in (own.0, omega arith, adds _ _ _ _ _ _ _ _ _ _ c.requires.holding c.requires.part c.requires.told)
