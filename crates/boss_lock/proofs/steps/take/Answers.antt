use Rattle.std.proofs.Common.{Some, rules, arith}
use Rattle.boss_lock.proofs.Keeps.{takes_value}
use Rattle.boss_lock.proofs.Resting.{held_first}
use Rattle.boss_lock.proofs.steps.take.Goals as goal

pub load-requires : goal.load-requires
load-requires g c = let own = c.requires.own in (own.0, omega arith, takes_value _ _ _ _ _ _ _ _ c.requires.turn c.requires.start.0)

pub exchange-slot-requires : goal.exchange-slot-requires
exchange-slot-requires g c = (search rules, (Some c.load.ensures.2.0, held_first _ _ _ _ c.load.ensures.2.2))
