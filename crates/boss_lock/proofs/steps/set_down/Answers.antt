use Rattle.std.proofs.Common.{rules, arith}
use Rattle.boss_lock.proofs.Lending.{sets_down}
use Rattle.boss_lock.proofs.steps.set_down.Goals as goal

pub split_seat-requires : goal.split_seat-requires
split_seat-requires g c = (search rules, omega arith, sets_down _ _ _ _ _ c.requires.compared c.requires.two_parts)
