use Rattle.std.proofs.Common.{rules, arith}
use Rattle.boss_lock.proofs.Keeps.{splits}
use Rattle.boss_lock.proofs.steps.divide.Goals as goal

pub split_seat-requires : goal.split_seat-requires
split_seat-requires g c = (search rules, omega arith, splits _ _ _ _ _ c.requires.idle c.requires.two_parts)
