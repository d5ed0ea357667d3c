use Rattle.std.proofs.Common.{rules, arith}
use Rattle.boss_lock.proofs.Keeps.{compares}
use Rattle.boss_lock.proofs.steps.compare.Goals as goal

pub load-requires : goal.load-requires
load-requires g c = (search rules, omega arith, compares _ _ _ _ _ _)
