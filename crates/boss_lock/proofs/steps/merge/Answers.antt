use Rattle.std.proofs.Common.{rules, arith}
use Rattle.boss_lock.proofs.Keeps.{joins}
use Rattle.boss_lock.proofs.steps.merge.Goals as goal

pub join_seat-requires : goal.join_seat-requires
join_seat-requires g c =
    (search rules, search rules, c.requires.idle.1, omega arith, joins _ _ _ _ _ _ _ c.requires.idle.0 c.requires.compared.0 c.requires.compared.1 c.requires.part)
