use Rattle.std.proofs.Common.{rules, arith}
use Rattle.boss_lock.proofs.Lending.{folds}
use Rattle.boss_lock.proofs.steps.fold.Goals as goal

pub join_seat-requires : goal.join_seat-requires
join_seat-requires g c =
    (search rules, search rules, c.requires.idle.1, omega arith, folds _ _ _ _ _ _ _ c.requires.idle.0 c.requires.no_places c.requires.part)
