use Rattle.std.proofs.Common.{rules, ap, ◌∙◌}
use Rattle.boss_shared.proofs.Pairs.{paired_twice}
use Rattle.boss_shared.proofs.manager.Manager.new.Goals as goal

pub returns-in-Ok-new_in_pairs-clause-own : goal.returns-in-Ok-new_in_pairs-clause-own
returns-in-Ok-new_in_pairs-clause-own g c =
    let lock = c.in-Ok-new_in_pairs.ensures.lock in (
      search rules,
      search rules,
      search rules,
      paired_twice _ _ (ap (λ s. s.parts) c.in-Ok-new_in_pairs.ensures.seat ∙ lock.1) c.requires.seats,
      paired_twice _ _ lock.1 c.requires.seats,
    )
