use Rattle.boss_slots.proofs.Flagged.{no-flag, some-flag}
use Rattle.boss_slots.proofs.flags.Flags.are_clear.Goals as goal

pub returns-clause-clear : goal.returns-clause-clear
returns-clause-clear c = rw (← c.self.view_is) (λ is point. no-flag c.self.inside.count c.self.inside.words.items point (rw c.deref.ensures.value at (c.are_zero.ensures.zero is point)))

pub returns-clause-set : goal.returns-clause-set
returns-clause-set c = rw (← c.self.view_is) (λ is.
    let found = rw c.deref.ensures.value at (c.are_zero.ensures.set is) in
    (found.0, some-flag c.self.inside.count c.self.inside.words.items found.0 c.self.invariant.within found.1))
