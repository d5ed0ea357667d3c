use Rattle.boss_marks.proofs.Wanting.{wants_known}
use Rattle.boss_marks.proofs.wants.Wants.points.Goals as goal

pub returns-clause-known : goal.returns-clause-known
returns-clause-known c = rw (← c.self.view_is) (wants_known c.self.invariant)

pub returns-clause-once : goal.returns-clause-once
returns-clause-once c = rw (← c.self.view_is) c.self.invariant.once
