use Rattle.boss_lock.proofs.Resting.{own_after_turn}
use Rattle.boss_lock.proofs.lock.Ruled.leave.Goals as goal

pub returns-clause-own_entries : goal.returns-clause-own_entries
returns-clause-own_entries g c = own_after_turn _ _ _ _ _ c.seat.view_is c.seat.invariant c.requires.turn c.end_turn.ensures.passed
