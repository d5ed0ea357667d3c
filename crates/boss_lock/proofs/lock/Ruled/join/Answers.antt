use Rattle.boss_lock.proofs.Resting.{own_of_both}
use Rattle.boss_lock.proofs.lock.Ruled.join.Goals as goal

pub returns-clause-own_entries : goal.returns-clause-own_entries
returns-clause-own_entries g c = own_of_both _ _ _ _ _ _ _ c.seat.view_is c.other.view_is c.seat.invariant c.other.invariant c.take_in.ensures.both c.take_in.ensures.histories
