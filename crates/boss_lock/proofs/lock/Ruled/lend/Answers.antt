use Rattle.boss_lock.proofs.Lending.{own_lent}
use Rattle.boss_lock.proofs.lock.Ruled.lend.Goals as goal

pub returns-clause-own_entries : goal.returns-clause-own_entries
returns-clause-own_entries g c =
    let other = c.lend_turn-token.ensures.other in
    own_lent _ _ c.seat.inside.token.me c.other.inside.token.me c.lend_turn-token.result.me _ _ _ c.seat.view_is c.other.view_is c.requires.bare.1 c.other.invariant c.lend_turn-token.ensures.history other.1
