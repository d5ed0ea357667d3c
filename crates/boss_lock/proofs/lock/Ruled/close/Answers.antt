use Rattle.std.proofs.Common.{subst}
use Rattle.boss_lock.proofs.Ends.{closes}
use Rattle.boss_lock.proofs.lock.Ruled.close.Goals as goal

pub unreachable-requires : goal.unreachable-requires
unreachable-requires g c =
    let end = closes _ _ _ _ _ _ _ _ _ _ c.self.view_is c.seat.view_is c.seat.invariant c.requires.no_turn c.requires.all_parts c.close_with-closed.ensures.values.2 c.take-slot.ensures.value in
    let some_value = end.1 in
    let none = c.in_default.is in
    cc

pub returns-clause-value : goal.returns-clause-value
returns-clause-value g c =
    let end = closes _ _ _ _ _ _ _ _ _ _ c.self.view_is c.seat.view_is c.seat.invariant c.requires.no_turn c.requires.all_parts c.close_with-closed.ensures.values.2 c.take-slot.ensures.value in
    let is = end.1 in
    let taken = c.in-Some.is in
    subst (λ (y : g.row.V.Denot). g.V.Stands.stands y c.args.self.start c.args.seat.seen) (cc) end.2

pub returns-clause-places : goal.returns-clause-places
returns-clause-places g c =
    (closes _ _ _ _ _ _ _ _ _ _ c.self.view_is c.seat.view_is c.seat.invariant c.requires.no_turn c.requires.all_parts c.close_with-closed.ensures.values.2 c.take-slot.ensures.value).3
