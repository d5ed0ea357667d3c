use Rattle.std.proofs.Common.{[], ap, ◌∙◌}
use Rattle.boss_shared.proofs.Holding.{held_as, holds_on}
use Rattle.boss_shared.proofs.Telling.{calls_told}
use Rattle.boss_shared.proofs.Turns.{owned_after, turn_of}
use Rattle.boss_shared.proofs.manager.Manager.call_alone.Goals as goal

pub leave-requires-clause-value : goal.leave-requires-clause-value
leave-requires-clause-value g c =
    let entered = held_as _ _ _ _ _ _ _ _ _ _ _ c.deref_mut.ensures.value c.enter-held.ensures.value.0 in
    (holds_on _ _ _ _ _ _ _ _ _ _ _ _ entered c.apply_all-outcomes.ensures.kept, c.apply_all-outcomes.ensures.under ∙ ap g.K.Keeper.under c.deref_mut.ensures.value ∙ c.enter-held.ensures.value.1)

pub returns-clause-own : goal.returns-clause-own
returns-clause-own g c =
    let entered = held_as _ _ _ _ _ _ _ _ _ _ _ c.deref_mut.ensures.value c.enter-held.ensures.value.0 in
    let held = holds_on _ _ _ _ _ _ _ _ _ _ _ _ entered c.apply_all-outcomes.ensures.kept in
    owned_after _ _ c.args.self.now.lock c.args.pass.now _ _ _ (record {
      entered = c.enter-held.ensures.seat;
      goes_on = c.enter-held.ensures.history;
      left = c.leave.ensures.seat;
      own = c.leave.ensures.own_entries;
      places = c.leave.ensures.places;
    }) c.requires.own.0 c.requires.own.3 c.requires.own.4 held.sound held.legal

pub returns-clause-turn : goal.returns-clause-turn
returns-clause-turn g c =
    let entered = held_as _ _ _ _ _ _ _ _ _ _ _ c.deref_mut.ensures.value c.enter-held.ensures.value.0 in
    let held = holds_on _ _ _ _ _ _ _ _ _ _ _ _ entered c.apply_all-outcomes.ensures.kept in
    turn_of _ _ c.args.pass.now _ _ _ _ (record {
      entered = c.enter-held.ensures.seat;
      goes_on = c.enter-held.ensures.history;
      left = c.leave.ensures.seat;
      own = c.leave.ensures.own_entries;
      places = c.leave.ensures.places;
    }) held.legal (c.apply_all-outcomes.ensures.stops ∙ entered.marked)

pub returns-clause-told : goal.returns-clause-told
returns-clause-told g c =
    let entered = held_as _ _ _ _ _ _ _ _ _ _ _ c.deref_mut.ensures.value c.enter-held.ensures.value.0 in
    let held = holds_on _ _ _ _ _ _ _ _ _ _ _ _ entered c.apply_all-outcomes.ensures.kept in
    calls_told _ _ _ _ [] _ _ _ _ held.sound held.legal c.apply_all-outcomes.ensures.done c.apply_all-outcomes.ensures.rest
