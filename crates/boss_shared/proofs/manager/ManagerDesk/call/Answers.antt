use Rattle.std.proofs.Common.{Some, ap, ◌∙◌}
use Rattle.def_history.specs.History.{is_broken}
use Rattle.boss_shared.proofs.Holding.{held_as, holds_on}
use Rattle.boss_shared.proofs.Telling.{call_told}
use Rattle.boss_shared.proofs.Turns.{failed_of, fails_by, owned_after, turn_of, turns_by}
use Rattle.boss_shared.proofs.Ungated.{asked_ungated, held_ungated}
use Rattle.boss_shared.proofs.manager.ManagerDesk.call.Goals as goal

pub leave-requires-clause-value : goal.leave-requires-clause-value
leave-requires-clause-value g c =
    let entered = held_as _ _ _ _ _ _ _ _ _ _ _ c.deref_mut.ensures.value c.enter-held.ensures.value.0 in
    (holds_on _ _ _ _ _ _ _ _ _ _ _ _ entered c.apply-outcome.ensures.kept, c.apply-outcome.ensures.under ∙ ap g.K.Keeper.under c.deref_mut.ensures.value ∙ c.enter-held.ensures.value.1)

pub returns-clause-own : goal.returns-clause-own
returns-clause-own g c =
    let entered = held_as _ _ _ _ _ _ _ _ _ _ _ c.deref_mut.ensures.value c.enter-held.ensures.value.0 in
    let held = holds_on _ _ _ _ _ _ _ _ _ _ _ _ entered c.apply-outcome.ensures.kept in
    owned_after _ _ c.args.self.now.lock c.args.pass.now _ _ _ (record {
      entered = c.enter-held.ensures.seat;
      goes_on = c.enter-held.ensures.history;
      left = c.leave.ensures.seat;
      own = c.leave.ensures.own_entries;
      places = c.leave.ensures.places;
    }) c.requires.own.0 c.requires.own.3 c.requires.own.4 held.sound held.legal

pub returns-clause-turn : goal.returns-clause-turn
returns-clause-turn g c =
    let entered = held_as _ _ _ _ _ _ _ _ _ _ _ c.deref_mut.ensures.value c.enter-held.ensures.value.0 in
    let held = holds_on _ _ _ _ _ _ _ _ _ _ _ _ entered c.apply-outcome.ensures.kept in
    turns_by _ _ _ _ _ _ _ _ _ _ c.apply-outcome.ensures.undenied (turn_of _ _ c.args.pass.now _ _ _ _ (record {
      entered = c.enter-held.ensures.seat;
      goes_on = c.enter-held.ensures.history;
      left = c.leave.ensures.seat;
      own = c.leave.ensures.own_entries;
      places = c.leave.ensures.places;
    }) held.legal (c.apply-outcome.ensures.stops ∙ entered.marked))

pub returns-clause-failed : goal.returns-clause-failed
returns-clause-failed g c =
    let entered = held_as _ _ _ _ _ _ _ _ _ _ _ c.deref_mut.ensures.value c.enter-held.ensures.value.0 in
    fails_by (is_broken c.args.pass.now.seen) (is_broken c.leave.new.seat.seen) (Some c.apply-outcome.result)
    (failed_of _ _ _ _ _ _ (ap (λ s. s.seen) c.leave.ensures.seat) (c.apply-outcome.ensures.stops ∙ entered.marked))

pub returns-clause-held : goal.returns-clause-held
returns-clause-held g c = held_ungated _ _ _

pub returns-clause-asked : goal.returns-clause-asked
returns-clause-asked g c = asked_ungated _ _ c.apply-outcome.ensures.undenied

pub returns-clause-told : goal.returns-clause-told
returns-clause-told g c =
    let entered = held_as _ _ _ _ _ _ _ _ _ _ _ c.deref_mut.ensures.value c.enter-held.ensures.value.0 in
    let held = holds_on _ _ _ _ _ _ _ _ _ _ _ _ entered c.apply-outcome.ensures.kept in
    call_told _ _ _ _ _ _ _ held.sound held.legal
