use Rattle.std.proofs.Common.{◌≡◌, ◌++◌, List, [], vec_len, rules, arith, sym, ap, ◌∙◌, subst, append_assoc}
use Rattle.boss_lock.specs.Seats.{found}
use Rattle.def_history.specs.History.{IsLegal}
use Rattle.boss_shared.specs.declared.asked.Asked.{Asked}
use Rattle.boss_shared.specs.declared.group.Owed.{Owed}
use Rattle.boss_shared.specs.Groups.{AreOwed}
use Rattle.boss_shared.specs.Keeping.{IsHeld}
use Rattle.boss_shared.specs.Together.{made_of, made_together, AreReplied, AreSameAsked}
use Rattle.boss_shared.proofs.Holding.{held_as, holds_on}
use Rattle.boss_shared.proofs.Served.{AtReplies, next_at, one_legal, owed_long, owed_none, owed_same}
use Rattle.boss_shared.proofs.Together.{no_length, same_long, written_back}
use Rattle.boss_shared.proofs.manager.Manager.serve.Goals as goal

pub returns-then-is_empty-clause-empty : goal.returns-then-is_empty-clause-empty
returns-then-is_empty-clause-empty g c =
    let empty : vec_len c.args.group.now.asked ≡ 0 = search rules in
    let none : c.args.group.now.asked.items ≡ [] = no_length c.args.group.now.asked.items (omega (arith, c.args.group.now.asked.ok.0, empty)) in
    record { asked = none; owed = owed_none _ _ _ c.requires.taken.owed_to none; room = c.requires.room.0; place = c.requires.room.1 }

pub loop-first-init : goal.loop-first-init
loop-first-init g c =
    let entered = held_as _ _ _ _ _ _ _ _ _ _ _ c.deref_mut.ensures.value c.requires.held.0 in
    let held = holds_on _ _ _ _ _ _ _ _ _ _ _ _ entered c.apply_together.ensures.kept in
    let asked : AreSameAsked c.args.group.now.asked.items c.apply_together.new.group = subst (λ l. AreSameAsked l c.apply_together.new.group) c.as_mut_slice.ensures.value c.apply_together.ensures.asked in
    let all = written_back c.apply_together.new.group c.args.group.now.asked.items c.args.group.now.asked.len (same_long _ _ asked) (omega (arith, c.args.group.now.asked.ok.0)) in
    record {
      turn = c.requires.turn;
      bare = c.requires.bare;
      held = subst (λ (l : List Asked). IsHeld g.K.Keeper.plant g.K.Keeper.state g.K.Keeper.stopped g.K.Keeper.faults g.K.Keeper.leaves g.K.Keeper.passes g.K.Keeper.keeps c.args.self.now.lock.start
          c.apply_together.new.self (found c.args.runner.now ++ made_together l)) (sym all) held;
      under = c.apply_together.ensures.under ∙ ap g.K.Keeper.under c.deref_mut.ensures.value ∙ c.requires.held.1;
      owed = subst (AreOwed c.args.self.now.lock c.args.group.now.owed.items) (sym all) (owed_same _ _ _ _ c.requires.taken.owed_to asked);
      replies = subst (AtReplies (g.K.Keeper.plant c.args.self.now.lock.start) (g.K.Keeper.state c.args.self.now.lock.start) (found c.args.runner.now)) (sym all) (record {
        legal = held.legal;
        told = subst (λ b. AreReplied b c.apply_together.new.group) entered.marked c.apply_together.ensures.told;
      });
      room = c.requires.room.0;
      place = c.requires.room.1;
    }

pub take_first-requires : goal.take_first-requires
take_first-requires g c =
    let each = owed_long _ _ _ c.loop-first.invariant.owed in
    record { each = omega (arith, each, c.loop-first.group.asked.ok.0, c.loop-first.group.owed.ok.0) }

pub reply-requires-clause-legal : goal.reply-requires-clause-legal
reply-requires-clause-legal g c =
    let at = subst (AtReplies (g.K.Keeper.plant c.args.self.now.lock.start) (g.K.Keeper.state c.args.self.now.lock.start) (found c.loop-first.runner)) c.in-Some.ensures.first.0 c.loop-first.invariant.replies in
    subst (λ behind. IsLegal (g.K.Keeper.plant c.args.self.now.lock.start) (found c.loop-first.runner ++ made_of c.in-Some.first behind) (g.K.Keeper.state c.args.self.now.lock.start)) (sym c.as_slice.ensures.value) (one_legal _ _ _ _ _ at)

pub loop-first-preserved : goal.loop-first-preserved
loop-first-preserved g c =
    let inv = c.loop-first.invariant in
    let first = c.in-Some.first in
    let rest = c.take_first.new.self.asked.items in
    let at = subst (AtReplies (g.K.Keeper.plant c.args.self.now.lock.start) (g.K.Keeper.state c.args.self.now.lock.start) (found c.loop-first.runner)) c.in-Some.ensures.first.0 inv.replies in
    let made : found c.reply.new.runner ≡ found c.loop-first.runner ++ made_of first rest = c.reply.ensures.made ∙ ap (λ behind. found c.loop-first.runner ++ made_of first behind) c.as_slice.ensures.value in
    let log : found c.loop-first.runner ++ made_together c.loop-first.group.asked.items ≡ found c.reply.new.runner ++ made_together rest =
    ap (λ l. found c.loop-first.runner ++ made_together l) c.in-Some.ensures.first.0 ∙ sym (append_assoc (found c.loop-first.runner) (made_of first rest) (made_together rest))
    ∙ ap (λ l. l ++ made_together rest) (sym made) in
    record {
      turn = c.reply.ensures.turn;
      bare = c.reply.ensures.bare;
      held = subst (IsHeld g.K.Keeper.plant g.K.Keeper.state g.K.Keeper.stopped g.K.Keeper.faults g.K.Keeper.leaves g.K.Keeper.passes g.K.Keeper.keeps c.args.self.now.lock.start
          c.apply_together.new.self) log inv.held;
      under = inv.under;
      owed = (subst (λ (q : List (Owed g.row.K.Denot) × List Asked). AreOwed c.args.self.now.lock q.0 q.1) (λ i. (c.in-Some.ensures.first.1 i, c.in-Some.ensures.first.0 i)) inv.owed).1;
      replies = subst (λ log. AtReplies (g.K.Keeper.plant c.args.self.now.lock.start) (g.K.Keeper.state c.args.self.now.lock.start) log rest) (sym made) (next_at _ _ _ _ _ at);
      room = omega (arith, c.take_first.ensures.room, inv.room);
      place = omega (arith, c.take_first.ensures.place, inv.place);
    }

pub returns-clause-held : goal.returns-clause-held
returns-clause-held g c = search rules
