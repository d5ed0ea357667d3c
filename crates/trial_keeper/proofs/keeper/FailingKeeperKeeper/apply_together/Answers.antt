use Rattle.std.proofs.Common.{◌≡◌, Bool, [], ◌∷◌, if◌then◌else◌, inl, inr, refl, sym, ap, ◌∙◌, subst, arith}
use Rattle.std.specs.List.{AllByRecursion}
use Rattle.boss_outside.specs.Counts.{Rose}
use Rattle.boss_shared.specs.Together.{made_together, MayAsk}
use Rattle.boss_shared.proofs.Together.{asks_some, may_try}
use Rattle.def_history.specs.History.{run, IsLegal}
use Rattle.boss_memory_keeper.proofs.Keepers.{done_keeps}
use Rattle.trial_keeper.proofs.Keepers.{fault_keeps, idle_keeps}
use Rattle.trial_keeper.proofs.keeper.FailingKeeperKeeper.apply_together.Goals as goal

pub returns-then-self-clause-kept : goal.returns-then-self-clause-kept
returns-then-self-clause-kept c = idle_keeps _ _ _ _ _ _ _ _ _ c.if-self.true c.stop_all.ensures.nothing

pub returns-then-fails-clause-kept : goal.returns-then-fails-clause-kept
returns-then-fails-clause-kept c =
    let off = c.if-self.false in
    let on = c.fails.ensures.stopped ∙ c.if-fails.true in
    let mark = c.fail_all.ensures.mark in
    let plant = c.args.self.now.unkept.engine.plant in
    let may = subst (AllByRecursion (MayAsk plant)) mark.2 c.requires.may in
    fault_keeps _ _ _ _ _ _ _ _ _ _ _ _ _ off on (ap (λ k. k.engine.plant) c.fails.ensures.unkept)
    (subst (λ (q : Bool × Bool). Rose (if q.0 then 1 else 0) (if q.1 then 1 else 0)) (λ i. (sym off i, sym on i)) (omega arith))
    may.0.may (may_try plant mark.1 may.1) mark.3 (λ _. inl (ap (λ k. k.engine.state.persistent) c.fails.ensures.unkept))
    (λ _. (refl, inl (ap (λ k. k.engine.state.persistent) c.fails.ensures.unkept)))

pub returns-clause-kept : goal.returns-clause-kept
returns-clause-kept c =
    let off = c.if-self.false in
    let on = c.fails.ensures.stopped ∙ c.if-fails.false in
    let same = ap (λ k. k.engine) c.fails.ensures.unkept in
    let step = c.step_together.ensures in
    let made = made_together c.step_together.new.group in
    done_keeps _ _ _ _ _ _ _ c.args.self.now c.note_together.new.self made off (c.note_together.ensures.stopped ∙ on)
    (ap (λ k. k.engine.plant) c.note_together.ensures.unkept ∙ step.plant ∙ ap (λ e. e.plant) same)
    (ap (λ (b : Bool). if b then 1 else 0) (c.note_together.ensures.stopped ∙ on ∙ sym off)) step.whole
    (subst (λ e. IsLegal e.plant made e.state) same step.legal)
    (ap (λ k. k.engine.state) c.note_together.ensures.unkept ∙ subst (λ e. c.step_together.new.unkept.engine.state ≡ run e.plant made e.state) same step.state)
    (inl refl) (refl, inr refl) (λ _ _. tt)
