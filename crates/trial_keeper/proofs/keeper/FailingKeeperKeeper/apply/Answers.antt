use Rattle.std.proofs.Common.{◌≡◌, Bool, [], ◌∷◌, if◌then◌else◌, IfOk, OnErr, inl, inr, refl, sym, ap, ◌∙◌, subst, arith}
use Rattle.boss_model.specs.Machine.{step}
use Rattle.def_history.specs.declared.entry.Entry.TheVariants.{Did}
use Rattle.boss_outside.specs.Counts.{Rose}
use Rattle.boss_memory_keeper.proofs.Keepers.{done_keeps}
use Rattle.trial_keeper.proofs.Keepers.{fault_keeps}
use Rattle.trial_keeper.proofs.keeper.FailingKeeperKeeper.apply.Goals as goal

pub returns-then-fails-clause-kept : goal.returns-then-fails-clause-kept
returns-then-fails-clause-kept c =
    let off = c.if-self.false in
    let on = c.fails.ensures.stopped ∙ c.if-fails.true in
    fault_keeps _ _ _ _ _ _ _ c.args.self.now c.fails.new.self c.args.session ((c.args.command.now, c.args.moment) ∷ []) [] _ off on (ap (λ k. k.engine.plant) c.fails.ensures.unkept)
    (subst (λ (q : Bool × Bool). Rose (if q.0 then 1 else 0) (if q.1 then 1 else 0)) (λ i. (sym off i, sym on i)) (omega arith))
    (c.requires.may, tt) tt refl (λ _. inl (ap (λ k. k.engine.state.persistent) c.fails.ensures.unkept))
    (λ _. (refl, inl (ap (λ k. k.engine.state.persistent) c.fails.ensures.unkept)))

pub returns-in-Ok-clause-kept : goal.returns-in-Ok-clause-kept
returns-in-Ok-clause-kept c =
    let off = c.if-self.false in
    let on = c.fails.ensures.stopped ∙ c.if-fails.false in
    let same = ap (λ k. k.engine) c.fails.ensures.unkept in
    let took = c.take_step-step.ensures in
    let e = c.fails.new.self.unkept.engine in
    let answer = subst (λ r. IfOk r (λ answer. answer ≡ (step e.plant c.args.session c.args.command.now c.args.moment e.state).answer)) c.in-Ok.is took.answer in
    let state = subst (λ r. IfOk r (λ _. c.take_step-step.new.unkept.engine.state ≡ (step e.plant c.args.session c.args.command.now c.args.moment e.state).state)) c.in-Ok.is took.state in
    done_keeps _ _ _ _ _ _ _ c.args.self.now c.note.new.self (Did c.args.session c.args.command.now c.args.moment c.in-Ok.answer ∷ []) off (c.note.ensures.stopped ∙ on)
    (ap (λ k. k.engine.plant) c.note.ensures.unkept ∙ took.plant ∙ ap (λ e. e.plant) same) (ap (λ (b : Bool). if b then 1 else 0) (c.note.ensures.stopped ∙ on ∙ sym off)) refl
    ((c.requires.may, subst (λ e. c.in-Ok.answer ≡ (step e.plant c.args.session c.args.command.now c.args.moment e.state).answer) same answer), tt, tt)
    (ap (λ k. k.engine.state) c.note.ensures.unkept
    ∙ subst (λ e. c.take_step-step.new.unkept.engine.state ≡ (step e.plant c.args.session c.args.command.now c.args.moment e.state).state) same state) (inl refl) (refl, inr refl) (λ _ _. tt)

pub returns-in-Err-clause-kept : goal.returns-in-Err-clause-kept
returns-in-Err-clause-kept c =
    let off = c.if-self.false in
    let on = c.fails.ensures.stopped ∙ c.if-fails.false in
    let same = ap (λ k. k.engine) c.fails.ensures.unkept in
    let took = c.take_step-step.ensures in
    let state = subst (λ r. OnErr r (c.take_step-step.new.unkept.engine.state ≡ c.fails.new.self.unkept.engine.state)) c.in-Err.is took.err in
    done_keeps _ _ _ _ _ _ _ c.args.self.now c.note.new.self [] off (c.note.ensures.stopped ∙ on)
    (ap (λ k. k.engine.plant) c.note.ensures.unkept ∙ took.plant ∙ ap (λ e. e.plant) same) (ap (λ (b : Bool). if b then 1 else 0) (c.note.ensures.stopped ∙ on ∙ sym off)) refl tt
    (ap (λ k. k.engine.state) c.note.ensures.unkept ∙ state ∙ ap (λ e. e.state) same) (inl refl) (refl, inr refl) (λ _ _. tt)
