use Rattle.std.proofs.Common.{◌≡◌, Bool, [], ◌++◌, Some, if◌then◌else◌, inl, inr, refl, sym, ap, ◌∙◌, subst, arith}
use Rattle.boss_outside.specs.Counts.{Rose}
use Rattle.def_history.specs.History.{run, IsLegal}
use Rattle.def_history.specs.Made.{done_by, mark_by, made_by_all}
use Rattle.def_history.specs.declared.outcome.Outcome.TheVariants.{DiskFault}
use Rattle.boss_memory_keeper.proofs.Keepers.{done_keeps, made_fine}
use Rattle.boss_memory_keeper.proofs.Steps.{done_none, done_whole}
use Rattle.trial_keeper.proofs.Keepers.{fault_keeps, idle_keeps}
use Rattle.trial_keeper.proofs.keeper.FailingKeeperKeeper.apply_all.Goals as goal

pub returns-then-self-clause-kept : goal.returns-then-self-clause-kept
returns-then-self-clause-kept c =
    let nothing = ap (done_by c.args.session c.args.commands.now) c.clear.ensures.items ∙ done_none c.args.session c.args.commands.now in
    idle_keeps _ _ _ _ _ _ _ _ _ c.if-self.true (ap (λ es. es ++ []) nothing)

pub returns-then-fails-clause-kept : goal.returns-then-fails-clause-kept
returns-then-fails-clause-kept c =
    let off = c.if-self.false in
    let on = c.fails.ensures.stopped ∙ c.if-fails.true in
    let nothing = ap (done_by c.args.session c.args.commands.now) c.clear.ensures.items ∙ done_none c.args.session c.args.commands.now in
    fault_keeps _ _ _ _ _ _ _ _ _ c.args.session c.args.commands.now [] _ off on (ap (λ k. k.engine.plant) c.fails.ensures.unkept)
    (subst (λ (q : Bool × Bool). Rose (if q.0 then 1 else 0) (if q.1 then 1 else 0)) (λ i. (sym off i, sym on i)) (omega arith))
    c.requires.may tt (ap (λ es. es ++ mark_by [] c.args.session c.args.commands.now (Some DiskFault)) nothing) (λ _. inl (ap (λ k. k.engine.state.persistent) c.fails.ensures.unkept))
    (λ _. (refl, inl (ap (λ k. k.engine.state.persistent) c.fails.ensures.unkept)))

pub returns-clause-kept : goal.returns-clause-kept
returns-clause-kept c =
    let off = c.if-self.false in
    let on = c.fails.ensures.stopped ∙ c.if-fails.false in
    let same = ap (λ k. k.engine) c.fails.ensures.unkept in
    let step = c.step_all-outcomes.ensures in
    let answers = c.step_all-outcomes.new.answers.items in
    let rest = c.step_all-outcomes.result.rest in
    let done = c.slice-calls.result.now in
    let made = done_by c.args.session done answers in
    let is = ap (λ calls. made_by_all [] c.args.session calls answers rest) (sym c.slice-calls.ensures) ∙ made_fine c.args.session done answers rest step.no_fault in
    let kept = done_keeps _ _ _ _ _ _ _ c.args.self.now c.note.new.self made off (c.note.ensures.stopped ∙ on)
    (ap (λ k. k.engine.plant) c.note.ensures.unkept ∙ step.plant ∙ ap (λ e. e.plant) same)
    (ap (λ (b : Bool). if b then 1 else 0) (c.note.ensures.stopped ∙ on ∙ sym off)) (done_whole c.args.session done answers)
    (subst (λ e. IsLegal e.plant made e.state) same step.legal)
    (ap (λ k. k.engine.state) c.note.ensures.unkept ∙ subst (λ e. c.step_all-outcomes.new.unkept.engine.state ≡ run e.plant made e.state) same step.state)
    (inl refl) (refl, inr refl) (λ _ _. tt) in
    rw is kept
