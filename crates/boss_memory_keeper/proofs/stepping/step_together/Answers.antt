use Rattle.std.proofs.Common.{◌≡◌, ◌+◌, [], ◌∷◌, ◌++◌, List, length, min, get_or, false, refl, sym, ap, ◌∙◌, subst, arith}
use Rattle.boss_model.specs.Limits.{last_number}
use Rattle.boss_model.specs.declared.state.Actuator.{Actuator}
use Rattle.boss_shared.specs.declared.asked.Asked.{Asked}
use Rattle.boss_shared.specs.Together.{AreReplied, MayAsk}
use Rattle.boss_shared.proofs.Along.{along_at, along_end, along_made, along_next, along_nothing}
use Rattle.boss_shared.proofs.Together.{answered_whole, replied_fine}
use Rattle.def_history.specs.declared.entry.Entry.{Entry}
use Rattle.def_history.specs.History.{events, is_broken, run, IsLegal}
use Rattle.def_history.specs.Made.{done_by}
use Rattle.boss_memory_keeper.proofs.Groups.{served_more, served_nothing}
use Rattle.boss_memory_keeper.proofs.stepping.step_together.Goals as goal

pub loop-asked-init : goal.loop-asked-init
loop-asked-init c =
    (refl, [], along_nothing c.args.group.now, served_nothing c.args.engine.now.plant c.args.engine.now.state c.args.count.now c.requires.counted)

pub step_one-requires-clause-may : goal.step_one-requires-clause-may
step_one-requires-clause-may c =
    let so = c.loop-asked.invariant in
    subst (λ (p : List Actuator). MayAsk p (get_or c.loop-asked.group c.loop-asked.asked-index c.asked-item.result)) (sym so.0)
    (along_at _ _ _ _ so.2 c.asked-item.result c.loop-asked-test.true (MayAsk c.args.engine.now.plant) c.requires.may)

pub step_one-requires-clause-counted : goal.step_one-requires-clause-counted
step_one-requires-clause-counted c = omega (arith, c.loop-asked.invariant.3.counted)

pub loop-asked-preserved : goal.loop-asked-preserved
loop-asked-preserved c =
    let so = c.loop-asked.invariant in
    let step = c.step_one.ensures in
    let new : Asked = c.step_one.new.asked in
    let made : List Entry = done_by new.session new.commands new.answers.items in (
      step.plant ∙ so.0,
      so.1 ++ new ∷ [],
      along_next _ _ _ _ so.2 c.asked-item.result c.loop-asked-test.true new step.asked,
      served_more c.args.engine.now.plant c.args.engine.now.state c.loop-asked.engine.state c.step_one.new.engine.state c.args.count.now c.loop-asked.count c.step_one.new.count so.1 new so.3
          (subst (λ (p : List Actuator). IsLegal p made c.loop-asked.engine.state) so.0 step.legal)
          (subst (λ (p : List Actuator). c.step_one.new.engine.state ≡ run p made c.loop-asked.engine.state) so.0 step.state)
          (subst (λ (p : List Actuator). c.step_one.new.count ≡ min (c.loop-asked.count + length (events p made c.loop-asked.engine.state)) last_number) so.0 step.count)
          step.no_fault step.told,
    )

pub returns-clause-whole : goal.returns-clause-whole
returns-clause-whole c =
    let so = c.loop-asked.invariant in
    ap is_broken (along_made _ _ _ _ so.2 c.loop-asked-test.false so.3.fine) ∙ answered_whole so.1

pub returns-clause-legal : goal.returns-clause-legal
returns-clause-legal c =
    let so = c.loop-asked.invariant in
    subst (λ (es : List Entry). IsLegal c.args.engine.now.plant es c.args.engine.now.state) (sym (along_made _ _ _ _ so.2 c.loop-asked-test.false so.3.fine)) so.3.legal

pub returns-clause-state : goal.returns-clause-state
returns-clause-state c =
    let so = c.loop-asked.invariant in
    so.3.state_is ∙ ap (λ (es : List Entry). run c.args.engine.now.plant es c.args.engine.now.state) (sym (along_made _ _ _ _ so.2 c.loop-asked-test.false so.3.fine))

pub returns-clause-count : goal.returns-clause-count
returns-clause-count c =
    let so = c.loop-asked.invariant in
    so.3.counted
    ∙ ap (λ (es : List Entry). min (c.args.count.now + length (events c.args.engine.now.plant es c.args.engine.now.state)) last_number) (sym (along_made _ _ _ _ so.2 c.loop-asked-test.false so.3.fine))

pub returns-clause-asked : goal.returns-clause-asked
returns-clause-asked c = c.loop-asked.invariant.2.same

pub returns-clause-told : goal.returns-clause-told
returns-clause-told c =
    let so = c.loop-asked.invariant in
    subst (AreReplied false) (sym (along_end _ _ _ _ so.2 c.loop-asked-test.false)) (replied_fine so.1 so.3.told so.3.fine)
