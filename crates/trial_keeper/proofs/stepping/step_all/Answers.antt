use Rattle.std.proofs.Common.{◌≡◌, ℕ, ◌<◌, [], ◌∷◌, length, get_or, true, refl, ap, ◌∙◌, sym, subst, arith, length-append}
use Rattle.boss_model.specs.Machine.{step}
use Rattle.boss_model.specs.Sound.{IsAllowed}
use Rattle.def_history.specs.History.{MayCall}
use Rattle.boss_shared.specs.Calls.{is_growing_at}
use Rattle.boss_memory_keeper.proofs.Steps.{HasDone, done_next, done_nothing, growing_at, may_at}
use Rattle.trial_keeper.proofs.stepping.step_all.Goals as goal

pub loop-call-init : goal.loop-call-init
loop-call-init c = record { plant = refl; done = done_nothing _ _ _ _ _ c.requires.none; many = ap length c.requires.none; count = refl; room = refl }

pub take_step-requires-clause-moment : goal.take_step-requires-clause-moment
take_step-requires-clause-moment c =
    (may_at (MayCall c.args.unkept.now.engine.plant) c.args.commands.now c.loop-call.call-index c.call-item.result c.requires.may c.loop-call-test.true c.call-item.is).1

pub take_step-requires-clause-allowed : goal.take_step-requires-clause-allowed
take_step-requires-clause-allowed c =
    subst (λ p. IsAllowed p c.call-item.result.0) (sym c.loop-call.invariant.plant)
    (may_at (MayCall c.args.unkept.now.engine.plant) c.args.commands.now c.loop-call.call-index c.call-item.result c.requires.may c.loop-call-test.true c.call-item.is).0

pub returns-in-Err-clause-rest : goal.returns-in-Err-clause-rest
returns-in-Err-clause-rest c =
    let less : c.loop-call.call-index < length c.args.commands.now = c.loop-call-test.true in
    let here : c.loop-call.done ≡ c.loop-call.call-index = c.loop-call.invariant.count in (
      omega arith,
      subst (λ (n : ℕ). is_growing_at c.args.commands.now n ≡ true) (sym here)
          (growing_at c.args.commands.now c.loop-call.call-index c.call-item.result less c.call-item.is c.in-Err.ensures.memory),
    )

pub loop-call-preserved : goal.loop-call-preserved
loop-call-preserved c =
    let so = c.loop-call.invariant in
    let made = c.in-Ok.ensures in
    let many : length c.loop-call.answers.items ≡ c.loop-call.call-index = so.many in
    let less : c.loop-call.call-index < length c.args.commands.now = c.loop-call-test.true in
    let count : c.loop-call.done ≡ c.loop-call.call-index = so.count in
    let longer = length-append c.loop-call.answers.items (c.in-Ok.answer ∷ []) in
    let put = ap length c.push_reserved.ensures.items in
    let next = done_next c.args.unkept.now.engine.plant c.args.session c.args.commands.now c.loop-call.answers.items c.args.unkept.now.engine.state c.loop-call.unkept.engine.state c.take_step.new.unkept.engine.state
    c.call-item.result c.in-Ok.answer so.done (omega arith)
    (subst (λ (n : ℕ). c.call-item.result ≡ get_or c.args.commands.now n c.call-item.result) (sym many) c.call-item.is)
    (may_at (MayCall c.args.unkept.now.engine.plant) c.args.commands.now c.loop-call.call-index c.call-item.result c.requires.may less c.call-item.is)
    (subst (λ p. c.in-Ok.answer ≡ (step p c.args.session c.call-item.result.0 c.call-item.result.1 c.loop-call.unkept.engine.state).answer) so.plant made.answer)
    (subst (λ p. c.take_step.new.unkept.engine.state ≡ (step p c.args.session c.call-item.result.0 c.call-item.result.1 c.loop-call.unkept.engine.state).state) so.plant made.state) in
    record {
      plant = made.plant ∙ so.plant;
      done = subst (λ answers. HasDone c.args.unkept.now.engine.plant c.args.session c.args.commands.now answers c.args.unkept.now.engine.state c.take_step.new.unkept.engine.state) (sym c.push_reserved.ensures.items) next;
      many = omega arith;
      count = omega arith;
      room = c.push_reserved.ensures.capacity ∙ so.room;
    }
