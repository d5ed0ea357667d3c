use Rattle.std.proofs.Common.{◌≡◌, ℕ, ◌+◌, ◌<◌, [], ◌∷◌, length, min, get_or, true, refl, ap, ◌∙◌, sym, subst, arith, length-append}
use Rattle.boss_model.specs.Effects.{event_of, step_effect}
use Rattle.boss_model.specs.Limits.{last_number}
use Rattle.boss_model.specs.Machine.{step}
use Rattle.def_history.specs.History.{events, if_event, MayCall}
use Rattle.def_history.specs.Made.{done_by}
use Rattle.boss_shared.specs.Calls.{is_growing_at}
use Rattle.boss_memory_keeper.proofs.Steps.{HasDone, count_next, count_nothing, done_next, done_nothing, growing_at, may_at}
use Rattle.boss_memory_keeper.proofs.stepping.step_all.Goals as goal

pub loop-call-init : goal.loop-call-init
loop-call-init c = record {
  plant = refl;
  done = done_nothing _ _ _ _ _ c.requires.none;
  count = count_nothing _ _ _ _ _ _ c.requires.none c.requires.counted;
  many = ap length c.requires.none;
  number = refl;
  room = refl;
}

pub step_counted-requires-clause-may : goal.step_counted-requires-clause-may
step_counted-requires-clause-may c =
    subst (λ p. MayCall p c.call-item.result) (sym c.loop-call.invariant.plant)
    (may_at (MayCall c.args.engine.now.plant) c.args.commands.now c.loop-call.call-index c.call-item.result c.requires.may c.loop-call-test.true c.call-item.is)

pub returns-in-Err-clause-rest : goal.returns-in-Err-clause-rest
returns-in-Err-clause-rest c =
    let less : c.loop-call.call-index < length c.args.commands.now = c.loop-call-test.true in
    let here : c.loop-call.done ≡ c.loop-call.call-index = c.loop-call.invariant.number in (
      omega arith,
      subst (λ (n : ℕ). is_growing_at c.args.commands.now n ≡ true) (sym here)
          (growing_at c.args.commands.now c.loop-call.call-index c.call-item.result less c.call-item.is c.in-Err.ensures.memory),
    )

pub loop-call-preserved : goal.loop-call-preserved
loop-call-preserved c =
    let so = c.loop-call.invariant in
    let made = c.in-Ok.ensures in
    let plant = c.args.engine.now.plant in
    let commands = c.args.commands.now in
    let answers = c.loop-call.answers.items in
    let call = c.call-item.result in
    let many : length answers ≡ c.loop-call.call-index = so.many in
    let less : c.loop-call.call-index < length commands = c.loop-call-test.true in
    let number : c.loop-call.done ≡ c.loop-call.call-index = so.number in
    let longer = length-append answers (c.in-Ok.answer ∷ []) in
    let put = ap length c.push_reserved.ensures.items in
    let within : length answers < length commands = omega arith in
    let is : call ≡ get_or commands (length answers) call = subst (λ (n : ℕ). call ≡ get_or commands n call) (sym many) c.call-item.is in
    let next = done_next plant c.args.session commands answers c.args.engine.now.state c.loop-call.engine.state c.step_counted.new.engine.state
    call c.in-Ok.answer so.done within is
    (may_at (MayCall plant) commands c.loop-call.call-index call c.requires.may less c.call-item.is)
    (subst (λ p. c.in-Ok.answer ≡ (step p c.args.session call.0 call.1 c.loop-call.engine.state).answer) so.plant made.answer)
    (subst (λ p. c.step_counted.new.engine.state ≡ (step p c.args.session call.0 call.1 c.loop-call.engine.state).state) so.plant made.state) in
    let count = count_next plant c.args.session commands answers c.args.engine.now.state c.loop-call.engine.state call c.in-Ok.answer c.args.count.now c.loop-call.count c.step_counted.new.count
    so.done within is so.count
    (subst (λ p. c.step_counted.new.count ≡ min (c.loop-call.count + length (if_event (event_of call.0 (step_effect p c.args.session call.0 call.1 c.loop-call.engine.state)) [])) last_number) so.plant made.count) in
    record {
      plant = made.plant ∙ so.plant;
      done = subst (λ answers. HasDone plant c.args.session commands answers c.args.engine.now.state c.step_counted.new.engine.state) (sym c.push_reserved.ensures.items) next;
      count = subst (λ answers. c.step_counted.new.count ≡ min (c.args.count.now + length (events plant (done_by c.args.session commands answers) c.args.engine.now.state)) last_number) (sym c.push_reserved.ensures.items) count;
      many = omega arith;
      number = omega arith;
      room = c.push_reserved.ensures.capacity ∙ so.room;
    }
