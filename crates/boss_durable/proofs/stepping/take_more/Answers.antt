use Rattle.std.proofs.Common.{◌≡◌, ℕ, ◌<◌, List, [], ◌∷◌, ◌++◌, length, get_or, true, refl, ap, ◌∙◌, sym, subst, arith, append-nil, append_assoc, length-append}
use Rattle.boss_engine.specs.Running.{Running}
use Rattle.def_history.specs.declared.entry.Entry.{Entry}
use Rattle.def_history.specs.declared.entry.Entry.TheVariants.{Did}
use Rattle.def_history.specs.History.{MayCall}
use Rattle.def_history.specs.Made.{done_by}
use Rattle.boss_shared.specs.Calls.{is_growing_at}
use Rattle.boss_durable.specs.declared.batch.Batch.{Batch}
use Rattle.boss_durable.specs.Taken.{Taken}
use Rattle.boss_durable.proofs.Takings.{done_few, done_more, done_none, growing_at, may_at, taken_few, taken_short}
use Rattle.boss_durable.proofs.stepping.take_more.Goals as goal

pub loop-call-init : goal.loop-call-init
loop-call-init c =
    let nil : done_by c.args.session c.args.commands.now c.args.answers.now.items ≡ [] =
    ap (done_by c.args.session c.args.commands.now) c.requires.none ∙ done_none c.args.session c.args.commands.now in
    record {
      plant = refl;
      taken = λ made start held. subst (λ es. Taken c.args.engine.now.plant es start c.args.engine.now.state c.args.batch.now)
          (sym (ap (λ es. made ++ es) nil ∙ append-nil made)) held;
      many = ap length c.requires.none;
      capacity = c.requires.bytes;
      room = refl;
    }

pub take_step-requires-clause-may : goal.take_step-requires-clause-may
take_step-requires-clause-may c =
    subst (λ p. MayCall p c.call-item.result) (sym c.loop-call.invariant.plant)
    (may_at (MayCall c.args.engine.now.plant) c.args.commands.now c.loop-call.call-index c.call-item.result c.requires.may c.loop-call-test.true c.call-item.is)

pub take_step-requires-clause-room : goal.take_step-requires-clause-room
take_step-requires-clause-room c =
    let so = c.loop-call.invariant in
    let few = c.requires.few in
    omega (
      arith,
      taken_short _ _ _ _ _ (so.taken few.0 few.1 few.2),
      length-append few.0 (done_by c.args.session c.args.commands.now c.loop-call.answers.items),
      done_few c.args.session c.args.commands.now c.loop-call.answers.items,
      so.many,
      so.capacity,
      c.loop-call-test.true,
      few.3,
    )

pub take_step-requires-clause-few : goal.take_step-requires-clause-few
take_step-requires-clause-few c =
    let so = c.loop-call.invariant in
    let few = c.requires.few in
    omega (
      arith,
      taken_few _ _ _ _ _ (so.taken few.0 few.1 few.2),
      length-append few.0 (done_by c.args.session c.args.commands.now c.loop-call.answers.items),
      done_few c.args.session c.args.commands.now c.loop-call.answers.items,
      so.many,
      c.loop-call-test.true,
      few.3,
    )

pub returns-in-Err-clause-taken : goal.returns-in-Err-clause-taken
returns-in-Err-clause-taken c made start held =
    subst (λ (q : Running × Batch). Taken c.args.engine.now.plant (made ++ done_by c.args.session c.args.commands.now c.loop-call.answers.items) start q.0.state q.1)
    (λ i. (sym c.in-Err.ensures.err i, sym c.in-Err.ensures.none i)) (c.loop-call.invariant.taken made start held)

pub returns-in-Err-clause-rest : goal.returns-in-Err-clause-rest
returns-in-Err-clause-rest c less =
    let here : length c.loop-call.answers.items ≡ c.loop-call.call-index = c.loop-call.invariant.many in
    subst (λ (n : ℕ). is_growing_at c.args.commands.now n ≡ true) (sym here)
    (growing_at c.args.commands.now c.loop-call.call-index c.call-item.result c.loop-call-test.true c.call-item.is c.in-Err.ensures.grows)

pub loop-call-preserved : goal.loop-call-preserved
loop-call-preserved c =
    let so = c.loop-call.invariant in
    let made = c.in-Ok.ensures in
    let many : length c.loop-call.answers.items ≡ c.loop-call.call-index = so.many in
    let less : c.loop-call.call-index < length c.args.commands.now = c.loop-call-test.true in
    let longer = length-append c.loop-call.answers.items (c.in-Ok.answer ∷ []) in
    let put = ap length c.push_reserved.ensures.items in
    let before : List Entry = done_by c.args.session c.args.commands.now c.loop-call.answers.items in
    let one : List Entry = Did c.args.session c.call-item.result.0 c.call-item.result.1 c.in-Ok.answer ∷ [] in
    let more = done_more c.args.session c.args.commands.now c.loop-call.answers.items c.call-item.result c.in-Ok.answer (omega arith)
    (subst (λ (n : ℕ). c.call-item.result ≡ get_or c.args.commands.now n c.call-item.result) (sym many) c.call-item.is) in
    record {
      plant = made.plant ∙ so.plant;
      taken = λ first start held.
          subst (λ es. Taken c.args.engine.now.plant es start c.take_step.new.engine.state c.take_step.new.batch)
          (append_assoc first before one ∙ ap (λ es. first ++ es) (sym more ∙ ap (done_by c.args.session c.args.commands.now) (sym c.push_reserved.ensures.items)))
          (subst (λ p. Taken p ((first ++ before) ++ one) start c.take_step.new.engine.state c.take_step.new.batch) so.plant
          (made.taken (first ++ before) start (subst (λ p. Taken p (first ++ before) start c.loop-call.engine.state c.loop-call.batch) (sym so.plant) (so.taken first start held))));
      many = omega arith;
      capacity = made.capacity ∙ so.capacity;
      room = c.push_reserved.ensures.capacity ∙ so.room;
    }
