use Rattle.std.proofs.Common.{◌≤◌, ◌+◌, List, sym, subst, take, drop, length, refl, length-drop, arith, rules}
use Rattle.std.proofs.lemmas.List.{take_rest}
use Rattle.boss_model.specs.declared.state.Actuator.{Actuator}
use Rattle.boss_opening.specs.Again.{BeginsOn, NoneBegins}
use Rattle.boss_opening.proofs.Redone.{no_event, none_behind, none_yet, one_event, too_many}
use Rattle.boss_opening.proofs.replaying.replay_record.Goals as goal

pub loop-place-init : goal.loop-place-init
loop-place-init c = record {
  within = omega arith;
  few = omega arith;
  so_far = none_yet c.args.engine.now.plant c.args.version c.args.engine.now.state.persistent;
  same = refl;
  sound = c.requires;
}

pub returns-then-count-eq-MOST_EVENTS-clause-broken : goal.returns-then-count-eq-MOST_EVENTS-clause-broken
returns-then-count-eq-MOST_EVENTS-clause-broken c none =
    let engine = c.args.engine.now in
    too_many engine.plant c.args.version engine.state.persistent c.args.bytes.now c.loop-place.place c.loop-place.count c.loop-place.engine.state.persistent
    c.loop-place.invariant.so_far c.loop-place-test.true c.if-count-eq-MOST_EVENTS.true

pub loop-place-preserved : goal.loop-place-preserved
loop-place-preserved c =
    let engine = c.args.engine.now in
    let begins = rw c.in-Ok-Some.field-0-is at c.in-Ok-Some.ensures.begins in
    let here = subst (λ (plant : List Actuator). BeginsOn plant c.args.version c.loop-place.engine.state.persistent (drop c.loop-place.place c.args.bytes.now) c.in-Ok-Some.size c.replay_first.new.engine.state.persistent)
    c.loop-place.invariant.same
    (subst (λ bytes. BeginsOn c.loop-place.engine.plant c.args.version c.loop-place.engine.state.persistent bytes c.in-Ok-Some.size c.replay_first.new.engine.state.persistent)
    (take_rest c.args.bytes.now c.loop-place.place) begins) in
    let inside : c.in-Ok-Some.size ≤ length (drop c.loop-place.place c.args.bytes.now) = here.within in
    record {
      within = omega (arith, inside, length-drop c.loop-place.place c.args.bytes.now);
      few = omega arith;
      so_far = one_event engine.plant c.args.version engine.state.persistent c.args.bytes.now c.loop-place.place c.loop-place.count c.in-Ok-Some.size c.loop-place.engine.state.persistent
          c.replay_first.new.engine.state.persistent c.loop-place.invariant.so_far here;
      same = search rules;
      sound = c.replay_first.ensures.sound;
    }

pub returns-in-Ok-None-clause-broken : goal.returns-in-Ok-None-clause-broken
returns-in-Ok-None-clause-broken c none =
    let engine = c.args.engine.now in
    none_behind engine.plant c.args.version engine.state.persistent c.args.bytes.now c.loop-place.place c.loop-place.count c.loop-place.engine.state.persistent
    c.loop-place.invariant.so_far c.loop-place-test.true
    (subst (λ (plant : List Actuator). NoneBegins plant c.args.version c.loop-place.engine.state.persistent (drop c.loop-place.place c.args.bytes.now)) c.loop-place.invariant.same
    (subst (λ bytes. NoneBegins c.loop-place.engine.plant c.args.version c.loop-place.engine.state.persistent bytes) (take_rest c.args.bytes.now c.loop-place.place)
    (c.in-Ok-None.ensures.none c.in-Ok-None.field-0-is)))

pub returns-then-count-eq0-clause-broken : goal.returns-then-count-eq0-clause-broken
returns-then-count-eq0-clause-broken c none =
    let engine = c.args.engine.now in
    no_event engine.plant c.args.version engine.state.persistent c.args.bytes.now c.loop-place.place c.loop-place.count c.loop-place.engine.state.persistent
    c.loop-place.invariant.so_far c.loop-place-test.false c.if-count-eq0.true
