use Rattle.std.proofs.Common.{◌≤◌, drop, length, refl, subst, ◌∙◌, arith, length-drop}
use Rattle.std.proofs.lemmas.List.{take_rest}
use Rattle.boss_feeding.proofs.Batches.{all_left, next_left, none_left, not_none, nothing_yet, one_broken, one_told, size_is, step_left, told_all}
use Rattle.def_bytes.specs.Batches.{batch_text}
use Rattle.def_bytes.specs.Events.{event}
use Rattle.boss_feeding.proofs.records.tell_record.Goals as goal

pub loop-place-init : goal.loop-place-init
loop-place-init g c = record {
  within = omega arith;
  few = omega arith;
  sink = refl;
  counted = λ batch spelled is. all_left c.args.before batch c.args.bytes.now spelled is;
  told = λ tells batch spelled is. nothing_yet c.args.before batch c.args.bytes.now c.args.from (g.K.Sink.taken c.args.sink.now) spelled is;
}

pub loop-place-preserved : goal.loop-place-preserved
loop-place-preserved g c =
    let so = c.loop-place.invariant in
    let before = c.args.before in
    let bytes = c.args.bytes.now in
    let place = c.loop-place.place in
    let number = c.loop-place.number in
    let size = c.in-Ok-Some.size in
    let inside = c.loop-place-test.true in
    let rest = take_rest bytes place in
    let some = rw c.in-Ok-Some.field-0-is at c.in-Ok-Some.ensures.some in
    let one = some.0 in
    let fits : size ≤ length (drop place bytes) = subst (λ xs. size ≤ length xs) rest some.1 in
    let few = so.few in
    record {
      within = omega (arith, fits, inside, length-drop place bytes);
      few = omega (arith, few, one);
      sink = c.in-Ok-Some.ensures.cause ∙ so.sink;
      counted = λ batch spelled is.
          let l = so.counted batch spelled is in
          let n = next_left before batch bytes place number l inside in
          step_left before batch bytes place number l n size
          (size_is size (length (event.text n.e)) c.in-Ok-Some.field-0 c.in-Ok-Some.field-0-is (c.in-Ok-Some.ensures.size n.e (batch_text n.more) n.fits (rest ∙ n.text)));
      told = λ tells batch spelled is.
          let t = so.told tells batch spelled is in
          let n = next_left before batch bytes place number t.at inside in
          one_told before batch bytes c.args.from (g.K.Sink.taken c.args.sink.now) (g.K.Sink.taken c.loop-place.sink) (g.K.Sink.taken c.tell_first.new.sink) place number size t n
          (size_is size (length (event.text n.e)) c.in-Ok-Some.field-0 c.in-Ok-Some.field-0-is (c.in-Ok-Some.ensures.size n.e (batch_text n.more) n.fits (rest ∙ n.text)))
          (c.in-Ok-Some.ensures.told tells n.e (batch_text n.more) n.fits (rest ∙ n.text));
    }

pub returns-in-Ok-None-clause-told : goal.returns-in-Ok-None-clause-told
returns-in-Ok-None-clause-told g c tells batch spelled is =
    let place = c.loop-place.place in
    let n = next_left c.args.before batch c.args.bytes.now place c.loop-place.number (c.loop-place.invariant.counted batch spelled is) c.loop-place-test.true in
    absurd (not_none (length (event.text n.e)) c.in-Ok-None.field-0 c.in-Ok-None.field-0-is
    (c.in-Ok-None.ensures.size n.e (batch_text n.more) n.fits (take_rest c.args.bytes.now place ∙ n.text)))

pub returns-in-Ok-None-clause-number : goal.returns-in-Ok-None-clause-number
returns-in-Ok-None-clause-number g c batch spelled is =
    let place = c.loop-place.place in
    let n = next_left c.args.before batch c.args.bytes.now place c.loop-place.number (c.loop-place.invariant.counted batch spelled is) c.loop-place-test.true in
    absurd (not_none (length (event.text n.e)) c.in-Ok-None.field-0 c.in-Ok-None.field-0-is
    (c.in-Ok-None.ensures.size n.e (batch_text n.more) n.fits (take_rest c.args.bytes.now place ∙ n.text)))

pub returns-in-Err-clause-told : goal.returns-in-Err-clause-told
returns-in-Err-clause-told g c tells batch spelled is =
    let before = c.args.before in
    let bytes = c.args.bytes.now in
    let place = c.loop-place.place in
    let number = c.loop-place.number in
    let t = c.loop-place.invariant.told tells batch spelled is in
    let n = next_left before batch bytes place number t.at c.loop-place-test.true in
    one_broken before batch bytes c.args.from (g.K.Sink.taken c.args.sink.now) (g.K.Sink.taken c.loop-place.sink) (g.K.Sink.taken c.tell_first.new.sink) place number t n
    (c.in-Err.ensures.told tells n.e (batch_text n.more) n.fits (take_rest bytes place ∙ n.text))

pub returns-clause-told : goal.returns-clause-told
returns-clause-told g c tells batch spelled is =
    told_all c.args.before batch c.args.bytes.now c.args.from (g.K.Sink.taken c.args.sink.now) (g.K.Sink.taken c.loop-place.sink) c.loop-place.place c.loop-place.number
    (c.loop-place.invariant.told tells batch spelled is) c.loop-place-test.false

pub returns-clause-number : goal.returns-clause-number
returns-clause-number g c batch spelled is =
    none_left c.args.before batch c.args.bytes.now c.loop-place.place c.loop-place.number (c.loop-place.invariant.counted batch spelled is) c.loop-place-test.false
