use Rattle.std.proofs.Common.{◌+◌, ◌++◌, take, drop, Result, Ok, Err, subst, sym, refl, ap, ◌∙◌, arith}
use Rattle.std.proofs.lemmas.Result.{err_from_is_err_and}
use Rattle.boss_feeding.specs.declared.fault.FeedFault.{FeedFault}
use Rattle.boss_feeding.specs.Lines.{line_text, lines_text}
use Rattle.boss_feeding.proofs.Items.{parts_text}
use Rattle.boss_feeding.proofs.Parts.{part_broken, part_step, state_broken, state_told, text_told}
use Rattle.boss_feeding.proofs.Writing.{none_yet}
use Rattle.boss_outside.specs.Streams.{TakesFront, Writes}
use Rattle.def_feed.specs.Feeds.{state_items}
use Rattle.def_feed.specs.Items.{PartLine}
use Rattle.boss_feeding.proofs.texts.tell_text.Goals as goal

pub loop-done-init : goal.loop-done-init
loop-done-init g c = record {
  within = omega arith;
  reads = λ tells. refl;
  windows = λ tells. refl;
  faults = refl;
  sink = refl;
  told = λ tells takes text has. none_yet (g.K.Sink.taken c.tell_state.new.sink) (parts_text text);
}

pub loop-done-preserved : goal.loop-done-preserved
loop-done-preserved g c =
    let so = c.loop-done.invariant in
    let done = c.loop-done.done in
    let count = c.min-count.result in
    let ok = c.in_ok-tell_part_at.ensures in
    record {
      within = omega (arith, c.min-count.ensures, c.loop-done-test.true);
      reads = λ tells. ok.reads tells ∙ so.reads tells;
      windows = λ tells. ok.windows tells ∙ so.windows tells;
      faults = ok.cause ∙ so.faults;
      sink = ok.sink ∙ so.sink;
      told = λ tells takes text has.
          part_step c.args.number c.args.place c.args.size text (g.D.Disk.reads c.args.disk.now) (g.K.Sink.taken c.tell_state.new.sink) has
          done count c.loop-done-test.true c.min-count.ensures (g.K.Sink.taken c.loop-done.sink) (g.K.Sink.taken c.tell_part_at.new.sink) (so.told tells takes text has)
          (ok.told tells takes ∙ ap (λ b. g.K.Sink.taken c.loop-done.sink ++ line_text (PartLine (take count (drop (c.args.place + done) b)))) (so.reads tells));
    }

pub returns-in_err-tell_state-clause-told : goal.returns-in_err-tell_state-clause-told
returns-in_err-tell_state-clause-told g c tells takes text has =
    let p = err_from_is_err_and c.from_residual.result c.from_residual.ensures.1 in
    subst (λ (r : Result (Unit {0}) FeedFault). Writes (g.K.Sink.taken c.args.sink.now) (g.K.Sink.taken c.tell_state.new.sink) (lines_text (state_items c.args.number text)) r) (sym p.1) (state_broken c.args.number c.args.place c.args.size text (g.D.Disk.reads c.args.disk.now) (g.K.Sink.taken c.args.sink.now) has
    (g.K.Sink.taken c.tell_state.new.sink) (c.in_err-tell_state.ensures.told takes))

pub returns-clause-told : goal.returns-clause-told
returns-clause-told g c tells takes text has =
    let reads = g.D.Disk.reads c.args.disk.now in
    let old = g.K.Sink.taken c.args.sink.now in
    let mid = g.K.Sink.taken c.tell_state.new.sink in
    let new = g.K.Sink.taken c.loop-done.sink in
    state_told c.args.number c.args.place c.args.size text reads old has {T = Unit {0}} {E = FeedFault} mid new (Ok (tt {0})) (c.in_ok-tell_state.ensures.told takes)
    (text_told c.args.number c.args.place c.args.size text reads mid has c.loop-done.done new c.loop-done-test.false (c.loop-done.invariant.told tells takes text has))

pub returns-in_err-tell_part_at-clause-told : goal.returns-in_err-tell_part_at-clause-told
returns-in_err-tell_part_at-clause-told g c tells takes text has =
    let so = c.loop-done.invariant in
    let now = g.K.Sink.taken c.loop-done.sink in
    let new = g.K.Sink.taken c.tell_part_at.new.sink in
    let mid = g.K.Sink.taken c.tell_state.new.sink in
    let old = g.K.Sink.taken c.args.sink.now in
    let reads = g.D.Disk.reads c.args.disk.now in
    let p = err_from_is_err_and c.from_residual-in_err-tell_part_at.result c.from_residual-in_err-tell_part_at.ensures.1 in
    let front = subst (λ b. TakesFront now new (line_text (PartLine (take c.min-count.result (drop (c.args.place + c.loop-done.done) b))))) (so.reads tells) (c.in_err-tell_part_at.ensures.told tells takes) in
    subst (λ (r : Result (Unit {0}) FeedFault). Writes old new (lines_text (state_items c.args.number text)) r) (sym p.1) (state_told c.args.number c.args.place c.args.size text reads old has {T = Unit {0}} {E = FeedFault} mid new (Err p.0) (c.in_ok-tell_state.ensures.told takes)
    (part_broken c.args.number c.args.place c.args.size text reads mid has c.loop-done.done c.min-count.result c.loop-done-test.true c.min-count.ensures now new
    (so.told tells takes text has) front))
