use Rattle.std.proofs.Common.{[], sym, ◌∙◌}
use Rattle.boss_scripts.specs.Outside.{trace}
use Rattle.boss_scripts.specs.Runs.{line_taken}
use Rattle.boss_scripts.proofs.Fronts.{line-covers}
use Rattle.boss_scripts.proofs.Going.{broke-off-nothing}
use Rattle.boss_scripts.proofs.Keeping.{kept-nothing}
use Rattle.boss_scripts.proofs.LineLemmas.{not-long, did-blank, broke-request, did-request, did-refusal, broke-refusal, did-stopped, broke-stopped}
use Rattle.boss_scripts.proofs.Results.{err-then, ok-then, on-err}
use Rattle.boss_scripts.proofs.script.take_line.Goals as goal

pub returns-then-is_blank-clause-did : goal.returns-then-is_blank-clause-did
returns-then-is_blank-clause-did g c = record {
  entries = [];
  kept = kept-nothing g.V.Keeper c.args.keeper.now;
  did = λ tells start is.
      did-blank c.args.catalogue.now c.args.line.now (not-long c.args.line.now c.requires.line) start (sym c.is_blank.ensures ∙ c.if-is_blank.true)
      (trace g.K.Sink g.A.Actuators c.args.sink.now c.args.devices.now.items);
}

pub returns-in_err-tell_stopped-clause-broke : goal.returns-in_err-tell_stopped-clause-broke
returns-in_err-tell_stopped-clause-broke g c = on-err c.from_residual.result _ (record {
  entries = [];
  kept = kept-nothing g.V.Keeper c.args.keeper.now;
  broke = λ tells start is.
      broke-stopped c.args.catalogue.now c.args.line.now (not-long c.args.line.now c.requires.line) start (sym c.is_blank.ensures ∙ c.if-is_blank.false)
      (trace g.K.Sink g.A.Actuators c.args.sink.now c.args.devices.now.items) (g.K.Sink.taken c.tell_stopped.new.sink)
      (sym is.stopped ∙ sym c.has_stopped.ensures ∙ c.if-has_stopped.true) (c.in_err-tell_stopped.ensures.bytes tells);
})

pub returns-then-has_stopped-clause-did : goal.returns-then-has_stopped-clause-did
returns-then-has_stopped-clause-did g c = record {
  entries = [];
  kept = kept-nothing g.V.Keeper c.args.keeper.now;
  did = λ tells start is.
      did-stopped c.args.catalogue.now c.args.line.now (not-long c.args.line.now c.requires.line) start (sym c.is_blank.ensures ∙ c.if-is_blank.false)
      (trace g.K.Sink g.A.Actuators c.args.sink.now c.args.devices.now.items) (g.K.Sink.taken c.tell_stopped.new.sink)
      (sym is.stopped ∙ sym c.has_stopped.ensures ∙ c.if-has_stopped.true) (c.in_ok-tell_stopped.ensures.bytes tells);
}

pub returns-in_err-tell_refusal-in-Err-Refused-clause-broke : goal.returns-in_err-tell_refusal-in-Err-Refused-clause-broke
returns-in_err-tell_refusal-in-Err-Refused-clause-broke g c = on-err c.from_residual-in_err-tell_refusal-in-Err-Refused.result _ (record {
  entries = [];
  kept = kept-nothing g.V.Keeper c.args.keeper.now;
  broke = λ tells start is.
      broke-refusal c.args.catalogue.now c.args.line.now (not-long c.args.line.now c.requires.line) start (sym c.is_blank.ensures ∙ c.if-is_blank.false)
      (trace g.K.Sink g.A.Actuators c.args.sink.now c.args.devices.now.items) (g.K.Sink.taken c.tell_refusal.new.sink)
      (sym is.stopped ∙ sym c.has_stopped.ensures ∙ c.if-has_stopped.false) c.in-Err-Refused.refusal (rw (c.in-Err-Refused.is, rw c.in-Err-Refused.is at c.in-Err-Refused.field-0-is) at c.read_by-read.ensures.request)
      (c.in_err-tell_refusal-in-Err-Refused.ensures.bytes tells);
})

pub returns-in-Err-Refused-clause-did : goal.returns-in-Err-Refused-clause-did
returns-in-Err-Refused-clause-did g c = record {
  entries = [];
  kept = kept-nothing g.V.Keeper c.args.keeper.now;
  did = λ tells start is.
      did-refusal c.args.catalogue.now c.args.line.now (not-long c.args.line.now c.requires.line) start (sym c.is_blank.ensures ∙ c.if-is_blank.false)
      (trace g.K.Sink g.A.Actuators c.args.sink.now c.args.devices.now.items) (g.K.Sink.taken c.tell_refusal.new.sink)
      (sym is.stopped ∙ sym c.has_stopped.ensures ∙ c.if-has_stopped.false) c.in-Err-Refused.refusal (rw (c.in-Err-Refused.is, rw c.in-Err-Refused.is at c.in-Err-Refused.field-0-is) at c.read_by-read.ensures.request)
      (c.in_ok-tell_refusal-in-Err-Refused.ensures.bytes tells);
}

pub returns-in-Command-clause-did : goal.returns-in-Command-clause-did
returns-in-Command-clause-did g c = ok-then c.answer.result _ _ (λ went. record {
  entries = went.entries;
  kept = went.kept;
  did = λ tells start is.
      did-request c.args.catalogue.now c.args.line.now (not-long c.args.line.now c.requires.line) start (sym c.is_blank.ensures ∙ c.if-is_blank.false)
      (sym is.stopped ∙ sym c.has_stopped.ensures ∙ c.if-has_stopped.false) c.in-Ok.request c.in-Command.command c.in-Command.is (rw c.in-Ok.is at c.read_by-read.ensures.request) (went.did tells start is);
}) c.answer.ensures.did

pub returns-in-Command-clause-broke : goal.returns-in-Command-clause-broke
returns-in-Command-clause-broke g c = err-then c.answer.result _ _ (λ broke. record {
  entries = broke.entries;
  kept = broke.kept;
  broke = λ tells start is.
      broke-request c.args.catalogue.now c.args.line.now (not-long c.args.line.now c.requires.line) start (sym c.is_blank.ensures ∙ c.if-is_blank.false)
      (sym is.stopped ∙ sym c.has_stopped.ensures ∙ c.if-has_stopped.false) c.in-Ok.request c.in-Command.command c.in-Command.is (rw c.in-Ok.is at c.read_by-read.ensures.request) (broke.broke tells start is);
}) c.answer.ensures.broke

pub returns-clause-broke : goal.returns-clause-broke
returns-clause-broke g c =
    broke-off-nothing g.V.Keeper (line_taken c.args.catalogue.now c.args.line.now) c.args.keeper.now (trace g.K.Sink g.A.Actuators c.args.sink.now c.args.devices.now.items)
    (line-covers c.args.catalogue.now c.args.line.now)
