use Rattle.std.proofs.Common.{[], sym, ◌∙◌}
use Rattle.def_history.specs.declared.outcome.Outcome.TheVariants.{Done}
use Rattle.boss_shared.proofs.Telling.{call_told}
use Rattle.def_wire.specs.Script.{answered}
use Rattle.boss_scripts.specs.Outside.{trace}
use Rattle.boss_scripts.proofs.CallLemmas.{broke-off-answer, broke-off-halt, went-answer, went-halt}
use Rattle.boss_scripts.proofs.Fronts.{answered-covers}
use Rattle.boss_scripts.proofs.Going.{broke-off-then, went-then}
use Rattle.boss_scripts.proofs.Keeping.{kept-sound}
use Rattle.boss_scripts.proofs.Results.{on-err}
use Rattle.boss_scripts.proofs.RunLemmas.{broke-nothing}
use Rattle.boss_scripts.proofs.script.answer.Goals as goal

pub tell_answer-requires-clause-tellable : goal.tell_answer-requires-clause-tellable
tell_answer-requires-clause-tellable g c =
    call_told (g.V.Keeper.plant c.args.keeper.now) (g.V.Keeper.state c.args.keeper.now) [] c.args.session c.args.command.now c.args.moment (Done c.in-Done.answer)
    c.requires.sound (rw c.in-Done.is at c.apply-outcome.ensures.kept).legal c.args.catalogue.now (sym c.requires.plant)

pub returns-in_err-tell_answer-in-Done-clause-broke : goal.returns-in_err-tell_answer-in-Done-clause-broke
returns-in_err-tell_answer-in-Done-clause-broke g c = on-err c.from_residual.result _
    (broke-off-answer g.V.Keeper c.args.catalogue.now c.args.moment c.requires.plant c.requires.running c.args.session c.args.command.now
    (trace g.K.Sink g.A.Actuators c.args.sink.now c.args.devices.now.items) (g.K.Sink.taken c.tell_answer.new.sink) c.in-Done.answer (rw c.in-Done.is at c.apply-outcome.ensures.kept)
    c.in_err-tell_answer-in-Done.ensures.bytes)

pub drain-requires-clause-plant : goal.drain-requires-clause-plant
drain-requires-clause-plant g c = c.apply-outcome.ensures.kept.same_plant ∙ c.requires.plant

pub drain-requires-clause-sound : goal.drain-requires-clause-sound
drain-requires-clause-sound g c = kept-sound g.V.Keeper _ _ _ c.apply-outcome.ensures.kept (λ _. c.requires.sound)

pub returns-in_err-drain-in-Done-clause-broke : goal.returns-in_err-drain-in-Done-clause-broke
returns-in_err-drain-in-Done-clause-broke g c = on-err c.from_residual-in_err-drain-in-Done.result _
    (broke-off-then g.V.Keeper c.requires.plant
    (went-answer g.V.Keeper c.args.catalogue.now c.args.moment c.requires.plant c.requires.running c.args.session c.args.command.now
    (trace g.K.Sink g.A.Actuators c.args.sink.now c.args.devices.now.items) (g.K.Sink.taken c.tell_answer.new.sink) c.in-Done.answer (rw c.in-Done.is at c.apply-outcome.ensures.kept)
    c.in_ok-tell_answer-in-Done.ensures.bytes)
    c.in_err-drain-in-Done.ensures.broke)

pub returns-in-Done-clause-did : goal.returns-in-Done-clause-did
returns-in-Done-clause-did g c =
    went-then g.V.Keeper c.requires.plant
    (went-answer g.V.Keeper c.args.catalogue.now c.args.moment c.requires.plant c.requires.running c.args.session c.args.command.now
    (trace g.K.Sink g.A.Actuators c.args.sink.now c.args.devices.now.items) (g.K.Sink.taken c.tell_answer.new.sink) c.in-Done.answer (rw c.in-Done.is at c.apply-outcome.ensures.kept)
    c.in_ok-tell_answer-in-Done.ensures.bytes)
    c.in_ok-drain-in-Done.ensures.did

pub returns-in_err-tell_stopped-in-DiskFault-clause-broke : goal.returns-in_err-tell_stopped-in-DiskFault-clause-broke
returns-in_err-tell_stopped-in-DiskFault-clause-broke g c = on-err c.from_residual-in_err-tell_stopped-in-DiskFault.result _
    (broke-off-halt g.V.Keeper c.args.catalogue.now c.args.moment c.requires.plant c.requires.running c.args.session c.args.command.now
    (trace g.K.Sink g.A.Actuators c.args.sink.now c.args.devices.now.items) (g.K.Sink.taken c.tell_stopped.new.sink) (rw c.in-DiskFault.is at c.apply-outcome.ensures.kept)
    c.in_err-tell_stopped-in-DiskFault.ensures.bytes)

pub returns-in-DiskFault-clause-did : goal.returns-in-DiskFault-clause-did
returns-in-DiskFault-clause-did g c =
    went-halt g.V.Keeper c.args.catalogue.now c.args.moment c.requires.plant c.requires.running c.args.session c.args.command.now
    (trace g.K.Sink g.A.Actuators c.args.sink.now c.args.devices.now.items) (g.K.Sink.taken c.tell_stopped.new.sink) (rw c.in-DiskFault.is at c.apply-outcome.ensures.kept)
    c.in_ok-tell_stopped-in-DiskFault.ensures.bytes

pub returns-clause-broke : goal.returns-clause-broke
returns-clause-broke g c = record {
  entries = [];
  kept = (rw c.in-NoMemory.is at c.apply-outcome.ensures.kept);
  broke = λ tells start is.
      broke-nothing (answered c.args.catalogue.now c.args.session c.args.command.now c.args.moment) start (trace g.K.Sink g.A.Actuators c.args.sink.now c.args.devices.now.items)
      (answered-covers c.args.catalogue.now c.args.session c.args.command.now c.args.moment);
}
