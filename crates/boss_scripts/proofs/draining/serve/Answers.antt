use Rattle.std.proofs.Common.{rules, ◌<◌, length, sym, subst, ◌∙◌, arith}
use Rattle.std.proofs.lemmas.Int.{to_z-of_z}
use Rattle.std.proofs.lemmas.List.{length-map}
use mir.Val.{SFits}
use mir.Syntax.{w64}
use Rattle.law_machine.proofs.Weighing.{want-of}
use Rattle.boss_model.specs.declared.command.Command.TheVariants as command
use Rattle.boss_scripts.specs.Outside.{trace}
use Rattle.boss_scripts.proofs.CallLemmas.{broke-off-ask, still-running, want-lighter, went-ask, went-report, went-unasked}
use Rattle.boss_scripts.proofs.Going.{went-then}
use Rattle.boss_scripts.proofs.Results.{on-err}
use Rattle.boss_scripts.proofs.ServeLemmas.{want-there}
use Rattle.boss_scripts.proofs.draining.serve.Goals as goal

pub returns-in-DiskFault-clause-did : goal.returns-in-DiskFault-clause-did
returns-in-DiskFault-clause-did g c =
    went-unasked g.V.Keeper c.args.catalogue.now c.args.moment c.requires.plant c.requires.running c.args.driver c.requires.wants
    (trace g.K.Sink g.A.Actuators c.args.sink.now c.args.devices.now.items) c.in-DiskFault.ensures.kept

pub unreachable-requires-in_default : goal.unreachable-requires-in_default
unreachable-requires-in_default g c =
    let wanted = want-of (g.V.Keeper.plant c.args.keeper.now) c.args.moment (g.V.Keeper.state c.args.keeper.now) c.args.driver c.requires.moment c.requires.sound c.requires.wants in
    c.in_default.not-Want wanted.point wanted.version wanted.value (c.in-Done.ensures.kept.legal.0.1 ∙ wanted.asks)

pub tell_write-requires-clause-known : goal.tell_write-requires-clause-known
tell_write-requires-clause-known g c =
    (want-there c.args.catalogue.now c.args.driver c.args.moment c.in-Want.point c.in-Want.version c.in-Want.value (g.V.Keeper.plant c.args.keeper.now) (g.V.Keeper.state c.args.keeper.now)
    c.requires.plant c.requires.moment c.requires.sound c.requires.wants (sym c.in-Done.ensures.kept.legal.0.1 ∙ c.in-Want.is)).0

pub apply-requires-2 : goal.apply-requires-2
apply-requires-2 g c = record {
  may = (
    subst (λ plant. c.in-Want.point < length plant) (sym c.in-Done.ensures.kept.same_plant)
        (want-there c.args.catalogue.now c.args.driver c.args.moment c.in-Want.point c.in-Want.version c.in-Want.value (g.V.Keeper.plant c.args.keeper.now) (g.V.Keeper.state c.args.keeper.now)
        c.requires.plant c.requires.moment c.requires.sound c.requires.wants (sym c.in-Done.ensures.kept.legal.0.1 ∙ c.in-Want.is)).1,
    c.requires.moment,
  );
}

pub returns-in_err-tell_write-clause-broke : goal.returns-in_err-tell_write-clause-broke
returns-in_err-tell_write-clause-broke g c =
    let fits : SFits w64 c.in-Want.value = search rules in
    let there = want-there c.args.catalogue.now c.args.driver c.args.moment c.in-Want.point c.in-Want.version c.in-Want.value (g.V.Keeper.plant c.args.keeper.now) (g.V.Keeper.state c.args.keeper.now)
    c.requires.plant c.requires.moment c.requires.sound c.requires.wants (sym c.in-Done.ensures.kept.legal.0.1 ∙ c.in-Want.is) in
    on-err c.from_residual.result _
    (broke-off-ask g.V.Keeper c.args.catalogue.now c.args.moment c.requires.plant c.requires.running c.args.driver c.requires.wants c.in-Done.answer c.in-Done.ensures.kept
    c.in-Want.point c.in-Want.version c.in-Want.value c.in-Want.is c.command_device-ok.result
    (trace g.K.Sink g.A.Actuators c.args.sink.now c.args.devices.now.items) (trace g.K.Sink g.A.Actuators c.tell_write.new.sink c.command_device-ok.new.devices.items)
    there.2 (omega (arith, length-map c.args.devices.now.items g.A.Actuators.calls)) c.command_device-ok.ensures.answered
    (λ whole. let gain = simp to_z-of_z at (c.command_device-ok.ensures.calls whole.0 whole.1) in ((whole.0, gain.0), gain.1))
    (λ tells. simp to_z-of_z at (c.in_err-tell_write.ensures.bytes tells)))

pub returns-clause-lighter : goal.returns-clause-lighter
returns-clause-lighter g c =
    want-lighter g.V.Keeper c.args.moment c.args.driver c.in-Want.point c.in-Want.version c.in-Want.value c.command_device-ok.result c.requires.running c.requires.moment c.requires.sound c.requires.wants
    c.in-Done.ensures.kept c.in-Want.is c.apply-2.result c.apply-2.ensures.stops c.apply-2.ensures.memory c.apply-2.ensures.undenied c.apply-2.ensures.kept

pub returns-clause-did : goal.returns-clause-did
returns-clause-did g c =
    let fits : SFits w64 c.in-Want.value = search rules in
    let there = want-there c.args.catalogue.now c.args.driver c.args.moment c.in-Want.point c.in-Want.version c.in-Want.value (g.V.Keeper.plant c.args.keeper.now) (g.V.Keeper.state c.args.keeper.now)
    c.requires.plant c.requires.moment c.requires.sound c.requires.wants (sym c.in-Done.ensures.kept.legal.0.1 ∙ c.in-Want.is) in
    let new = trace g.K.Sink g.A.Actuators c.tell_write.new.sink c.command_device-ok.new.devices.items in
    went-then g.V.Keeper c.requires.plant
    (went-ask g.V.Keeper c.args.catalogue.now c.args.moment c.requires.plant c.requires.running c.args.driver c.requires.wants c.in-Done.answer c.in-Done.ensures.kept
    c.in-Want.point c.in-Want.version c.in-Want.value c.in-Want.is c.command_device-ok.result
    (trace g.K.Sink g.A.Actuators c.args.sink.now c.args.devices.now.items) new
    there.2 (omega (arith, length-map c.args.devices.now.items g.A.Actuators.calls)) c.command_device-ok.ensures.answered
    (λ whole. let gain = simp to_z-of_z at (c.command_device-ok.ensures.calls whole.0 whole.1) in ((whole.0, gain.0), gain.1))
    (λ tells. simp to_z-of_z at (c.in_ok-tell_write.ensures.bytes tells)))
    (went-report g.V.Keeper c.args.catalogue.now c.args.moment (c.in-Done.ensures.kept.same_plant ∙ c.requires.plant)
    (still-running g.V.Keeper 0 (command.Next c.args.driver) c.args.moment c.in-Done.answer c.requires.running c.in-Done.ensures.kept)
    c.in-Want.point c.in-Want.version c.command_device-ok.result new c.apply-2.result c.apply-2.ensures.stops c.apply-2.ensures.memory c.apply-2.ensures.undenied c.apply-2.ensures.kept)
