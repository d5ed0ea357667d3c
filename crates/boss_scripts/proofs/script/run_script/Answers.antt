use Rattle.std.proofs.Common.{◌≡◌, ◌++◌, ap, refl, subst, ◌∙◌}
use Rattle.boss_scripts.specs.Ends.{BrokeLines, TookLines}
use Rattle.boss_scripts.specs.Outside.{outside, trace}
use Rattle.boss_scripts.proofs.CarryLemmas.{carries-out, carries-over, leaves-lines, leaves-nothing, leaves-opening, leaves-over}
use Rattle.boss_scripts.proofs.Keeping.{kept-sound}
use Rattle.boss_scripts.proofs.Results.{on-err}
use Rattle.boss_scripts.proofs.script.run_script.Goals as goal

pub returns-in_err-reader-clause-broke : goal.returns-in_err-reader-clause-broke
returns-in_err-reader-clause-broke g c = on-err c.from_residual.result _
    (leaves-nothing g.V.Keeper c.args.catalogue.now c.requires.plant c.requires.running
    (outside g.S.Source g.K.Sink g.A.Actuators c.args.source.now c.args.sink.now c.args.devices.now.items))

pub returns-in_err-text-clause-broke : goal.returns-in_err-text-clause-broke
returns-in_err-text-clause-broke g c = on-err c.from_residual-in_err-text.result _
    (leaves-nothing g.V.Keeper c.args.catalogue.now c.requires.plant c.requires.running
    (outside g.S.Source g.K.Sink g.A.Actuators c.args.source.now c.args.sink.now c.args.devices.now.items))

pub returns-in_err-drain-clause-broke : goal.returns-in_err-drain-clause-broke
returns-in_err-drain-clause-broke g c = on-err c.from_residual-in_err-drain.result _
    (leaves-opening g.V.Keeper c.args.catalogue.now c.requires.plant c.requires.running
    (outside g.S.Source g.K.Sink g.A.Actuators c.args.source.now c.args.sink.now c.args.devices.now.items)
    (outside g.S.Source g.K.Sink g.A.Actuators c.args.source.now c.drain.new.sink c.drain.new.devices.items) refl c.in_err-drain.ensures.broke)

pub take_lines-requires-clause-plant : goal.take_lines-requires-clause-plant
take_lines-requires-clause-plant g c = c.in_ok-drain.ensures.did.kept.same_plant ∙ c.requires.plant

pub take_lines-requires-clause-sound : goal.take_lines-requires-clause-sound
take_lines-requires-clause-sound g c = kept-sound g.V.Keeper _ _ _ c.in_ok-drain.ensures.did.kept (λ _. c.requires.sound)

pub returns-in_err-end-clause-broke : goal.returns-in_err-end-clause-broke
returns-in_err-end-clause-broke g c =
    let none : c.in_ok-reader.reader.ahead ++ g.S.Source.left c.args.source.now ≡ g.S.Source.left c.args.source.now = ap (λ r. r.ahead ++ g.S.Source.left c.args.source.now) c.in_ok-reader.ensures in
    on-err c.from_residual-in_err-end.result _
    (leaves-lines g.V.Keeper c.args.catalogue.now c.requires.plant c.requires.running
    (outside g.S.Source g.K.Sink g.A.Actuators c.args.source.now c.args.sink.now c.args.devices.now.items)
    (trace g.K.Sink g.A.Actuators c.drain.new.sink c.drain.new.devices.items) c.in_ok-drain.ensures.did
    (outside g.S.Source g.K.Sink g.A.Actuators c.take_lines.new.source c.take_lines.new.sink c.take_lines.new.devices.items)
    (subst (λ bytes. BrokeLines g.V.Keeper c.args.catalogue.now c.drain.new.keeper c.take_lines.new.keeper g.S.Source.tells bytes (g.S.Source.reads c.args.source.now)
    (g.S.Source.reads c.take_lines.new.source) g.K.Sink.tells (trace g.K.Sink g.A.Actuators c.drain.new.sink c.drain.new.devices.items)
    (trace g.K.Sink g.A.Actuators c.take_lines.new.sink c.take_lines.new.devices.items)) none c.in_err-end.ensures.broke))

pub returns-clause-ran : goal.returns-clause-ran
returns-clause-ran g c =
    let none : c.in_ok-reader.reader.ahead ++ g.S.Source.left c.args.source.now ≡ g.S.Source.left c.args.source.now = ap (λ r. r.ahead ++ g.S.Source.left c.args.source.now) c.in_ok-reader.ensures in
    carries-out g.V.Keeper c.args.catalogue.now c.requires.plant c.requires.running
    (outside g.S.Source g.K.Sink g.A.Actuators c.args.source.now c.args.sink.now c.args.devices.now.items)
    (trace g.K.Sink g.A.Actuators c.drain.new.sink c.drain.new.devices.items) c.in_ok-drain.ensures.did
    (outside g.S.Source g.K.Sink g.A.Actuators c.take_lines.new.source c.take_lines.new.sink c.take_lines.new.devices.items) c.in_ok-end.end
    (subst (λ bytes. TookLines g.V.Keeper c.args.catalogue.now c.drain.new.keeper c.take_lines.new.keeper g.S.Source.tells bytes (g.S.Source.left c.take_lines.new.source)
    (g.S.Source.reads c.args.source.now) (g.S.Source.reads c.take_lines.new.source) g.K.Sink.tells
    (trace g.K.Sink g.A.Actuators c.drain.new.sink c.drain.new.devices.items) (trace g.K.Sink g.A.Actuators c.take_lines.new.sink c.take_lines.new.devices.items) c.in_ok-end.end)
    none c.in_ok-end.ensures.took) c.in_default.not-TooLong

pub returns-in_err-tell_too_long-in-TooLong-clause-broke : goal.returns-in_err-tell_too_long-in-TooLong-clause-broke
returns-in_err-tell_too_long-in-TooLong-clause-broke g c =
    let none : c.in_ok-reader.reader.ahead ++ g.S.Source.left c.args.source.now ≡ g.S.Source.left c.args.source.now = ap (λ r. r.ahead ++ g.S.Source.left c.args.source.now) c.in_ok-reader.ensures in
    on-err c.from_residual-in_err-tell_too_long-in-TooLong.result _
    (leaves-over g.V.Keeper c.args.catalogue.now c.requires.plant c.requires.running
    (outside g.S.Source g.K.Sink g.A.Actuators c.args.source.now c.args.sink.now c.args.devices.now.items)
    (trace g.K.Sink g.A.Actuators c.drain.new.sink c.drain.new.devices.items) c.in_ok-drain.ensures.did
    (outside g.S.Source g.K.Sink g.A.Actuators c.take_lines.new.source c.take_lines.new.sink c.take_lines.new.devices.items) c.in_ok-end.end
    (subst (λ bytes. TookLines g.V.Keeper c.args.catalogue.now c.drain.new.keeper c.take_lines.new.keeper g.S.Source.tells bytes (g.S.Source.left c.take_lines.new.source)
    (g.S.Source.reads c.args.source.now) (g.S.Source.reads c.take_lines.new.source) g.K.Sink.tells
    (trace g.K.Sink g.A.Actuators c.drain.new.sink c.drain.new.devices.items) (trace g.K.Sink g.A.Actuators c.take_lines.new.sink c.take_lines.new.devices.items) c.in_ok-end.end)
    none c.in_ok-end.ensures.took) c.in-TooLong.is (g.K.Sink.taken c.tell_too_long.new.sink) (g.K.Sink.faults c.tell_too_long.new.sink) c.in_err-tell_too_long-in-TooLong.ensures.bytes)

pub returns-in-TooLong-clause-ran : goal.returns-in-TooLong-clause-ran
returns-in-TooLong-clause-ran g c =
    let none : c.in_ok-reader.reader.ahead ++ g.S.Source.left c.args.source.now ≡ g.S.Source.left c.args.source.now = ap (λ r. r.ahead ++ g.S.Source.left c.args.source.now) c.in_ok-reader.ensures in
    carries-over g.V.Keeper c.args.catalogue.now c.requires.plant c.requires.running
    (outside g.S.Source g.K.Sink g.A.Actuators c.args.source.now c.args.sink.now c.args.devices.now.items)
    (trace g.K.Sink g.A.Actuators c.drain.new.sink c.drain.new.devices.items) c.in_ok-drain.ensures.did
    (outside g.S.Source g.K.Sink g.A.Actuators c.take_lines.new.source c.take_lines.new.sink c.take_lines.new.devices.items) c.in_ok-end.end
    (subst (λ bytes. TookLines g.V.Keeper c.args.catalogue.now c.drain.new.keeper c.take_lines.new.keeper g.S.Source.tells bytes (g.S.Source.left c.take_lines.new.source)
    (g.S.Source.reads c.args.source.now) (g.S.Source.reads c.take_lines.new.source) g.K.Sink.tells
    (trace g.K.Sink g.A.Actuators c.drain.new.sink c.drain.new.devices.items) (trace g.K.Sink g.A.Actuators c.take_lines.new.sink c.take_lines.new.devices.items) c.in_ok-end.end)
    none c.in_ok-end.ensures.took) c.in-TooLong.is (g.K.Sink.taken c.tell_too_long.new.sink) (g.K.Sink.faults c.tell_too_long.new.sink) c.in_ok-tell_too_long-in-TooLong.ensures.bytes
