use Rattle.std.proofs.Common.{ap, refl}
use Rattle.boss_model.specs.Lines.{lines}
use Rattle.boss_scripts.specs.Outside.{outside}
use Rattle.boss_scripts.proofs.Results.{on-err}
use Rattle.boss_jobs.proofs.UnkeptLemmas.{broke-so, ended-so, nothing}
use Rattle.boss_jobs.proofs.script.run.Goals as goal

pub returns-in_err-keeper-clause-broke : goal.returns-in_err-keeper-clause-broke
returns-in_err-keeper-clause-broke g c = on-err c.from_residual.result _ (λ left tells.
    nothing c.args.catalogue.now (lines (g.S.Source.left c.args.source.now)) (outside g.S.Source g.K.Sink g.A.Actuators c.args.source.now c.args.sink.now c.args.devices.now.items))

pub returns-clause-ended : goal.returns-clause-ended
returns-clause-ended g c =
    ended-so _ c.args.catalogue.now _ _
    (outside g.S.Source g.K.Sink g.A.Actuators c.args.source.now c.args.sink.now c.args.devices.now.items)
    (outside g.S.Source g.K.Sink g.A.Actuators c.run_script.new.source c.run_script.new.sink c.run_script.new.devices.items)
    (ap (λ e. e.state) c.in_ok-keeper.ensures.new) refl c.run_script.result c.run_script.ensures.ran

pub returns-clause-broke : goal.returns-clause-broke
returns-clause-broke g c =
    broke-so _ c.args.catalogue.now _ _
    (outside g.S.Source g.K.Sink g.A.Actuators c.args.source.now c.args.sink.now c.args.devices.now.items)
    (outside g.S.Source g.K.Sink g.A.Actuators c.run_script.new.source c.run_script.new.sink c.run_script.new.devices.items)
    (ap (λ e. e.state) c.in_ok-keeper.ensures.new) refl c.run_script.result c.run_script.ensures.broke
