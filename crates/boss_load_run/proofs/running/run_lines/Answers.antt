use Rattle.std.proofs.Common.{inl, inr, ap, refl, subst}
use Rattle.boss_model.specs.Catalogue.{Catalogue}
use Rattle.boss_outside.specs.contracts.actuators.IdleActuatorsActuators.TheImpl.{ghosts as idle}
use Rattle.boss_outside.specs.contracts.sink.BytesSinkSink.TheImpl.{ghosts as takes}
use Rattle.boss_outside.specs.contracts.source.BytesSourceSource.TheImpl.{ghosts as gives}
use Rattle.boss_memory_keeper.specs.contracts.unkept.UnkeptKeeper.TheImpl.{ghosts as unkept}
use Rattle.boss_scripts.specs.Ends.{CarriesOut}
use Rattle.boss_scripts.specs.Outside.{outside}
use Rattle.boss_load_run.proofs.RunLemmas.{carried, none-rose}
use Rattle.boss_load_run.proofs.running.run_lines.Goals as goal

pub returns-in-Ok-Finish : goal.returns-in-Ok-Finish
returns-in-Ok-Finish c =
    let old = outside gives takes idle c.args.source.now c.args.sink.now c.in_ok-devices.devices.items in
    let new = outside gives takes idle c.run_script.new.source c.run_script.new.sink c.run_script.new.devices.items in
    carried unkept c.args.keeper.now c.run_script.new.keeper old new c.in-Ok-Finish.field-0 (inl c.in-Ok-Finish.field-0-is)
    (ap (λ e. e.plant) c.requires.new) (ap (λ e. e.state) c.requires.new) refl tt tt c.requires.empty
    (none-rose c.in_ok-devices.devices.items c.run_script.new.devices.items)
    (subst (λ (catalogue : Catalogue). CarriesOut unkept catalogue c.args.keeper.now c.run_script.new.keeper old new c.in-Ok-Finish.field-0) c.requires.catalogue c.in-Ok-Finish.ensures.ran)

pub returns-in-Ok-TooLong : goal.returns-in-Ok-TooLong
returns-in-Ok-TooLong c =
    let old = outside gives takes idle c.args.source.now c.args.sink.now c.in_ok-devices.devices.items in
    let new = outside gives takes idle c.run_script.new.source c.run_script.new.sink c.run_script.new.devices.items in
    carried unkept c.args.keeper.now c.run_script.new.keeper old new c.in-Ok-TooLong.field-0 (inr c.in-Ok-TooLong.field-0-is)
    (ap (λ e. e.plant) c.requires.new) (ap (λ e. e.state) c.requires.new) refl tt tt c.requires.empty
    (none-rose c.in_ok-devices.devices.items c.run_script.new.devices.items)
    (subst (λ (catalogue : Catalogue). CarriesOut unkept catalogue c.args.keeper.now c.run_script.new.keeper old new c.in-Ok-TooLong.field-0) c.requires.catalogue c.in-Ok-TooLong.ensures.ran)
