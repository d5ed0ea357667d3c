use Rattle.std.proofs.Common.{◌≡◌}
use Rattle.boss_model.specs.Catalogue.{actuators}
use Rattle.trial_engine.proofs.sound.carry_out.Given as goal

abbrev pub invariant-loop-line : goal.invariant-loop-line
invariant-loop-line g l = record {
  plant : l.engine.plant ≡ actuators l.catalogue;
}
