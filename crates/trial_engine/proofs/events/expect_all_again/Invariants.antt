use Rattle.std.proofs.Common.{◌≡◌}
use Rattle.boss_model.specs.Catalogue.{actuators}
use Rattle.trial_engine.proofs.events.expect_all_again.Given as goal

abbrev pub invariant-loop-call : goal.invariant-loop-call
invariant-loop-call g l = record {
  plant : l.engine.plant ≡ actuators l.catalogue;
  other : l.other.plant ≡ actuators l.catalogue;
}
