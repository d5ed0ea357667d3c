use Rattle.std.proofs.Common.{◌≡◌}
use Rattle.boss_model.specs.Catalogue.{actuators}
use Rattle.trial_reopening.proofs.confirming.failed_at.Given as goal

-- the points stay those of the catalogue
abbrev pub invariant-loop-place : goal.invariant-loop-place
invariant-loop-place g l = record { plant : l.durable.engine.plant ≡ actuators l.catalogue }
