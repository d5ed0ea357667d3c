-- References that stay the same ones.
use Rattle.std.proofs.Common.{◌≡◌, refl, ◌∙◌}
use Rattle.boss_server.specs.declared.outside.Outside.{Outside}
use Rattle.boss_server.specs.References.{KeepsReferences}

module _ {H C W A P : Type 0} where
  pub references-same : (outside : Outside H C W A P) → KeepsReferences outside outside
  references-same outside = record { host = refl; clock = refl; waiter = refl; devices = refl; spawner = refl }

  -- in two steps
  pub references-then : (old between new : Outside H C W A P) → KeepsReferences old between → KeepsReferences between new → KeepsReferences old new
  references-then old between new first then = record {
    host = then.host ∙ first.host;
    clock = then.clock ∙ first.clock;
    waiter = then.waiter ∙ first.waiter;
    devices = then.devices ∙ first.devices;
    spawner = then.spawner ∙ first.spawner;
  }
