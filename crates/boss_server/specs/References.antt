-- Source: own.
-- A struct of references that stays a struct of the same ones.
use Rattle.std.specs.Prelude.{◌≡◌}
use Rattle.boss_server.specs.declared.outside.Outside.{Outside}

module _ {H C W A P : Type 0} where
  -- each field is the reference that it was, so what was written through it is in what it refers to
  pub record KeepsReferences (old new : Outside H C W A P) : Type 0 where
    pub host : new.host.ghost_name ≡ old.host.ghost_name
    pub clock : new.clock.ghost_name ≡ old.clock.ghost_name
    pub waiter : new.waiter.ghost_name ≡ old.waiter.ghost_name
    pub devices : new.devices.ghost_name ≡ old.devices.ghost_name
    pub spawner : new.spawner.ghost_name ≡ old.spawner.ghost_name
