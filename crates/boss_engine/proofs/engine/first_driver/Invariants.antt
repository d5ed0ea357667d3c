use Rattle.std.proofs.Common.{◌≡◌, drop}
use Rattle.boss_model.specs.Order.{least}
use Rattle.boss_engine.specs.Waiting.{drivers_of}
use Rattle.boss_persistent.proofs.Untils.{earlier_of}
use Rattle.boss_engine.proofs.engine.first_driver.Given as goal

-- the first driver of those so far, and those that are left
abbrev pub invariant-loop-actuator : goal.invariant-loop-actuator
invariant-loop-actuator l = least (λ driver. driver) (drivers_of l.plant) ≡ earlier_of l.first (least (λ driver. driver) (drivers_of (drop l.actuator-index l.plant)))
