-- Source: own.
use Rattle.std.specs.Prelude.{ℕ, ◌<◌, List}
use Rattle.std.specs.List.{AllByRecursion}
use Rattle.boss_model.specs.declared.state.Actuator.{Actuator}

-- the driver of each point has one of these devices
abbrev pub HasDevices : ℕ → List Actuator → Type 0
HasDevices count plant = AllByRecursion (λ actuator. actuator.driver < count) plant
