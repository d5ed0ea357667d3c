-- Source: own.
use Rattle.std.specs.Prelude.{List}
use Rattle.boss_model.specs.declared.state.Actuator.{Actuator}
use Rattle.boss_model.specs.State.{State}

-- a plant, and the state of the machine that runs it
pub record Running : Type 0 where
  pub plant : List Actuator
  pub state : State
