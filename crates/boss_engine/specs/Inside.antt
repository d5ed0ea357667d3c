-- Source: own.
use Rattle.std.specs.Prelude.{◌≡◌, ◌≤◌, ◌<◌, ◌*◌, Bool, true, false, List, length, map, vec_capacity}
use Rattle.boss_model.specs.declared.state.Actuator.{Actuator}
use Rattle.boss_model.specs.Limits.{most_points, most_processes}
use Rattle.boss_model.specs.Settle.{opened}
use Rattle.boss_model.specs.Sound.{IsSound, IsSoundPersistent}
use Rattle.boss_model.specs.State.{State}
use Rattle.boss_engine.specs.declared.engine.Engine.TheInside.{Inside}
use Rattle.boss_engine.specs.declared.machine.Machine.{Machine}
use Rattle.boss_engine.specs.Running.{Running}
use Rattle.boss_persistent.specs.Lasting.{persistent_of, IsKept}

-- the state that the rows stand for
abbrev pub state_of : Machine → State
state_of m = record {
  persistent = persistent_of m.lasting;
  attached = m.attached.items;
  proxies = m.marks.proxies;
  wants = m.marks.wants;
}

-- the marks and the slots are those of the plant's points, and there is room for all that a command does which takes no memory
pub record HasPlaces (plant : List Actuator) (m : Machine) : Type 0 where
  pub small : length plant ≤ most_points
  pub drivers : m.marks.drivers ≡ map (λ actuator. actuator.driver) plant
  pub points : length plant ≡ m.lasting.holdings.points
  pub rows : IsKept m.lasting
  pub attached : most_processes ≤ vec_capacity m.attached
  pub told : 32 * length plant < vec_capacity m.told

-- what outlasts a stop is sound, and there is room
pub record CanAct (plant : List Actuator) (m : Machine) : Type 0 where
  pub sound : IsSoundPersistent plant (persistent_of m.lasting)
  pub places : HasPlaces plant m

-- the state is sound, and there is room
pub record CanRun (plant : List Actuator) (m : Machine) : Type 0 where
  pub sound : IsSound plant (state_of m)
  pub places : HasPlaces plant m

-- the state that an engine is in: as long as its points are not open, the one that they open to
abbrev pub seen_state : List Actuator → Machine → Bool → State
seen_state plant m true = state_of m
seen_state plant m false = opened plant (persistent_of m.lasting)

-- the state that an engine is in is sound, and there is room
pub record IsRunnable (plant : List Actuator) (m : Machine) (is_open : Bool) : Type 0 where
  pub sound : IsSound plant (seen_state plant m is_open)
  pub places : HasPlaces plant m

abbrev pub running : Inside → Running
running e = record { plant = e.plant.items; state = seen_state e.plant.items e.machine e.is_open }

pub record IsReady (e : Inside) : Type 0 where
  pub sound : IsSound e.plant.items (seen_state e.plant.items e.machine e.is_open)
  pub places : HasPlaces e.plant.items e.machine
