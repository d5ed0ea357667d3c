-- Source: own.
-- What holds of every machine that a catalogue's points can come to.
use Rattle.boss_engine.specs.Running.{Running}
use Rattle.boss_model.specs.Plants.{IsPlant}
use Rattle.boss_model.specs.Sound.{IsSound}

pub record IsReached (running : Running) : Type 0 where
  pub whole : IsPlant running.plant
  pub sound : IsSound running.plant running.state
