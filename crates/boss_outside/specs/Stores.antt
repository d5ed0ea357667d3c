-- Source: own.
use Rattle.std.specs.Prelude.{ℕ, Bool, List, drop}
use Rattle.boss_outside.specs.DeviceCall.{DeviceCall}
use Rattle.boss_outside.specs.Plan.{Plan}

-- a source in memory: all bytes that it was made with, and how many of them were read
pub record Supply : Type 0 where
  pub held : List ℕ
  pub given : ℕ
  pub plan : Plan

-- the bytes that are left to read
abbrev pub bytes_left : Supply → List ℕ
bytes_left supply = drop supply.given supply.held

-- a sink in memory: the bytes that it took
pub record Intake : Type 0 where
  pub taken : List ℕ
  pub plan : Plan

-- simulated devices: the calls that they noted, and whether these are all that were made
pub record Devices : Type 0 where
  pub calls : List DeviceCall
  pub whole : Bool
  pub plan : Plan
