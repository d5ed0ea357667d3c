-- Source: own.
use Rattle.std.specs.Prelude.{ℕ, ℤ, Bool}

-- one command to a device: the point, the value that it was to take, and whether it took it
pub record DeviceCall : Type 0 where
  pub point : ℕ
  pub value : ℤ
  pub ok : Bool
