-- Source: own.
-- Devices that come back in the place that their driver's number is.
use Rattle.std.specs.Prelude.{ℕ, ◌≤◌, List, insert}
use Rattle.boss_worker.specs.declared.duty.Duty.{Duty}
use Rattle.boss_worker.specs.declared.duty.Duty.TheVariants.{Connections, Time, Devices}

module _ {H A : Type 0} where
  abbrev pub put_back : Duty H A → List A → List A
  put_back (Connections part) devices = devices
  put_back Time devices = devices
  put_back (Devices driver device was) devices = insert devices driver device

  -- there are as many devices as stand before its place
  abbrev pub FitsAmong : ℕ → Duty H A → Type 0
  FitsAmong count (Connections part) = Unit {0}
  FitsAmong count Time = Unit {0}
  FitsAmong count (Devices driver device was) = driver ≤ count
