-- Source: own.
-- Devices that are handed to workers, one driver's to each, and come back.
use Rattle.std.specs.Prelude.{◌≡◌, ℕ, suc, List, [], ◌∷◌, ◌++◌, map}
use Rattle.boss_model.specs.DeviceCall.{DeviceCall}
use Rattle.def_lanes.specs.Works.{Work, calls_in}

-- all devices were taken out, each with a note of how it was, and nothing was done with them yet
pub record AllTaken {O A : Type 0} (device was : O → A) (devices : List A) (out : List O) : Type 0 where
  pub all : map device out ≡ devices
  pub untouched : map was out ≡ devices

-- the devices of the drivers from this one on are back in their places. A device that misses no call in its record has gained
-- the calls of its driver's work
abbrev pub DevicesBack : {A : Type 0} → (A → List DeviceCall) → (A → Type 0) → ℕ → List A → List A → List Work → Type 0
DevicesBack calls whole driver [] [] works = Unit {0}
DevicesBack calls whole driver [] (new ∷ news) works = ⊥
DevicesBack calls whole driver (old ∷ olds) [] works = ⊥
DevicesBack calls whole driver (old ∷ olds) (new ∷ news) works =
    (whole new → calls new ≡ calls old ++ calls_in driver works) × DevicesBack calls whole (suc driver) olds news works
