-- The driver of a point, where it is none of the drivers.
use Rattle.std.proofs.Common.{◌≡◌, ℕ, List, codes, position, Some, None}
use Rattle.std.specs.Str.{bytes_eq}
use Rattle.toml.specs.Data.{Data}
use Rattle.boss_points.specs.Keys.{text_at, driver_of}

pub driver_of-missing : (drivers : List (List ℕ)) (point : Data) (name : List ℕ) → text_at (codes "driver") point ≡ Some name
    → position (λ driver. bytes_eq driver name) drivers ≡ None → driver_of drivers point ≡ None
driver_of-missing drivers point name told missing = rw (told, missing)
