-- Source: TOML 1.0.0 (the form of the file); its keys own.
-- The drivers and the places that a plan's tables spell.
use Rattle.std.specs.Prelude.{ℕ, nat_eq, Bool, false, ◌||◌, not, if◌then◌else◌, List, [], ◌∷◌, codes, slice_get, Option, Some, None}
use Rattle.std.specs.List.{list_any, position_from}
use Rattle.std.specs.Option.{option_map_or}
use Rattle.std.specs.Str.{bytes_eq}
use Rattle.toml.specs.Data.{Data}
use Rattle.boss_model.specs.Catalogue.{Catalogue, Point, place_of}
use Rattle.boss_model.specs.declared.places.Place.{Place}
use Rattle.boss_plans.specs.declared.hosts.Host.{Host}
use Rattle.boss_points.specs.Keys.{◌>>=◌, text_at}
use Rattle.boss_plans.specs.declared.hosts.Terms.{Terms}
use Rattle.boss_plans.specs.Keys.{host_of, interval_at, speaks_of, tries_of, wait_of}
use Rattle.boss_plans.specs.Objects.{unit_at, where_at}
use Rattle.boss_plans.specs.Wheres.{suits}

-- the driver has a host among these
abbrev pub is_planned : List Host → ℕ → Bool
is_planned hosts driver = list_any (λ host. nat_eq host.driver driver) hosts

-- the point has a place among these
abbrev pub is_placed : List Place → ℕ → Bool
is_placed places point = list_any (λ place. nat_eq place.point point) places

-- the driver at this place has the name
abbrev pub is_named : Catalogue → ℕ → List ℕ → Bool
is_named catalogue driver name = option_map_or (λ other. bytes_eq other name) (slice_get catalogue.drivers driver) false

-- the driver that a table names, where no earlier one named it
abbrev pub planned_in : Catalogue → List Host → Data → Option ℕ
planned_in catalogue earlier d = do
  name ← text_at (codes "name") d
  driver ← position_from (λ other. bytes_eq other name) 0 catalogue.drivers
  if is_planned earlier driver then None else Some driver

-- what its places are read by
abbrev pub terms_in : Data → Option Terms
terms_in d = do
  speaks ← speaks_of d
  check ← interval_at (codes "check") 0 d
  again ← interval_at (codes "again") 0 d
  Some (record { speaks = speaks; check = check; again = again })

-- that driver, its host, how long that is waited for, and how often a request is sent
abbrev pub host_in : Catalogue → List Host → Data → Option Host
host_in catalogue earlier d = do
  driver ← planned_in catalogue earlier d
  host ← host_of d
  terms ← terms_in d
  wait ← wait_of terms.speaks d
  tries ← tries_of terms.speaks d
  Some (record { driver = driver; host = host; wait = wait; tries = tries; terms = terms })

-- what the places of a driver are read by, where it has a host among these
abbrev pub terms_of : List Host → ℕ → Option Terms
terms_of [] driver = None
terms_of (host ∷ hosts) driver = if nat_eq host.driver driver then Some host.terms else terms_of hosts driver

-- a place is of a point of this driver
abbrev pub is_of_driver : Catalogue → ℕ → Place → Bool
is_of_driver catalogue driver place = option_map_or (λ point. nat_eq point.actuator.driver driver) (slice_get catalogue.points place.point) false

-- the place that a table spells, of this point: its own intervals, or those of its driver
abbrev pub place_spelled : ℕ → Terms → Data → Option Place
place_spelled id terms d = do
  unit ← unit_at terms.speaks d
  at ← where_at terms.speaks d
  check ← interval_at (codes "check") terms.check d
  again ← interval_at (codes "again") terms.again d
  Some (record { point = id; unit = unit; at = at; check = check; again = again })

-- the place of the point that it names, whose driver is planned, where no earlier one is of that point and it suits its kind
abbrev pub place_in : Catalogue → List Host → List Place → Data → Option Place
place_in catalogue hosts earlier d = do
  name ← text_at (codes "point") d
  id ← place_of catalogue name
  point ← slice_get catalogue.points id
  terms ← terms_of hosts point.actuator.driver
  place ← place_spelled id terms d
  if is_placed earlier id || not (suits point.actuator.kind place.at) then None else Some place
