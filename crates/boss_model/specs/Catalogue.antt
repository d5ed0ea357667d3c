-- Source: ASHRAE 135, clause 19.2 (commandable properties, Relinquish_Default; minimum on and off times); clause 12
-- (analog, binary and multi-state objects).
use Rattle.std.specs.Prelude.{ℕ, ℤ, pos, int_le, List, slice_get, map, Bool, false, ◌&&◌, Option, nat_eq, position}
use Rattle.std.specs.Option.{option_map_or}
use Rattle.std.specs.Cmp.Lexicographic.{pointwise}
use Rattle.boss_model.specs.declared.point.Kind.{Kind}
use Rattle.boss_model.specs.declared.point.Kind.TheVariants.{Analog, Binary, Multi}
-- what the machine knows of a point: which values it takes, its Relinquish_Default, and the driver of its device
pub use Rattle.boss_model.specs.declared.state.Actuator.{Actuator}

-- a point of the catalogue has a name beside that, and the minimum times, in milliseconds, for which its device is to stay on
-- and off; both are 0 where a point has none
pub record Point : Type 0 where
  pub name : List ℕ
  pub actuator : Actuator
  pub min_on : ℤ
  pub min_off : ℤ

-- drivers and points go by their places, from 0
pub record Catalogue : Type 0 where
  pub drivers : List (List ℕ)
  pub points : List Point

-- a value that a point of this kind takes
abbrev pub fits : Kind → ℤ → Bool
fits (Analog min max) value = int_le min value && int_le value max
fits Binary value = int_le (pos 0) value && int_le value (pos 1)
fits (Multi states) value = int_le (pos 1) value && int_le value states

abbrev pub actuators : Catalogue → List Actuator
actuators catalogue = map (λ point. point.actuator) catalogue.points

-- the default and the driver of a point; 0 where there is no such point
abbrev pub default_of : List Actuator → ℕ → ℤ
default_of plant point = option_map_or (λ actuator. actuator.default) (slice_get plant point) (pos 0)

abbrev pub driver_of : List Actuator → ℕ → ℕ
driver_of plant point = option_map_or (λ actuator. actuator.driver) (slice_get plant point) 0

-- the place of the first point that has the name
abbrev pub place_of : Catalogue → List ℕ → Option ℕ
place_of catalogue name = position (λ point. pointwise nat_eq point.name name) catalogue.points

-- the point is there, and takes the value
abbrev pub fits_at : List Actuator → ℕ → ℤ → Bool
fits_at plant point value = option_map_or (λ actuator. fits actuator.kind value) (slice_get plant point) false
