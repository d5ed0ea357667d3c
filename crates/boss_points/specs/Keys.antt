-- Source: TOML 1.0.0 (the form of the file); its keys own; kinds and minimum times: ASHRAE 135, clauses 12 and 19.2.
-- What the keys of a file and of a point spell. A key that is not named here is passed over.
use Rattle.std.specs.Prelude.{ℕ, ◌^◌, ℤ, pos, neg_ℤ, int_le, Bool, ◌&&◌, if◌then◌else◌, List, [], ◌∷◌, codes, position, Option, Some, None}
use Rattle.std.specs.Option.{option_and_then, option_map_or}
use Rattle.std.specs.Str.{bytes_eq}
use Rattle.toml.specs.Data.{Data, Items, no_items, item, get, as_str, as_integer, as_array}
use Rattle.boss_model.specs.declared.point.Kind.{Kind}
use Rattle.boss_model.specs.declared.point.Kind.TheVariants.{Analog, Binary, Multi}
use Rattle.boss_model.specs.Catalogue.{fits}
use Rattle.boss_model.specs.Limits.{longest_minimum}
use Rattle.boss_model.specs.Names.{is_name}
use Rattle.boss_points.specs.declared.point.Point.{Point}

-- what was found, taken on by what follows
infixl 10 ◌>>=◌
abbrev pub ◌>>=◌ : {A B : Type 0} → Option A → (A → Option B) → Option B
found >>= rest = option_and_then rest found

abbrev pub if_true : {A : Type 0} → (A → Bool) → A → Option A
if_true test x = if test x then Some x else None

-- ---- what stands under a key, where it is of this kind

abbrev pub list_of : Items → List Data
list_of no_items = []
list_of (item d ds) = d ∷ list_of ds

abbrev pub array_at : List ℕ → Data → Option (List Data)
array_at key d = do
  found ← get key d
  items ← as_array found
  Some (list_of items)

abbrev pub text_at : List ℕ → Data → Option (List ℕ)
text_at key d = get key d >>= as_str

abbrev pub whole_at : List ℕ → Data → Option ℤ
whole_at key d = get key d >>= as_integer

-- ---- names

-- the name that a text spells
abbrev pub name_spelled : Data → Option (List ℕ)
name_spelled d = as_str d >>= if_true is_name

-- ---- the keys of a point

abbrev pub name_of : Data → Option (List ℕ)
name_of point = get (codes "name") point >>= name_spelled

-- analog limits lie within these bounds, in thousandths of the unit
abbrev pub least_limit : ℤ
least_limit = neg_ℤ (pos (10 ^ 15))

abbrev pub greatest_limit : ℤ
greatest_limit = pos (10 ^ 15)

abbrev pub analog : ℤ → ℤ → Option Kind
analog min max = if int_le least_limit min && int_le min max && int_le max greatest_limit then Some (Analog min max) else None

abbrev pub analog_of : Data → Option Kind
analog_of point = do
  min ← whole_at (codes "min") point
  max ← whole_at (codes "max") point
  analog min max

abbrev pub multi_of : Data → Option Kind
multi_of point = do
  states ← whole_at (codes "states") point
  if int_le (pos 2) states && int_le states (pos 255) then Some (Multi states) else None

abbrev pub kind_named : List ℕ → Data → Option Kind
kind_named kind point =
    if bytes_eq kind (codes "analog") then analog_of point else
    (if bytes_eq kind (codes "binary") then Some Binary else
    (if bytes_eq kind (codes "multi") then multi_of point else None))

abbrev pub kind_of : Data → Option Kind
kind_of point = do
  kind ← text_at (codes "kind") point
  kind_named kind point

abbrev pub default_of : Data → Option ℤ
default_of point = do
  kind ← kind_of point
  default ← whole_at (codes "default") point
  if fits kind default then Some default else None

-- the driver of a point, by its place among the drivers
abbrev pub driver_of : List (List ℕ) → Data → Option ℕ
driver_of drivers point = do
  name ← text_at (codes "driver") point
  position (λ driver. bytes_eq driver name) drivers

-- a minimum time, in milliseconds
abbrev pub is_minimum : ℤ → Bool
is_minimum time = int_le (pos 0) time && int_le time (pos longest_minimum)

-- what stands under the key of a minimum time: only a binary point may have the key
abbrev pub minimum : Kind → Data → Option ℤ
minimum Binary found = as_integer found >>= if_true is_minimum
minimum other found = None

-- where the key is missing, the time is 0
abbrev pub time_at : Kind → List ℕ → Data → Option ℤ
time_at kind key point = option_map_or (minimum kind) (get key point) (Some (pos 0))

-- the minimum times of a point, on and off
abbrev pub times_of : Data → Option (ℤ × ℤ)
times_of point = do
  kind ← kind_of point
  on ← time_at kind (codes "min_on") point
  off ← time_at kind (codes "min_off") point
  Some (on, off)

-- the point that a table spells
abbrev pub point_of : List (List ℕ) → Data → Option Point
point_of drivers point = do
  name ← name_of point
  kind ← kind_of point
  default ← default_of point
  driver ← driver_of drivers point
  times ← times_of point
  Some (record { name = name; kind = kind; default = default; driver = driver; min_on = times.0; min_off = times.1 })
