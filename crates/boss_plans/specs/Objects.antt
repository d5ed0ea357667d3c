-- Source: TOML 1.0.0 (the form of the file); its keys own; objects, levels, networks and stations, and their ranges: ASHRAE 135, clauses 6.2.2
-- (a network, and a station of MS/TP), 12.3, 12.4, 12.7, 12.8, 12.19, 12.20, 19.2 (priorities) and 20.2.14 (the instance).
-- Where a place's table says that a point is written, where the driver speaks BACnet.
use Rattle.std.specs.Prelude.{ℕ, nat_eq, nat_le, nat_lt, ◌*ℤ◌, Bool, true, false, not, ◌&&◌, ◌||◌, if◌then◌else◌, List, [], ◌∷◌, length, codes, Option, Some, None}
use Rattle.std.specs.Char.{is_ascii_digit}
use Rattle.std.specs.List.{after_first, before_first, list_all, position_or_len}
use Rattle.std.specs.Option.{option_map}
use Rattle.std.specs.Str.{bytes_eq}
use Rattle.std.specs.Str.Parse.{digits_value}
use Rattle.toml.specs.Data.{Data, get}
use Rattle.boss_model.specs.declared.places.Object.{Object as TheObject}
use Rattle.boss_model.specs.declared.places.ObjectKind.{ObjectKind}
use Rattle.boss_model.specs.declared.places.ObjectKind.TheVariants.{AnalogOutput, AnalogValue, BinaryOutput, BinaryValue, MultiStateOutput, MultiStateValue}
use Rattle.boss_model.specs.declared.places.Protocol.{Protocol}
use Rattle.boss_model.specs.declared.places.Protocol.TheVariants.{Modbus, Bacnet}
use Rattle.boss_model.specs.declared.places.Round.TheVariants.{Down}
use Rattle.boss_model.specs.declared.places.Scale.{Scale}
use Rattle.boss_model.specs.declared.places.Station.{Station}
use Rattle.boss_model.specs.declared.places.Where.{Where}
use Rattle.boss_model.specs.declared.places.Where.TheVariants.{Object}
use Rattle.boss_points.specs.Keys.{◌>>=◌, text_at}
use Rattle.boss_plans.specs.Keys.{has, is_shift, natural_between, natural_in, offset_of, per_of, times_of}
use Rattle.boss_plans.specs.Wheres.{unit_of, where_of}

-- ---- objects

abbrev pub object_named : List ℕ → Option ObjectKind
object_named name =
    if bytes_eq name (codes "analog-output") then Some AnalogOutput else
    (if bytes_eq name (codes "analog-value") then Some AnalogValue else
    (if bytes_eq name (codes "binary-output") then Some BinaryOutput else
    (if bytes_eq name (codes "binary-value") then Some BinaryValue else
    (if bytes_eq name (codes "multi-state-output") then Some MultiStateOutput else
    (if bytes_eq name (codes "multi-state-value") then Some MultiStateValue else None)))))

-- up to seven digits, of which the first of several is not 0
abbrev pub is_instance : List ℕ → Bool
is_instance [] = false
is_instance (digit ∷ []) = is_ascii_digit digit
is_instance (first ∷ second ∷ rest) =
    not (nat_eq first 48) && (nat_le (length (first ∷ second ∷ rest)) 7 && list_all is_ascii_digit (first ∷ second ∷ rest))

abbrev pub instance_of : List ℕ → Option ℕ
instance_of text = if is_instance text && nat_le (digits_value 10 text) 4194302 then Some (digits_value 10 text) else None

abbrev pub object_of : List ℕ → List ℕ → Option TheObject
object_of kind instance = do
  kind ← object_named kind
  instance ← instance_of instance
  Some (record { kind = kind; instance = instance })

abbrev pub is_comma : ℕ → Bool
is_comma byte = nat_eq byte 44

-- a type, a comma and an instance
abbrev pub object_in : List ℕ → Option TheObject
object_in text =
    if nat_lt (position_or_len is_comma text) (length text) then object_of (before_first is_comma text) (after_first is_comma text) else None

-- ---- a place

-- the priority at which it is written. The sixth is that of a device's own minimum times
abbrev pub but_six : ℕ → Option ℕ
but_six level = if nat_eq level 6 then None else Some level

abbrev pub level_of : Data → Option ℕ
level_of place = get (codes "level") place >>= natural_between 1 16 >>= but_six

abbrev pub station_in : Data → Data → Option Station
station_in network address = do
  network ← natural_between 1 65534 network
  address ← natural_in 254 address
  Some (record { network = network; address = address })

-- both keys, or neither
abbrev pub station_by : Option Data → Option Data → Option (Option Station)
station_by None None = Some None
station_by (Some network) (Some address) = option_map (λ station. Some station) (station_in network address)
station_by (Some network) None = None
station_by None (Some address) = None

abbrev pub station_of : Data → Option (Option Station)
station_of place = station_by (get (codes "network") place) (get (codes "station") place)

abbrev pub object_scale : Data → Option Scale
object_scale place = do
  times ← times_of place
  per ← per_of place
  offset ← offset_of place
  if is_shift (offset *ℤ per) then Some (record { times = times; per = per; offset = offset; round = Down }) else None

abbrev pub is_analog : ObjectKind → Bool
is_analog AnalogOutput = true
is_analog AnalogValue = true
is_analog BinaryOutput = false
is_analog BinaryValue = false
is_analog MultiStateOutput = false
is_analog MultiStateValue = false

abbrev pub has_scale_key : Data → Bool
has_scale_key place = has (codes "times") place || (has (codes "per") place || has (codes "offset") place)

abbrev pub has_unit_key : Data → Bool
has_unit_key place = has (codes "unit") place || (has (codes "coil") place || (has (codes "register") place || has (codes "function") place))

abbrev pub has_form_key : Data → Bool
has_form_key place = has (codes "type") place || (has (codes "first") place || has (codes "round") place)

abbrev pub has_modbus_key : Data → Bool
has_modbus_key place = has_unit_key place || has_form_key place

abbrev pub has_object_key : Data → Bool
has_object_key place = has (codes "bacnet") place || (has (codes "level") place || (has (codes "network") place || has (codes "station") place))

-- a state is written as it is, without a scale
abbrev pub not_kept : ObjectKind → Data → Bool
not_kept kind place = has_modbus_key place || (has_scale_key place && not (is_analog kind))

abbrev pub object_at : TheObject → Data → Option Where
object_at object place = do
  level ← level_of place
  station ← station_of place
  scale ← object_scale place
  if not_kept object.kind place then None else Some (Object object level station scale)

abbrev pub where_in : Data → Option Where
where_in place = text_at (codes "bacnet") place >>= object_in >>= λ object. object_at object place

-- ---- by what the driver's host speaks

abbrev pub where_at : Protocol → Data → Option Where
where_at Modbus place = if has_object_key place then None else where_of place
where_at Bacnet place = where_in place

-- no object has a unit
abbrev pub unit_at : Protocol → Data → Option ℕ
unit_at Modbus place = unit_of place
unit_at Bacnet place = Some 0
