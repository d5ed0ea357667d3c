-- Source: TOML 1.0.0 (the form of the file); its keys own; unit, coil, register, their ranges and functions: MODBUS Application
-- Protocol 1.1b3, sections 4.4, 6.5, 6.6, 6.11 and 6.12, and MODBUS Messaging on TCP/IP 1.0b, section 3.1.3 (unit).
-- Where a place's table says that a point is written, and which points that suits.
use Rattle.std.specs.Prelude.{ℕ, nat_eq, ℤ, pos, ◌*ℤ◌, Bool, true, false, not, ◌&&◌, ◌||◌, if◌then◌else◌, List, codes, Option, Some, None}
use Rattle.std.specs.Option.{option_map_or}
use Rattle.std.specs.Str.{bytes_eq}
use Rattle.toml.specs.Data.{Data, get, as_str}
use Rattle.boss_model.specs.declared.places.Form.{Form}
use Rattle.boss_model.specs.declared.places.Form.TheVariants.{Unsigned16, Signed16, Unsigned32, Signed32, Single}
use Rattle.boss_model.specs.declared.places.Function.{Function}
use Rattle.boss_model.specs.declared.places.Function.TheVariants.{WriteSingle, WriteMultiple}
use Rattle.boss_model.specs.declared.places.Half.{Half}
use Rattle.boss_model.specs.declared.places.Half.TheVariants.{High, Low}
use Rattle.boss_model.specs.declared.places.ObjectKind.{ObjectKind}
use Rattle.boss_model.specs.declared.places.ObjectKind.TheVariants.{AnalogOutput, AnalogValue, BinaryOutput, BinaryValue, MultiStateOutput, MultiStateValue}
use Rattle.boss_model.specs.declared.places.Round.{Round}
use Rattle.boss_model.specs.declared.places.Round.TheVariants.{Down, Nearest}
use Rattle.boss_model.specs.declared.places.Scale.{Scale}
use Rattle.boss_model.specs.declared.places.Where.{Where}
use Rattle.boss_model.specs.declared.places.Where.TheVariants.{Coil, Register, Object}
use Rattle.boss_model.specs.declared.point.Kind.{Kind}
use Rattle.boss_model.specs.declared.point.Kind.TheVariants.{Analog, Binary, Multi}
use Rattle.boss_numbers.specs.Scales.{have_forms}
use Rattle.boss_points.specs.Keys.{◌>>=◌}
use Rattle.boss_plans.specs.Keys.{has, natural_in, times_of, per_of, offset_of, is_shift}

abbrev pub unit_of : Data → Option ℕ
unit_of place = get (codes "unit") place >>= natural_in 255

-- ---- the form of a register

abbrev pub half_named : List ℕ → Option Half
half_named name = if bytes_eq name (codes "high") then Some High else (if bytes_eq name (codes "low") then Some Low else None)

abbrev pub half_in : Data → Option Half
half_in d = as_str d >>= half_named

-- the half that stands first: where the key is missing, the high one
abbrev pub half_of : Data → Option Half
half_of place = option_map_or half_in (get (codes "first") place) (Some High)

abbrev pub long_form_named : List ℕ → Half → Option Form
long_form_named name first =
    if bytes_eq name (codes "u32") then Some (Unsigned32 first) else
    (if bytes_eq name (codes "i32") then Some (Signed32 first) else
    (if bytes_eq name (codes "f32") then Some (Single first) else None))

abbrev pub form_named : List ℕ → Half → Option Form
form_named name first =
    if bytes_eq name (codes "u16") then Some Unsigned16 else
    (if bytes_eq name (codes "i16") then Some Signed16 else long_form_named name first)

-- where the key is missing, a number of 16 bits without a sign
abbrev pub type_of : Data → Option (List ℕ)
type_of place = option_map_or as_str (get (codes "type") place) (Some (codes "u16"))

-- it stands in two registers
abbrev pub is_long : Form → Bool
is_long Unsigned16 = false
is_long Signed16 = false
is_long (Unsigned32 first) = true
is_long (Signed32 first) = true
is_long (Single first) = true

-- one register has no half that stands first
abbrev pub form_of : Data → Option Form
form_of place = do
  name ← type_of place
  first ← half_of place
  form ← form_named name first
  if has (codes "first") place && not (is_long form) then None else Some form

-- ---- its scale

abbrev pub round_named : List ℕ → Option Round
round_named name = if bytes_eq name (codes "down") then Some Down else (if bytes_eq name (codes "nearest") then Some Nearest else None)

abbrev pub round_in : Data → Option Round
round_in d = as_str d >>= round_named

abbrev pub round_of : Data → Option Round
round_of place = option_map_or round_in (get (codes "round") place) (Some Down)

abbrev pub is_single : Form → Bool
is_single Unsigned16 = false
is_single Signed16 = false
is_single (Unsigned32 first) = false
is_single (Signed32 first) = false
is_single (Single first) = true

-- a binary32 is not rounded to a whole number
abbrev pub is_scaled : Form → ℤ → ℤ → Data → Bool
is_scaled form per offset place = is_shift (offset *ℤ per) && not (has (codes "round") place && is_single form)

abbrev pub scale_of : Form → ℤ → Data → Option Scale
scale_of form per place = do
  times ← times_of place
  offset ← offset_of place
  round ← round_of place
  if is_scaled form per offset place then Some (record { times = times; per = per; offset = offset; round = round }) else None

-- ---- the function that writes it

abbrev pub function_numbered : ℕ → ℕ → ℕ → Option Function
function_numbered single multiple number =
    if nat_eq number single then Some WriteSingle else (if nat_eq number multiple then Some WriteMultiple else None)

abbrev pub function_in : ℕ → ℕ → Data → Option Function
function_in single multiple d = natural_in 16 d >>= function_numbered single multiple

-- where the key is missing, the one that writes one
abbrev pub function_of : ℕ → ℕ → Data → Option Function
function_of single multiple place = option_map_or (function_in single multiple) (get (codes "function") place) (Some WriteSingle)

abbrev pub only_multiple : Function → Option Function
only_multiple WriteSingle = None
only_multiple WriteMultiple = Some WriteMultiple

abbrev pub multiple_in : Data → Option Function
multiple_in d = function_in 6 16 d >>= only_multiple

-- two registers have that which writes several, also where the key is missing
abbrev pub register_function : Form → Data → Option Function
register_function form place =
    if is_long form then option_map_or multiple_in (get (codes "function") place) (Some WriteMultiple) else function_of 6 16 place

-- ---- coils and registers

-- the second register of two has an address too
abbrev pub register_at : Data → ℤ → ℕ → Option Where
register_at place per address = do
  form ← form_of place
  scale ← scale_of form per place
  function ← register_function form place
  if is_long form && nat_eq address 65535 then None else Some (Register address form scale function)

-- it has a key that a coil has not
abbrev pub has_register_key : Data → Bool
has_register_key place =
    has (codes "type") place || (has (codes "first") place || (has (codes "times") place || (has (codes "offset") place || has (codes "round") place)))

abbrev pub coil_at : Data → ℕ → Option Where
coil_at place address = do
  function ← function_of 5 15 place
  if has_register_key place then None else Some (Coil address function)

-- one of the two keys has to be there, and not both
abbrev pub where_spelled : Data → ℤ → Option Data → Option Data → Option Where
where_spelled place per (Some coil) None = natural_in 65535 coil >>= coil_at place
where_spelled place per None (Some register) = natural_in 65535 register >>= register_at place per
where_spelled place per (Some coil) (Some register) = None
where_spelled place per None None = None

abbrev pub where_of : Data → Option Where
where_of place = do
  per ← per_of place
  where_spelled place per (get (codes "coil") place) (get (codes "register") place)

-- ---- which points a place suits

-- an object suits the points of its kind; what is analog has a form of each end of their values
abbrev pub suits_analog : Kind → Scale → Bool
suits_analog (Analog min max) scale = have_forms (Single High) scale min max
suits_analog Binary scale = false
suits_analog (Multi states) scale = false

abbrev pub is_binary : Kind → Bool
is_binary Binary = true
is_binary (Analog min max) = false
is_binary (Multi states) = false

abbrev pub is_multi : Kind → Bool
is_multi (Multi states) = true
is_multi Binary = false
is_multi (Analog min max) = false

abbrev pub suits_object : Kind → ObjectKind → Scale → Bool
suits_object kind AnalogOutput scale = suits_analog kind scale
suits_object kind AnalogValue scale = suits_analog kind scale
suits_object kind BinaryOutput scale = is_binary kind
suits_object kind BinaryValue scale = is_binary kind
suits_object kind MultiStateOutput scale = is_multi kind
suits_object kind MultiStateValue scale = is_multi kind

-- a coil suits binary points, and a register each point of which both ends have a form there
abbrev pub suits : Kind → Where → Bool
suits Binary (Coil address function) = true
suits Binary (Register address form scale function) = have_forms form scale (pos 0) (pos 1)
suits Binary (Object object level station scale) = suits_object Binary object.kind scale
suits (Analog min max) (Coil address function) = false
suits (Analog min max) (Register address form scale function) = have_forms form scale min max
suits (Analog min max) (Object object level station scale) = suits_object (Analog min max) object.kind scale
suits (Multi states) (Coil address function) = false
suits (Multi states) (Register address form scale function) = have_forms form scale (pos 1) states
suits (Multi states) (Object object level station scale) = suits_object (Multi states) object.kind scale
