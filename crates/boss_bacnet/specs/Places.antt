-- Source: ASHRAE 135, clauses 12.3, 12.4 (REAL), 12.7, 12.8 (BACnetBinaryPV), 12.19, 12.20 (Unsigned); the scale own.
-- What is asked of a device for a point and a value.
use Rattle.std.specs.Prelude.{◌≡◌, ℕ, ◌+◌, ◌*◌, nat_eq, nat_le, ℤ, pos, negsuc, ◌&&◌, if◌then◌else◌, List, find, Option, Some, None}
use Rattle.std.specs.Option.{option_map}
use Rattle.boss_model.specs.declared.places.DriverPlan.{DriverPlan}
use Rattle.boss_model.specs.declared.places.Form.TheVariants.{Single}
use Rattle.boss_model.specs.declared.places.Half.TheVariants.{High}
use Rattle.boss_model.specs.declared.places.ObjectKind.{ObjectKind}
use Rattle.boss_model.specs.declared.places.ObjectKind.TheVariants.{AnalogOutput, AnalogValue, BinaryOutput, BinaryValue, MultiStateOutput, MultiStateValue}
use Rattle.boss_model.specs.declared.places.Object.{Object as TheObject}
use Rattle.boss_model.specs.declared.places.Place.{Place}
use Rattle.boss_model.specs.declared.places.Scale.{Scale}
use Rattle.boss_model.specs.declared.places.Station.{Station}
use Rattle.boss_model.specs.declared.places.Where.{Where}
use Rattle.boss_model.specs.declared.places.Where.TheVariants.{Coil, Register, Object}
use Rattle.boss_numbers.specs.declared.registers.Words.{Words}
use Rattle.boss_numbers.specs.declared.registers.Words.TheVariants.{One, Two}
use Rattle.boss_numbers.specs.Scales.{Stands}
use Rattle.boss_bacnet.specs.declared.asked.Asked.{Asked}
use Rattle.boss_bacnet.specs.declared.asked.Value.{Value}
use Rattle.boss_bacnet.specs.declared.asked.Value.TheVariants.{Real, Enumerated, Unsigned}
use Rattle.boss_bacnet.specs.declared.asked.What.{What}
use Rattle.boss_bacnet.specs.declared.asked.What.TheVariants as what
use Rattle.boss_bacnet.specs.declared.places.Purpose.{Purpose}
use Rattle.boss_bacnet.specs.declared.places.Purpose.TheVariants.{Write, Check}

-- ---- a value in its object

-- the bits of two registers, the high half first
abbrev pub bits_in : Words → ℕ
bits_in (One word) = word
bits_in (Two first second) = first * 65536 + second

-- an analog value is the binary32 that would stand in two registers
abbrev pub IsReal : Scale → ℤ → Option Value → Type 0
IsReal scale value found =
    (words : Option Words) × Stands (Single High) scale value words × (found ≡ option_map (λ words. Real (bits_in words)) words)

-- a state is itself, within these
abbrev pub state_within : ℕ → ℕ → ℤ → Option ℕ
state_within least most (pos state) = if nat_le least state && nat_le state most then Some state else None
state_within least most (negsuc _) = None

abbrev pub Forms : ObjectKind → Scale → ℤ → Option Value → Type 0
Forms AnalogOutput scale value found = IsReal scale value found
Forms AnalogValue scale value found = IsReal scale value found
Forms BinaryOutput scale value found = found ≡ option_map (λ state. Enumerated state) (state_within 0 1 value)
Forms BinaryValue scale value found = found ≡ option_map (λ state. Enumerated state) (state_within 0 1 value)
Forms MultiStateOutput scale value found = found ≡ option_map (λ state. Unsigned state) (state_within 1 255 value)
Forms MultiStateValue scale value found = found ≡ option_map (λ state. Unsigned state) (state_within 1 255 value)

-- ---- what is asked

-- to have it, at this level, or whether it has it
abbrev pub what_is : Purpose → Value → ℕ → What
what_is Write value level = what.Write value level
what_is Check value level = what.Check value

abbrev pub asked_of_object : Purpose → TheObject → ℕ → Option Station → Value → Asked
asked_of_object purpose object level station value = record { remote = station; object = object; what = what_is purpose value level }

-- the object, of which there is one up to this instance, with the value in its form; no coil and no register is asked so
abbrev pub AsksAt : Purpose → Where → ℤ → Option Asked → Type 0
AsksAt purpose (Coil address function) value asked = asked ≡ None
AsksAt purpose (Register address form scale function) value asked = asked ≡ None
AsksAt purpose (Object object level station scale) value asked =
    (found : Option Value) × Forms object.kind scale value found
    × (asked ≡ (if nat_le object.instance 4194302 then option_map (asked_of_object purpose object level station) found else None))

-- the place of a point
abbrev pub place_of : List Place → ℕ → Option Place
place_of places point = find (λ place. nat_eq place.point point) places

-- where a part was assigned
abbrev pub find_place : Option DriverPlan → ℕ → Option Place
find_place None point = None
find_place (Some part) point = place_of part.places point

abbrev pub AsksAtPlace : Purpose → Option Place → ℤ → Option Asked → Type 0
AsksAtPlace purpose None value asked = asked ≡ None
AsksAtPlace purpose (Some place) value asked = AsksAt purpose place.at value asked

abbrev pub AsksFor : Option DriverPlan → Purpose → ℕ → ℤ → Option Asked → Type 0
AsksFor part purpose point value asked = AsksAtPlace purpose (find_place part point) value asked
