-- Source: MODBUS Application Protocol 1.1b3, sections 6.1, 6.3, 6.5 (a coil is FF00 or 0000), 6.6, 6.11 and 6.12; scale and forms own.
-- What is asked of a device for a point and a value.
use Rattle.std.specs.Prelude.{◌≡◌, ℕ, nat_eq, ℤ, pos, negsuc, Bool, true, false, if◌then◌else◌, List, find, Option, Some, None}
use Rattle.std.specs.Option.{option_map}
use Rattle.boss_model.specs.declared.places.DriverPlan.{DriverPlan}
use Rattle.boss_model.specs.declared.places.Function.{Function}
use Rattle.boss_model.specs.declared.places.Function.TheVariants.{WriteSingle, WriteMultiple}
use Rattle.boss_model.specs.declared.places.Place.{Place}
use Rattle.boss_model.specs.declared.places.Where.{Where}
use Rattle.boss_model.specs.declared.places.Where.TheVariants.{Coil, Register, Object}
use Rattle.boss_numbers.specs.declared.registers.Words.{Words}
use Rattle.boss_numbers.specs.declared.registers.Words.TheVariants.{One, Two}
use Rattle.boss_numbers.specs.Scales.{Stands}
use Rattle.boss_modbus.specs.declared.request.Asked.{Asked}
use Rattle.boss_modbus.specs.declared.request.Request.{Request}
use Rattle.boss_modbus.specs.declared.request.Request.TheVariants.{WriteCoil, WriteRegister, WriteCoils, WriteRegisters, CheckCoil, CheckRegisters}
use Rattle.boss_modbus.specs.declared.places.What.{What}
use Rattle.boss_modbus.specs.declared.places.What.TheVariants.{Write, Check}

-- a coil is off at 0 and on at 1
abbrev pub coil_state : ℤ → Option Bool
coil_state (pos value) = if nat_eq value 0 then Some false else (if nat_eq value 1 then Some true else None)
coil_state (negsuc _) = None

abbrev pub write_coil : Function → ℕ → Bool → Request
write_coil WriteSingle address on = WriteCoil address on
write_coil WriteMultiple address on = WriteCoils address on

abbrev pub coil : What → Function → ℕ → Bool → Request
coil Write function address on = write_coil function address on
coil Check function address on = CheckCoil address on

-- two registers are always written by the function that writes several
abbrev pub write_registers : Function → ℕ → Words → Request
write_registers WriteSingle address (One word) = WriteRegister address word
write_registers WriteSingle address (Two first second) = WriteRegisters address (Two first second)
write_registers WriteMultiple address words = WriteRegisters address words

abbrev pub registers : What → Function → ℕ → Words → Request
registers Write function address words = write_registers function address words
registers Check function address words = CheckRegisters address words

abbrev pub asked_of_unit : ℕ → Request → Asked
asked_of_unit unit request = record { unit = unit; request = request }

-- what is asked for a value at this place of this unit: a coil's state, or the registers in which the value stands. No object is written so
abbrev pub AsksAt : What → ℕ → Where → ℤ → Option Asked → Type 0
AsksAt what unit (Coil address function) value asked = asked ≡ option_map (λ on. asked_of_unit unit (coil what function address on)) (coil_state value)
AsksAt what unit (Register address form scale function) value asked =
    (words : Option Words) × Stands form scale value words × (asked ≡ option_map (λ words. asked_of_unit unit (registers what function address words)) words)
AsksAt what unit (Object object level station scale) value asked = asked ≡ None

-- the place of a point
abbrev pub place_of : List Place → ℕ → Option Place
place_of places point = find (λ place. nat_eq place.point point) places

abbrev pub AsksAtPlace : What → Option Place → ℤ → Option Asked → Type 0
AsksAtPlace what None value asked = asked ≡ None
AsksAtPlace what (Some place) value asked = AsksAt what place.unit place.at value asked

-- where a part was assigned
abbrev pub find_place : Option DriverPlan → ℕ → Option Place
find_place None point = None
find_place (Some part) point = place_of part.places point

-- what is asked, where the point has a place there and the value a form
abbrev pub AsksFor : Option DriverPlan → What → ℕ → ℤ → Option Asked → Type 0
AsksFor part what point value asked = AsksAtPlace what (find_place part point) value asked
