-- Worked rows, computed from the definitions: a plan for three points of one driver, and others that are refused.
use Rattle.std.proofs.Common.{◌≡◌, ℕ, ℤ, pos, negsuc, List, [], ◌∷◌, true, false, codes, Some, None, Result, Ok, Err, refl}
use Rattle.std.specs.Fmt.{digits}
use Rattle.toml.specs.Data.{Data, string, integer, array, table, Items, no_items, item, Members, no_members, member}
use Rattle.boss_model.specs.Catalogue.{Catalogue, Point}
use Rattle.boss_model.specs.declared.places.Form.{Form}
use Rattle.boss_model.specs.declared.places.Form.TheVariants.{Unsigned16, Signed16, Unsigned32, Signed32, Single}
use Rattle.boss_model.specs.declared.places.Function.TheVariants.{WriteSingle, WriteMultiple}
use Rattle.boss_model.specs.declared.places.Half.TheVariants.{High, Low}
use Rattle.boss_model.specs.declared.places.ObjectKind.TheVariants.{AnalogOutput, BinaryValue, MultiStateValue}
use Rattle.boss_model.specs.declared.places.Protocol.TheVariants.{Modbus, Bacnet}
use Rattle.boss_model.specs.declared.places.Round.TheVariants.{Down, Nearest}
use Rattle.boss_model.specs.declared.places.Scale.{Scale}
use Rattle.boss_model.specs.declared.places.Where.{Where}
use Rattle.boss_model.specs.declared.places.Where.TheVariants.{Coil, Register, Object}
use Rattle.boss_model.specs.declared.point.Kind.{Kind}
use Rattle.boss_model.specs.declared.point.Kind.TheVariants.{Analog, Binary, Multi}
use Rattle.boss_plans.specs.declared.plan.Part.{Part}
use Rattle.boss_plans.specs.declared.refusal.PlanRefusal.{PlanRefusal}
use Rattle.boss_plans.specs.declared.refusal.PlanRefusal.TheVariants.{TooLong, Missing, BadDriver, BadPlace, NoPlace}
use Rattle.boss_plans.specs.declared.refusal.PlanKey.TheVariants.{Driver, Place}
use Rattle.boss_plans.specs.Keys.{interval_in, natural_up_to, tries_of, wait_of}
use Rattle.boss_plans.specs.Objects.{object_in, where_at}
use Rattle.boss_plans.specs.Wheres.{suits, where_of}
use Rattle.boss_plans.specs.Lines.{refusal_line}
use Rattle.boss_plans.specs.Plans.{plan_in}

abbrev point_of_field : List ℕ → Kind → ℤ → Point
point_of_field name kind default = record { name = name; actuator = record { kind = kind; default = default; driver = 0 }; min_on = pos 0; min_off = pos 0 }

abbrev three_points : Catalogue
three_points = record {
  drivers = codes "field" ∷ [];
  points =
      point_of_field (codes "ahu1.damper") (Analog (pos 0) (pos 100000)) (pos 20000)
      ∷ point_of_field (codes "lamp") Binary (pos 0)
      ∷ point_of_field (codes "fan") (Multi (pos 3)) (pos 1)
      ∷ [];
}

-- ---- tables, whose keys ascend

abbrev host_of_field : Data
host_of_field = table (member (codes "host") (string (codes "127.0.0.1:1502")) (member (codes "name") (string (codes "field")) no_members))

-- so many thousandths are one of a register, which is written alone
abbrev by : ℕ → Scale
by per = record { times = 1; per = pos per; offset = pos 0; round = Down }

abbrev plain : ℕ → ℕ → Where
plain address per = Register address Unsigned16 (by per) WriteSingle

abbrev at_register : List ℕ → ℤ → Data
at_register point register =
    table (member (codes "point") (string point) (member (codes "register") (integer register) (member (codes "unit") (integer (pos 1)) no_members)))

abbrev damper : Data
damper =
    table (member (codes "per") (integer (pos 1000)) (member (codes "point") (string (codes "ahu1.damper"))
    (member (codes "register") (integer (pos 2)) (member (codes "unit") (integer (pos 1)) no_members))))

abbrev lamp : Data
lamp = table (member (codes "coil") (integer (pos 19)) (member (codes "point") (string (codes "lamp")) (member (codes "unit") (integer (pos 1)) no_members)))

abbrev fan : Data
fan = at_register (codes "fan") (pos 3)

abbrev file_of : Items → Items → Data
file_of drivers places = table (member (codes "driver") (array drivers) (member (codes "place") (array places) no_members))

abbrev for_field : Items → Result (List Part) PlanRefusal
for_field places = plan_in three_points (file_of (item host_of_field no_items) places)

-- ---- plans

pub all-placed : for_field (item damper (item lamp (item fan no_items))) ≡ Ok (record {
  driver = 0;
  plan = record {
    host = codes "127.0.0.1:1502";
    speaks = Modbus;
    wait = 5000;
    tries = 1;
    places =
        record { point = 0; unit = 1; at = plain 2 1000; check = 0; again = 0 }
        ∷ record { point = 1; unit = 1; at = Coil 19 WriteSingle; check = 0; again = 0 }
        ∷ record { point = 2; unit = 1; at = plain 3 1; check = 0; again = 0 }
        ∷ [];
  };
} ∷ [])
all-placed = refl

pub empty-plan : plan_in three_points (file_of no_items no_items) ≡ Ok []
empty-plan = refl

-- ---- refusals

pub without-fan : for_field (item damper (item lamp no_items)) ≡ Err (NoPlace 2)
without-fan = refl

pub without-all : for_field no_items ≡ Err (NoPlace 0)
without-all = refl

pub placed-twice : for_field (item damper (item lamp (item damper (item fan no_items)))) ≡ Err (BadPlace 2)
placed-twice = refl

-- a fan has more than two states
pub fan-at_coil : for_field (item damper (item lamp (item (table (member (codes "coil") (integer (pos 3))
    (member (codes "point") (string (codes "fan")) (member (codes "unit") (integer (pos 1)) no_members)))) no_items))) ≡ Err (BadPlace 2)
fan-at_coil = refl

pub unknown-point : for_field (item (at_register (codes "fans") (pos 3)) no_items) ≡ Err (BadPlace 0)
unknown-point = refl

-- 100,000 is past sixteen bits
pub damper-undivided : for_field (item (at_register (codes "ahu1.damper") (pos 2)) no_items) ≡ Err (BadPlace 0)
damper-undivided = refl

pub driver-not_planned : plan_in three_points (file_of no_items (item fan no_items)) ≡ Err (BadPlace 0)
driver-not_planned = refl

pub driver-twice : plan_in three_points (file_of (item host_of_field (item host_of_field no_items)) no_items) ≡ Err (BadDriver 1)
driver-twice = refl

-- the first test that fails decides
pub driver-before_place : plan_in three_points (file_of (item fan no_items) (item host_of_field no_items)) ≡ Err (BadDriver 0)
driver-before_place = refl

pub missing-driver : plan_in three_points (table no_members) ≡ Err (Missing Driver)
missing-driver = refl

pub missing-place : plan_in three_points (table (member (codes "driver") (array no_items) no_members)) ≡ Err (Missing Place)
missing-place = refl

-- ---- keys

pub damper-suits : suits (Analog (pos 0) (pos 100000)) (plain 2 1000) ≡ true
damper-suits = refl

pub greatest-suits : suits (Analog (pos 0) (pos 65535)) (plain 2 1) ≡ true
greatest-suits = refl

pub greatest-past : suits (Analog (pos 0) (pos 65536)) (plain 2 1) ≡ false
greatest-past = refl

-- rounded down, 131,071 halves to 65,535
pub greatest-halved : suits (Analog (pos 0) (pos 131071)) (plain 2 2) ≡ true
greatest-halved = refl

pub below-nothing : suits (Analog (negsuc 0) (pos 100)) (plain 2 1) ≡ false
below-nothing = refl

pub fan-coil : suits (Multi (pos 3)) (Coil 3 WriteSingle) ≡ false
fan-coil = refl

-- a lamp may be 0 and 1 in a register
pub lamp-register : suits Binary (plain 19 1) ≡ true
lamp-register = refl

pub unit-last : natural_up_to 255 (pos 255) ≡ Some 255
unit-last = refl

pub unit-past : natural_up_to 255 (pos 256) ≡ None
unit-past = refl

pub waits-left_out : wait_of Modbus (table no_members) ≡ Some 5000
waits-left_out = refl

pub waits-half_a_second : wait_of Modbus (table (member (codes "wait") (integer (pos 500)) no_members)) ≡ Some 500
waits-half_a_second = refl

pub waits-too_short : wait_of Modbus (table (member (codes "wait") (integer (pos 49)) no_members)) ≡ None
waits-too_short = refl

-- ---- forms

-- a register with one more key, or two, which stand before it in the order of the alphabet
abbrev spelled : (Members → Members) → ℤ → (Members → Members) → Data
spelled before address after = table (before (member (codes "register") (integer address) (after no_members)))

abbrev typed : List ℕ → Members → Members
typed name = member (codes "type") (string name)

abbrev key_of : List ℕ → Data → Members → Members
key_of key value = member key value

abbrev nothing : Members → Members
nothing members = members

-- -20 to 90 degrees, in tenths
pub tenths : where_of (spelled (key_of (codes "per") (integer (pos 100))) (pos 100) (λ m. member (codes "round") (string (codes "nearest")) (typed (codes "i16") m)))
    ≡ Some (Register 100 Signed16 (record { times = 1; per = pos 100; offset = pos 0; round = Nearest }) WriteSingle)
tenths = refl

pub tenths-suit : suits (Analog (negsuc 19999) (pos 90000)) (Register 100 Signed16 (record { times = 1; per = pos 100; offset = pos 0; round = Nearest }) WriteSingle) ≡ true
tenths-suit = refl

pub float : where_of (spelled (λ m. member (codes "first") (string (codes "low")) (member (codes "per") (integer (pos 1000)) m)) (pos 10) (typed (codes "f32")))
    ≡ Some (Register 10 (Single Low) (by 1000) WriteMultiple)
float = refl

-- -100 to 100 of anything stand in it
pub float-suits : suits (Analog (negsuc 99999) (pos 100000)) (Register 10 (Single Low) (by 1000) WriteMultiple) ≡ true
float-suits = refl

-- the second of two registers needs an address
pub float-last : where_of (spelled nothing (pos 65535) (typed (codes "f32"))) ≡ None
float-last = refl

pub float-rounded : where_of (spelled nothing (pos 10) (λ m. member (codes "round") (string (codes "down")) (typed (codes "f32") m))) ≡ None
float-rounded = refl

pub half-of_one : where_of (spelled (key_of (codes "first") (string (codes "high"))) (pos 10) nothing) ≡ None
half-of_one = refl

pub type-of_no_kind : where_of (spelled nothing (pos 10) (typed (codes "f64"))) ≡ None
type-of_no_kind = refl

-- ---- functions

pub by-several : where_of (spelled (key_of (codes "function") (integer (pos 16))) (pos 10) nothing) ≡ Some (Register 10 Unsigned16 (by 1) WriteMultiple)
by-several = refl

pub two-by_one : where_of (spelled (key_of (codes "function") (integer (pos 6))) (pos 10) (typed (codes "u32"))) ≡ None
two-by_one = refl

pub coil-by_several : where_of (table (member (codes "coil") (integer (pos 19)) (member (codes "function") (integer (pos 15)) no_members)))
    ≡ Some (Coil 19 WriteMultiple)
coil-by_several = refl

pub coil-by_another : where_of (table (member (codes "coil") (integer (pos 19)) (member (codes "function") (integer (pos 6)) no_members))) ≡ None
coil-by_another = refl

-- `per` means nothing at a coil; what else belongs to a register is refused there
pub coil-per : where_of (table (member (codes "coil") (integer (pos 19)) (member (codes "per") (integer (pos 1000)) no_members)))
    ≡ Some (Coil 19 WriteSingle)
coil-per = refl

pub coil-typed : where_of (table (member (codes "coil") (integer (pos 19)) (typed (codes "u16") no_members))) ≡ None
coil-typed = refl

pub coil-and_register : where_of (table (member (codes "coil") (integer (pos 1)) (member (codes "register") (integer (pos 1)) no_members))) ≡ None
coil-and_register = refl

-- ---- scales

-- degrees Fahrenheit of thousandths of a degree Celsius
pub fahrenheit : where_of (table (member (codes "offset") (integer (pos 32)) (member (codes "per") (integer (pos 5000))
    (member (codes "register") (integer (pos 4)) (member (codes "times") (integer (pos 9)) no_members)))))
    ≡ Some (Register 4 Unsigned16 (record { times = 9; per = pos 5000; offset = pos 32; round = Down }) WriteSingle)
fahrenheit = refl

pub times-nothing : where_of (spelled nothing (pos 10) (key_of (codes "times") (integer (pos 0)))) ≡ None
times-nothing = refl

-- 10^9 times 10^10 thousandths are too much
pub shifted-past : where_of (spelled (λ m. member (codes "offset") (integer (pos 1000000000)) (member (codes "per") (integer (pos 10000000000)) m)) (pos 10) nothing) ≡ None
shifted-past = refl

-- ---- BACnet

-- analog output 3 of station 12 of network 2001, in percent
abbrev damper_of_roof : Members → Data
damper_of_roof rest =
    table (member (codes "bacnet") (string (codes "analog-output,3")) (member (codes "level") (integer (pos 10))
    (member (codes "network") (integer (pos 2001)) (member (codes "per") (integer (pos 1000)) rest))))

pub roof-station : where_at Bacnet (damper_of_roof (member (codes "station") (integer (pos 12)) no_members))
    ≡ Some (Object (record { kind = AnalogOutput; instance = 3 }) 10 (Some (record { network = 2001; address = 12 })) (by 1000))
roof-station = refl

-- a network alone is no station
pub roof-network : where_at Bacnet (damper_of_roof no_members) ≡ None
roof-network = refl

-- an object has no unit, and a coil no level
pub roof-unit : where_at Bacnet (damper_of_roof (member (codes "station") (integer (pos 12)) (member (codes "unit") (integer (pos 1)) no_members))) ≡ None
roof-unit = refl

pub coil-level : where_at Modbus (table (member (codes "coil") (integer (pos 19)) (member (codes "level") (integer (pos 8)) no_members))) ≡ None
coil-level = refl

abbrev of_object : List ℕ → ℤ → Data
of_object name level = table (member (codes "bacnet") (string name) (member (codes "level") (integer level) no_members))

pub switch-here : where_at Bacnet (of_object (codes "binary-value,0") (pos 16)) ≡ Some (Object (record { kind = BinaryValue; instance = 0 }) 16 None (by 1))
switch-here = refl

pub level-six : where_at Bacnet (of_object (codes "binary-value,0") (pos 6)) ≡ None
level-six = refl

pub level-past : where_at Bacnet (of_object (codes "binary-value,0") (pos 17)) ≡ None
level-past = refl

-- a state is written as it is
pub switch-per : where_at Bacnet (table (member (codes "bacnet") (string (codes "binary-value,0")) (member (codes "level") (integer (pos 8))
    (member (codes "per") (integer (pos 1)) no_members)))) ≡ None
switch-per = refl

pub last-instance : object_in (codes "multi-state-value,4194302") ≡ Some (record { kind = MultiStateValue; instance = 4194302 })
last-instance = refl

pub past-instance : object_in (codes "multi-state-value,4194303") ≡ None
past-instance = refl

pub spaced-object : object_in (codes "analog-output, 3") ≡ None
spaced-object = refl

pub padded-object : object_in (codes "analog-output,03") ≡ None
padded-object = refl

pub object-alone : object_in (codes "analog-output") ≡ None
object-alone = refl

pub roof-suits : suits (Analog (pos 0) (pos 100000)) (Object (record { kind = AnalogOutput; instance = 3 }) 10 None (by 1000)) ≡ true
roof-suits = refl

pub roof-lamp : suits Binary (Object (record { kind = AnalogOutput; instance = 3 }) 10 None (by 1000)) ≡ false
roof-lamp = refl

-- a place is checked as often as its driver says, where it says nothing itself
pub roof-plan : plan_in
    (record three_points { points = point_of_field (codes "ahu1.damper") (Analog (pos 0) (pos 100000)) (pos 20000) ∷ [] })
    (file_of
    (item (table (member (codes "check") (integer (pos 60000)) (member (codes "host") (string (codes "127.0.0.1:47808")) (member (codes "name") (string (codes "field"))
    (member (codes "speaks") (string (codes "bacnet")) no_members))))) no_items)
    (item (table (member (codes "again") (integer (pos 3600000)) (member (codes "bacnet") (string (codes "analog-output,3")) (member (codes "level") (integer (pos 8))
    (member (codes "per") (integer (pos 1000)) (member (codes "point") (string (codes "ahu1.damper")) no_members)))))) no_items))
    ≡ Ok (record {
      driver = 0;
      plan = record {
        host = codes "127.0.0.1:47808";
        speaks = Bacnet;
        wait = 2000;
        tries = 2;
        places =
            record {
              point = 0;
              unit = 0;
              at = Object (record { kind = AnalogOutput; instance = 3 }) 8 None (by 1000);
              check = 60000;
              again = 3600000;
            }
            ∷ [];
      };
    } ∷ [])
roof-plan = refl

pub tries-three : tries_of Bacnet (table (member (codes "tries") (integer (pos 3)) no_members)) ≡ Some 3
tries-three = refl

pub tries-over_modbus : tries_of Modbus (table (member (codes "tries") (integer (pos 1)) no_members)) ≡ None
tries-over_modbus = refl

pub interval-none : interval_in (integer (pos 0)) ≡ Some 0
interval-none = refl

pub interval-too_short : interval_in (integer (pos 999)) ≡ None
interval-too_short = refl

pub interval-day : interval_in (integer (pos 86400000)) ≡ Some 86400000
interval-day = refl

pub interval-past : interval_in (integer (pos 86400001)) ≡ None
interval-past = refl

-- ---- lines

pub line-no_place : refusal_line three_points (NoPlace 2) ≡ codes "plan no-place fan\n"
line-no_place = refl

pub line-missing : refusal_line three_points (Missing Driver) ≡ codes "plan missing driver\n"
line-missing = refl

pub line-too_long : refusal_line three_points (TooLong 1048577) ≡ codes "plan too-long 1048577\n"
unfolding digits
line-too_long = refl

pub line-bad_place : refusal_line three_points (BadPlace 0) ≡ codes "plan bad-place 0\n"
unfolding digits
line-bad_place = refl
