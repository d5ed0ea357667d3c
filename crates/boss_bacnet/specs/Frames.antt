-- Source: ASHRAE 135, annex J.2 (BACnet/IP), clauses 6.2 (the network layer), 20.1 and 20.2 (the application layer), 15.5 and 15.9
-- (ReadProperty and WriteProperty), 21 (their productions).
-- The datagrams by which a value is written and read.
use Rattle.std.specs.Prelude.{ℕ, ◌+◌, ◌*◌, List, [], ◌∷◌, ◌++◌, length, Option, Some, None}
use Rattle.std.specs.Int.{to_be_bytes, w16, w32}
use Rattle.boss_bacnet.specs.declared.asked.Asked.{Asked}
use Rattle.boss_model.specs.declared.places.ObjectKind.{ObjectKind}
use Rattle.boss_model.specs.declared.places.ObjectKind.TheVariants.{AnalogOutput, AnalogValue, BinaryOutput, BinaryValue, MultiStateOutput, MultiStateValue}
use Rattle.boss_model.specs.declared.places.Object.{Object}
use Rattle.boss_model.specs.declared.places.Station.{Station}
use Rattle.boss_bacnet.specs.declared.asked.Value.{Value}
use Rattle.boss_bacnet.specs.declared.asked.Value.TheVariants.{Real, Enumerated, Unsigned}
use Rattle.boss_bacnet.specs.declared.asked.What.{What}
use Rattle.boss_bacnet.specs.declared.asked.What.TheVariants.{Write, Check}

-- the number of a type of object (BACnetObjectType)
abbrev pub kind_code : ObjectKind → ℕ
kind_code AnalogOutput = 1
kind_code AnalogValue = 2
kind_code BinaryOutput = 4
kind_code BinaryValue = 5
kind_code MultiStateOutput = 14
kind_code MultiStateValue = 19

-- Present_Value of an object, under the context tags 0 and 1: ten bits of type and 22 of instance, and property 85
abbrev pub property_bytes : Object → List ℕ
property_bytes object = 12 ∷ to_be_bytes w32 (kind_code object.kind * 4194304 + object.instance) ++ 25 ∷ 85 ∷ []

-- a value under its application tag: 4 a binary32, 9 an enumerated and 2 an unsigned number, both of one byte here
abbrev pub value_bytes : Value → List ℕ
value_bytes (Real bits) = 68 ∷ to_be_bytes w32 bits
value_bytes (Enumerated state) = 145 ∷ state ∷ []
value_bytes (Unsigned state) = 33 ∷ state ∷ []

-- the value between the tags that open and shut context tag 3
abbrev pub valued : Value → List ℕ
valued value = 62 ∷ value_bytes value ++ 63 ∷ []

-- the services
abbrev pub service : What → ℕ
service (Write value level) = 15
service (Check value) = 12

-- what a service is asked: whose property, and of a write the value and its priority under context tag 4
abbrev pub parameters : Object → What → List ℕ
parameters object (Write value level) = property_bytes object ++ valued value ++ 73 ∷ level ∷ []
parameters object (Check value) = property_bytes object

-- a confirmed request in one segment, which takes answers of at most 480 bytes in one segment
abbrev pub request : ℕ → Asked → List ℕ
request id asked = 0 ∷ 3 ∷ id ∷ service asked.what ∷ parameters asked.object asked.what

-- where a station behind a router is: its network, and its address of one byte
abbrev pub address : Station → List ℕ
address remote = to_be_bytes w16 remote.network ++ 1 ∷ remote.address ∷ []

-- the network layer's version and control: an answer is expected, and to a station behind a router there go its address and the hops
abbrev pub to_whom : Option Station → List ℕ
to_whom None = 1 ∷ 4 ∷ []
to_whom (Some remote) = 1 ∷ 36 ∷ address remote ++ 255 ∷ []

-- what an answer says of its sender
abbrev pub from_whom : Option Station → List ℕ
from_whom None = []
from_whom (Some remote) = address remote

-- BACnet/IP: to one address, of so many bytes in all
abbrev pub datagram : List ℕ → List ℕ
datagram message = 129 ∷ 10 ∷ to_be_bytes w16 (4 + length message) ++ message

abbrev pub frame : ℕ → Asked → List ℕ
frame id asked = datagram (to_whom asked.remote ++ request id asked)

-- ---- the answers

-- a write was done
abbrev pub simple_ack : ℕ → List ℕ
simple_ack id = 32 ∷ id ∷ 15 ∷ []

-- what was read, up to the value, and with it
abbrev pub read_head : ℕ → Object → List ℕ
read_head id object = 48 ∷ id ∷ 12 ∷ property_bytes object

abbrev pub read_ack : ℕ → Object → Value → List ℕ
read_ack id object value = read_head id object ++ valued value
