-- Source: RFC 8259 (JSON); keys and words own.
-- What is written: answers and notices as JSON objects without spaces, and what a script tells of the writes to devices.
use Rattle.std.specs.Prelude.{ℕ, ◌+◌, ◌/◌, ◌==◌, ℤ, pos, List, [], ◌∷◌, ◌++◌, map, length, take, drop, Bool, ◌&&◌, nat_lt, if◌then◌else◌, Option, Some, None, codes, decimal, slice_get, slice_index_or}
use Rattle.std.specs.Fmt.{signed_decimal}
use Rattle.std.specs.List.{join_with_byte}
use Rattle.std.specs.Option.{option_map_or}
use Rattle.std.specs.Ordering.{int_eq}
use Rattle.hex.specs.Hex.{encode_lower}
use Rattle.boss_model.specs.declared.answer.Answer.{Answer}
use Rattle.boss_model.specs.declared.answer.Answer.TheVariants as answer
use Rattle.boss_model.specs.declared.answer.Basis.{Basis}
use Rattle.boss_model.specs.declared.answer.Basis.TheVariants as basis
use Rattle.boss_model.specs.declared.answer.Mark.{Mark}
use Rattle.boss_model.specs.declared.answer.Mark.TheVariants as mark
use Rattle.boss_model.specs.declared.answer.Refusal.{Refusal}
use Rattle.boss_model.specs.declared.answer.Refusal.TheVariants as refusal
use Rattle.boss_model.specs.declared.answer.Slot.{Slot}
use Rattle.boss_model.specs.declared.answer.Slot.TheVariants as slot
use Rattle.boss_model.specs.declared.notice.Cause.{Cause}
use Rattle.boss_model.specs.declared.notice.Cause.TheVariants as cause
use Rattle.boss_model.specs.declared.notice.Notice.{Notice}
use Rattle.boss_model.specs.declared.notice.Stage.{Stage}
use Rattle.boss_model.specs.declared.notice.Stage.TheVariants as stage
use Rattle.boss_model.specs.declared.notice.What.{What}
use Rattle.boss_model.specs.declared.notice.What.TheVariants as what
use Rattle.boss_model.specs.declared.point.Kind.{Kind}
use Rattle.boss_model.specs.declared.point.Kind.TheVariants.{Analog, Binary, Multi}
use Rattle.boss_model.specs.declared.spot.Spot.{Spot}
use Rattle.boss_model.specs.Catalogue.{Catalogue, Point, actuators, default_of, driver_of}
use Rattle.boss_model.specs.Limits.{most_told, program_version}
use Rattle.boss_model.specs.declared.state.Took.{Took}
use Rattle.def_log.specs.Versions.{newest_version}
use Rattle.def_catalogue.specs.Canonical.{digest_of}
use Rattle.def_wire.specs.Spots.{spot_text}

-- ---- names. A number is written in decimal: `decimal`, or `signed_decimal` where it may be negative.

-- what the catalogue calls a point, and what it calls the driver of a point's device
abbrev pub name_of : Catalogue → ℕ → List ℕ
name_of catalogue point = option_map_or (λ p. p.name) (slice_get catalogue.points point) []

abbrev pub driver_name_of : Catalogue → ℕ → List ℕ
driver_name_of catalogue point = slice_index_or catalogue.drivers (driver_of (actuators catalogue) point) []

-- a name in quotes. It needs no escapes.
abbrev pub quoted : List ℕ → List ℕ
quoted name = 34 ∷ name ++ 34 ∷ []

abbrev pub point_text : Catalogue → ℕ → List ℕ
point_text catalogue point = quoted (name_of catalogue point)

-- ---- the parts of answers and notices

-- items with commas between them
abbrev pub listed : List (List ℕ) → List ℕ
listed items = join_with_byte 44 items

abbrev pub mark_text : Mark → List ℕ
mark_text mark.Settled = codes "\"settled\""
mark_text mark.Pending = codes "\"pending\""
mark_text mark.Failed = codes "\"failed\""

abbrev pub stage_text : Stage → List ℕ
stage_text stage.Run = codes "\"run\""
stage_text stage.Revert = codes "\"revert\""
stage_text stage.Done = codes "\"done\""

-- a superseded lease ended by a transaction, which is told beside the cause
abbrev pub cause_text : Cause → List ℕ
cause_text cause.Expired = codes "\"expired\""
cause_text cause.Cancelled = codes "\"cancelled\""
cause_text cause.Died = codes "\"died\""
cause_text cause.Fault = codes "\"fault\""
cause_text (cause.Superseded by) = codes "\"superseded\",\"by\":" ++ decimal by

-- what a value rests on
abbrev pub basis_text : Basis → List ℕ
basis_text (basis.Lease priority txn) = codes "\"lease\",\"priority\":" ++ decimal priority ++ codes ",\"txn\":" ++ decimal txn
basis_text (basis.Pending priority txn) = codes "\"pending\",\"priority\":" ++ decimal priority ++ codes ",\"txn\":" ++ decimal txn
basis_text basis.Default = codes "\"default\""

abbrev pub slot_text : Slot → List ℕ
slot_text slot.Empty = codes "null"
slot_text (slot.Lease value txn until) =
    codes "{\"value\":" ++ signed_decimal value ++ codes ",\"txn\":" ++ decimal txn ++ codes ",\"until\":" ++ decimal until ++ codes "}"
slot_text (slot.Pending value txn end) =
    codes "{\"value\":" ++ signed_decimal value ++ codes ",\"txn\":" ++ decimal txn ++ codes ",\"end\":" ++ decimal end ++ codes "}"

-- ---- notices

-- the kind of a notice, and what it tells beside
abbrev pub what_text : Catalogue → What → List ℕ
what_text catalogue (what.Fault point) = codes "\"fault\",\"point\":" ++ point_text catalogue point
what_text catalogue (what.Ended point cause) =
    codes "\"ended\",\"point\":" ++ point_text catalogue point ++ codes ",\"cause\":" ++ cause_text cause
what_text catalogue (what.Reverted point) = codes "\"reverted\",\"point\":" ++ point_text catalogue point
what_text catalogue (what.Cut point by) = codes "\"cut\",\"point\":" ++ point_text catalogue point ++ codes ",\"by\":" ++ decimal by
what_text catalogue what.Done = codes "\"done\""

abbrev pub notice_text : Catalogue → Notice → List ℕ
notice_text catalogue notice =
    codes "{\"n\":" ++ decimal notice.number ++ codes ",\"at\":" ++ decimal notice.at ++ codes ",\"txn\":" ++ decimal notice.txn
    ++ codes ",\"kind\":" ++ what_text catalogue notice.what ++ codes "}"

-- ---- refusals

-- a refusal with a place in the line or the command that was refused
abbrev pub placed : List ℕ → ℕ → List ℕ
placed error index = codes "{\"error\":\"" ++ error ++ codes "\",\"index\":" ++ decimal index ++ codes "}"

-- a line that is no JSON has no key at fault
abbrev pub malformed_text : Option Spot → List ℕ
malformed_text None = codes "{\"error\":\"malformed\"}"
malformed_text (Some spot) = codes "{\"error\":\"malformed\",\"key\":" ++ quoted (spot_text spot) ++ codes "}"

abbrev pub refusal_text : Refusal → List ℕ
refusal_text (refusal.Malformed at) = malformed_text at
refusal_text refusal.UnknownOp = codes "{\"error\":\"unknown-op\"}"
refusal_text (refusal.UnknownPoint index) = placed (codes "unknown-point") index
refusal_text refusal.NotAttached = codes "{\"error\":\"not-attached\"}"
refusal_text (refusal.Stale kept) = codes "{\"error\":\"stale\",\"kept\":" ++ decimal kept ++ codes "}"
refusal_text (refusal.SamePoint index) = placed (codes "same-point") index
refusal_text (refusal.BadPriority index) = placed (codes "bad-priority") index
refusal_text (refusal.OutOfRange index) = placed (codes "out-of-range") index
refusal_text (refusal.BadLease index) = placed (codes "bad-lease") index
refusal_text (refusal.BadReversion index) = placed (codes "bad-reversion") index
refusal_text refusal.UnknownTxn = codes "{\"error\":\"unknown-txn\"}"
refusal_text refusal.NotYours = codes "{\"error\":\"not-yours\"}"
refusal_text (refusal.NotInTxn index) = placed (codes "not-in-txn") index
refusal_text (refusal.Ended cause at moment) =
    codes "{\"error\":\"ended\",\"cause\":" ++ cause_text cause ++ codes ",\"at\":" ++ decimal at ++ codes ",\"moment\":" ++ decimal moment ++ codes "}"
refusal_text (refusal.Over at) = codes "{\"error\":\"over\",\"at\":" ++ decimal at ++ codes "}"
refusal_text (refusal.Already name) = codes "{\"error\":\"already\",\"process\":" ++ quoted name ++ codes "}"
refusal_text (refusal.Taken session) = codes "{\"error\":\"taken\",\"session\":" ++ decimal session ++ codes "}"
refusal_text refusal.TooManyProcesses = codes "{\"error\":\"too-many-processes\"}"
refusal_text refusal.Spent = codes "{\"error\":\"spent\"}"

-- ---- the catalogue

abbrev pub kind_text : Kind → List ℕ
kind_text (Analog min max) = codes "\"analog\",\"min\":" ++ signed_decimal min ++ codes ",\"max\":" ++ signed_decimal max
kind_text Binary = codes "\"binary\""
kind_text (Multi states) = codes "\"multi\",\"states\":" ++ signed_decimal states

-- the minimum times, where a point has any
abbrev pub times_text : ℤ → ℤ → List ℕ
times_text on off =
    if int_eq on (pos 0) && int_eq off (pos 0) then [] else codes ",\"min_on\":" ++ signed_decimal on ++ codes ",\"min_off\":" ++ signed_decimal off

-- a point as the catalogue has it, with the name of its driver
abbrev pub entry_text : Catalogue → Point → List ℕ
entry_text catalogue point =
    codes "{\"point\":" ++ quoted point.name ++ codes ",\"kind\":" ++ kind_text point.actuator.kind
    ++ codes ",\"default\":" ++ signed_decimal point.actuator.default
    ++ codes ",\"driver\":" ++ quoted (slice_index_or catalogue.drivers point.actuator.driver []) ++ times_text point.min_on point.min_off ++ codes "}"

-- how many points are told at once: with the first of them the drivers are told, which leave room for half as many
abbrev pub page_size : ℕ → ℕ → ℕ
page_size from most = if from == 0 && nat_lt (most_told / 2) most then most_told / 2 else most

-- the points from this place on, at most so many
abbrev pub page : ℕ → ℕ → Catalogue → List Point
page from most catalogue = take (page_size from most) (drop from catalogue.points)

abbrev pub drivers_text : ℕ → List (List ℕ) → List ℕ
drivers_text from drivers = if from == 0 then codes ",\"drivers\":[" ++ listed (map quoted drivers) ++ codes "]" else []

-- the digest, in 64 hexadecimal digits
abbrev pub digest_text : Catalogue → List ℕ
digest_text catalogue = quoted (encode_lower (digest_of catalogue))

-- how many points there are, the place to ask from next, and these points
abbrev pub list_text : ℕ → Catalogue → List Point → List ℕ
list_text from catalogue points =
    codes ",\"count\":" ++ decimal (length catalogue.points) ++ codes ",\"next\":" ++ decimal (from + length points)
    ++ codes ",\"list\":[" ++ listed (map (entry_text catalogue) points) ++ codes "]}"

-- points, behind the text of the digest
abbrev pub points_text : List ℕ → ℕ → ℕ → Catalogue → List ℕ
points_text digest from most catalogue =
    codes "{\"ok\":\"points\",\"digest\":" ++ digest ++ drivers_text from catalogue.drivers ++ list_text from catalogue (page from most catalogue)

abbrev pub version_text : List ℕ → Catalogue → List ℕ
version_text digest catalogue =
    codes "{\"ok\":\"version\",\"program\":" ++ quoted program_version ++ codes ",\"journal\":" ++ decimal newest_version
    ++ codes ",\"digest\":" ++ digest ++ codes ",\"points\":" ++ decimal (length catalogue.points)
    ++ codes ",\"drivers\":" ++ decimal (length catalogue.drivers) ++ codes "}"

-- ---- answers

-- how often a point's device was found with another value, where it was
abbrev pub differed_text : ℕ → List ℕ
differed_text count = if count == 0 then [] else codes ",\"differed\":" ++ decimal count

-- what a point's device took last and since when, where that is another value than the point is to have
abbrev pub took_text : ℤ → Option Took → List ℕ
took_text value None = []
took_text value (Some took) = if int_eq took.value value then [] else codes ",\"took\":" ++ signed_decimal took.value ++ codes ",\"since\":" ++ decimal took.since

abbrev pub answer_text : Catalogue → Answer → List ℕ
answer_text catalogue (answer.Attached name next) =
    codes "{\"ok\":\"attached\",\"process\":" ++ quoted name ++ codes ",\"next\":" ++ decimal next ++ codes "}"
answer_text catalogue (answer.Accepted txn until) =
    codes "{\"ok\":\"accepted\",\"txn\":" ++ decimal txn ++ codes ",\"until\":" ++ decimal until ++ codes "}"
answer_text catalogue (answer.Renewed txn until) =
    codes "{\"ok\":\"renewed\",\"txn\":" ++ decimal txn ++ codes ",\"until\":" ++ decimal until ++ codes "}"
answer_text catalogue (answer.Cancelled txn at) =
    codes "{\"ok\":\"cancelled\",\"txn\":" ++ decimal txn ++ codes ",\"at\":" ++ decimal at ++ codes "}"
answer_text catalogue (answer.Gone ended) = codes "{\"ok\":\"gone\",\"ended\":" ++ decimal ended ++ codes "}"
answer_text catalogue (answer.Ticked now) = codes "{\"ok\":\"tick\",\"now\":" ++ decimal now ++ codes "}"
answer_text catalogue (answer.Want point version value) =
    codes "{\"ok\":\"want\",\"point\":" ++ point_text catalogue point ++ codes ",\"version\":" ++ decimal version
    ++ codes ",\"value\":" ++ signed_decimal value ++ codes "}"
answer_text catalogue answer.Nothing = codes "{\"ok\":\"nothing\"}"
answer_text catalogue (answer.Noted current) = codes "{\"ok\":\"noted\"}"
answer_text catalogue (answer.Reading point value basis mark differed took) =
    codes "{\"ok\":\"read\",\"point\":" ++ point_text catalogue point ++ codes ",\"value\":" ++ signed_decimal value
    ++ codes ",\"from\":" ++ basis_text basis ++ codes ",\"mark\":" ++ mark_text mark ++ differed_text differed ++ took_text value took ++ codes "}"
answer_text catalogue (answer.Array point slots) =
    codes "{\"ok\":\"array\",\"point\":" ++ point_text catalogue point ++ codes ",\"default\":" ++ signed_decimal (default_of (actuators catalogue) point)
    ++ codes ",\"slots\":[" ++ listed (map slot_text slots.at) ++ codes "]}"
answer_text catalogue (answer.Status txn owner stage live pending) =
    codes "{\"ok\":\"status\",\"txn\":" ++ decimal txn ++ codes ",\"owner\":" ++ quoted owner ++ codes ",\"stage\":" ++ stage_text stage
    ++ codes ",\"live\":" ++ decimal live ++ codes ",\"pending\":" ++ decimal pending ++ codes "}"
answer_text catalogue (answer.Notices first next list) =
    codes "{\"ok\":\"notices\",\"first\":" ++ decimal first ++ codes ",\"next\":" ++ decimal next
    ++ codes ",\"list\":[" ++ listed (map (notice_text catalogue) list) ++ codes "]}"
answer_text catalogue (answer.Points from most) = points_text (digest_text catalogue) from most catalogue
answer_text catalogue answer.Version = version_text (digest_text catalogue) catalogue
answer_text catalogue (answer.Refused refusal) = refusal_text refusal

-- ---- replies that are no answers of the machine

abbrev pub memory_text : List ℕ
memory_text = codes "{\"error\":\"memory\"}"

abbrev pub stopped_text : List ℕ
stopped_text = codes "{\"error\":\"stopped\"}"

-- which write of a submit is denied, from 0, and by which rule, from 1, or 0 where no rule is for it
abbrev pub denied_text : ℕ → ℕ → List ℕ
denied_text index rule = codes "{\"error\":\"denied\",\"index\":" ++ decimal index ++ codes ",\"rule\":" ++ decimal rule ++ codes "}"

abbrev pub too_long_text : List ℕ
too_long_text = codes "{\"error\":\"too-long\"}"

-- ---- writes to devices

abbrev pub result_text : Bool → List ℕ
result_text ok = if ok then codes "ok" else codes "failed"

-- what a script tells of one write to a device
abbrev pub device_text : Catalogue → ℕ → ℤ → Bool → List ℕ
device_text catalogue point value ok =
    codes "write " ++ driver_name_of catalogue point ++ codes " " ++ name_of catalogue point ++ codes " " ++ signed_decimal value
    ++ codes " " ++ result_text ok

-- ---- lines

-- a line of output ends with byte 10
abbrev pub line_of : List ℕ → List ℕ
line_of text = text ++ 10 ∷ []
