-- Lines and what they ask, computed from the definitions alone.
use Rattle.std.proofs.Common.{◌≡◌, [], ◌∷◌, pos, Some, None, refl}
use Rattle.std.specs.Prelude.{codes, replicate}
use Rattle.std.specs.Str.{is_utf8, chars}
use Rattle.serde_json.proofs.OnLiterals.{serde_json_on_literals}
use Rattle.boss_model.specs.declared.answer.Refusal.{Refusal}
use Rattle.boss_model.specs.declared.answer.Refusal.TheVariants.{Malformed, UnknownOp, UnknownPoint}
use Rattle.boss_model.specs.declared.command.Command.TheVariants as command
use Rattle.boss_model.specs.declared.command.Policy.TheVariants.{Abort, Keep}
use Rattle.def_wire.specs.declared.form.Form.TheVariants.{Script, FirstLine, LaterLine}
use Rattle.def_wire.specs.declared.request.Ask.TheVariants as ask
use Rattle.boss_model.specs.declared.point.Kind.TheVariants.{Analog, Binary}
use Rattle.boss_model.specs.Catalogue.{Catalogue}
use Rattle.boss_model.specs.declared.spot.Key.TheVariants as key
use Rattle.boss_model.specs.declared.spot.Spot.{Spot}
use Rattle.boss_model.specs.declared.spot.Spot.TheVariants.{Line, Named, Write, Step, Half}
use Rattle.def_wire.specs.Requests.{asks, wrong, parsed}

-- what is at fault
abbrev at : Spot → Refusal
at spot = Malformed (Some spot)

-- a damper and a lamp on one driver
abbrev site : Catalogue
site = record {
  drivers = codes "field" ∷ [];
  points =
      record { name = codes "damper"; actuator = record { kind = Analog (pos 0) (pos 100000); default = pos 20000; driver = 0 }; min_on = pos 0; min_off = pos 0 } ∷
      record { name = codes "lamp"; actuator = record { kind = Binary; default = pos 0; driver = 0 }; min_on = pos 0; min_off = pos 0 } ∷ [];
}

-- a write that names no priority is at the lowest, and a submit that names no policy is to be aborted
submitted : parsed site Script (codes "{\"on\":3,\"at\":1000,\"op\":\"submit\",\"writes\":[{\"point\":\"lamp\",\"value\":1,\"lease\":60000,\"revert\":[[0,5000]]}]}")
    ≡ asks (record { on = 3; at = 1000; ask = ask.Command (command.Submit (record { point = 1; value = pos 1; priority = pos 16; lease = pos 60000; revert = record { value = pos 0; hold = pos 5000 } ∷ [] } ∷ []) Abort 0) })
unfolding parsed serde_json_on_literals is_utf8 chars
submitted = refl

-- a renewal of two points, and one of all leases
renewed : parsed site Script (codes "{\"op\":\"renew\",\"txn\":7,\"length\":60000,\"points\":[\"lamp\",\"damper\"]}")
    ≡ asks (record { on = 1; at = 0; ask = ask.Command (command.Renew 7 (pos 60000) (1 ∷ 0 ∷ []) 0) })
unfolding parsed serde_json_on_literals is_utf8 chars
renewed = refl

all_renewed : parsed site Script (codes "{\"op\":\"renew\",\"txn\":7,\"length\":60000}") ≡ asks (record { on = 1; at = 0; ask = ask.Command (command.Renew 7 (pos 60000) [] 0) })
unfolding parsed serde_json_on_literals is_utf8 chars
all_renewed = refl

-- the first sixteen notices of the session's own process
noticed : parsed site Script (codes "{\"op\":\"notices\"}") ≡ asks (record { on = 1; at = 0; ask = ask.Command (command.Notices None 1 16) })
unfolding parsed serde_json_on_literals is_utf8 chars
noticed = refl

-- of two equal keys the last counts
last_counts : parsed site Script (codes "{\"at\":\"soon\",\"op\":\"dance\",\"at\":8,\"op\":\"tick\"}") ≡ asks (record { on = 1; at = 8; ask = ask.Command command.Tick })
unfolding parsed serde_json_on_literals is_utf8 chars
last_counts = refl

-- what is not known is told whatever else the line has
unknown : parsed site Script (codes "{\"on\":0,\"op\":\"watch\"}") ≡ wrong UnknownOp
unfolding parsed serde_json_on_literals is_utf8 chars
unknown = refl

-- the least place of a name that no point has
nowhere : parsed site Script (codes "{\"op\":\"renew\",\"txn\":7,\"length\":1,\"points\":[\"lamp\",\"Door\",\"\"]}") ≡ wrong (UnknownPoint 1)
unfolding parsed serde_json_on_literals is_utf8 chars
nowhere = refl

-- a write that is none is told before a point that is not known
malformed : parsed site Script (codes "{\"op\":\"submit\",\"writes\":[{\"point\":\"door\",\"value\":1,\"lease\":1},{\"point\":\"lamp\",\"value\":1}]}") ≡ wrong (at (Write 1 key.Lease))
unfolding parsed serde_json_on_literals is_utf8 chars
malformed = refl

-- what the machine refuses is a request all the same
left_to_the_machine : parsed site Script (codes "{\"op\":\"submit\",\"policy\":\"keep\",\"writes\":[{\"point\":\"lamp\",\"value\":2,\"priority\":17,\"lease\":0}]}")
    ≡ asks (record { on = 1; at = 0; ask = ask.Command (command.Submit (record { point = 1; value = pos 2; priority = pos 17; lease = pos 0; revert = [] } ∷ []) Keep 0) })
unfolding parsed serde_json_on_literals is_utf8 chars
left_to_the_machine = refl

-- the last session and the last moment, and the most notices; then one more of each
greatest : parsed site Script (codes "{\"on\":65535,\"at\":1152921504606846976,\"op\":\"notices\",\"max\":64}")
    ≡ asks (record { on = 65535; at = 1152921504606846976; ask = ask.Command (command.Notices None 1 64) })
unfolding parsed serde_json_on_literals is_utf8 chars
greatest = refl

no_such_session : parsed site Script (codes "{\"on\":65536,\"op\":\"tick\"}") ≡ wrong (at (Line key.On))
unfolding parsed serde_json_on_literals is_utf8 chars
no_such_session = refl

no_such_moment : parsed site Script (codes "{\"at\":1152921504606846977,\"op\":\"tick\"}") ≡ wrong (at (Line key.At))
unfolding parsed serde_json_on_literals is_utf8 chars
no_such_moment = refl

too_many_notices : parsed site Script (codes "{\"op\":\"notices\",\"max\":65}") ≡ wrong (at (Line key.Max))
unfolding parsed serde_json_on_literals is_utf8 chars
too_many_notices = refl

-- as many points as a renewal may name, and one more
most_points_named : parsed site Script (codes "{\"op\":\"renew\",\"txn\":7,\"length\":1,\"points\":[\"lamp\",\"lamp\",\"lamp\",\"lamp\",\"lamp\",\"lamp\",\"lamp\",\"lamp\",\"lamp\",\"lamp\",\"lamp\",\"lamp\",\"lamp\",\"lamp\",\"lamp\",\"lamp\",\"lamp\",\"lamp\",\"lamp\",\"lamp\",\"lamp\",\"lamp\",\"lamp\",\"lamp\",\"lamp\",\"lamp\",\"lamp\",\"lamp\",\"lamp\",\"lamp\",\"lamp\",\"lamp\"]}")
    ≡ asks (record { on = 1; at = 0; ask = ask.Command (command.Renew 7 (pos 1) (replicate 32 1) 0) })
unfolding parsed serde_json_on_literals is_utf8 chars
most_points_named = refl

too_many_points_named : parsed site Script (codes "{\"op\":\"renew\",\"txn\":7,\"length\":1,\"points\":[\"lamp\",\"lamp\",\"lamp\",\"lamp\",\"lamp\",\"lamp\",\"lamp\",\"lamp\",\"lamp\",\"lamp\",\"lamp\",\"lamp\",\"lamp\",\"lamp\",\"lamp\",\"lamp\",\"lamp\",\"lamp\",\"lamp\",\"lamp\",\"lamp\",\"lamp\",\"lamp\",\"lamp\",\"lamp\",\"lamp\",\"lamp\",\"lamp\",\"lamp\",\"lamp\",\"lamp\",\"lamp\",\"lamp\"]}") ≡ wrong (at (Line key.Points))
unfolding parsed serde_json_on_literals is_utf8 chars
too_many_points_named = refl

-- ---- numbered requests

-- a submit, a renewal and a cancel may be numbered, from 1 up to one below 2^62
submit_numbered : parsed site Script (codes "{\"seq\":5,\"op\":\"submit\",\"writes\":[{\"point\":\"lamp\",\"value\":1,\"lease\":60000}]}")
    ≡ asks (record { on = 1; at = 0; ask = ask.Command (command.Submit (record { point = 1; value = pos 1; priority = pos 16; lease = pos 60000; revert = [] } ∷ []) Abort 5) })
unfolding parsed serde_json_on_literals is_utf8 chars
submit_numbered = refl

renewal_numbered : parsed site Script (codes "{\"op\":\"renew\",\"txn\":7,\"length\":60000,\"seq\":1}")
    ≡ asks (record { on = 1; at = 0; ask = ask.Command (command.Renew 7 (pos 60000) [] 1) })
unfolding parsed serde_json_on_literals is_utf8 chars
renewal_numbered = refl

cancel_numbered : parsed site Script (codes "{\"op\":\"cancel\",\"txn\":7,\"seq\":4611686018427387903}")
    ≡ asks (record { on = 1; at = 0; ask = ask.Command (command.Cancel 7 4611686018427387903) })
unfolding parsed serde_json_on_literals is_utf8 chars
cancel_numbered = refl

cancel_without_number : parsed site Script (codes "{\"op\":\"cancel\",\"txn\":7}")
    ≡ asks (record { on = 1; at = 0; ask = ask.Command (command.Cancel 7 0) })
unfolding parsed serde_json_on_literals is_utf8 chars
cancel_without_number = refl

-- any other number, and what is none
number_0 : parsed site Script (codes "{\"op\":\"cancel\",\"txn\":7,\"seq\":0}")
    ≡ wrong (at (Line key.Seq))
unfolding parsed serde_json_on_literals is_utf8 chars
number_0 = refl

number_too_great : parsed site Script (codes "{\"op\":\"cancel\",\"txn\":7,\"seq\":4611686018427387904}")
    ≡ wrong (at (Line key.Seq))
unfolding parsed serde_json_on_literals is_utf8 chars
number_too_great = refl

number_below_0 : parsed site Script (codes "{\"op\":\"renew\",\"txn\":7,\"length\":60000,\"seq\":-1}")
    ≡ wrong (at (Line key.Seq))
unfolding parsed serde_json_on_literals is_utf8 chars
number_below_0 = refl

number_with_a_fraction : parsed site Script (codes "{\"op\":\"cancel\",\"txn\":7,\"seq\":5.0}")
    ≡ wrong (at (Line key.Seq))
unfolding parsed serde_json_on_literals is_utf8 chars
number_with_a_fraction = refl

number_as_text : parsed site Script (codes "{\"op\":\"cancel\",\"txn\":7,\"seq\":\"5\"}")
    ≡ wrong (at (Line key.Seq))
unfolding parsed serde_json_on_literals is_utf8 chars
number_as_text = refl

-- a number that is none is told before a point that is not known
malformed_number_first : parsed site Script (codes "{\"op\":\"submit\",\"seq\":0,\"writes\":[{\"point\":\"door\",\"value\":1,\"lease\":60000}]}")
    ≡ wrong (at (Line key.Seq))
unfolding parsed serde_json_on_literals is_utf8 chars
malformed_number_first = refl

-- no other line has a number, and the key is passed over there
number_passed_over : parsed site Script (codes "{\"op\":\"status\",\"txn\":7,\"seq\":0}")
    ≡ asks (record { on = 1; at = 0; ask = ask.Command (command.Status 7) })
unfolding parsed serde_json_on_literals is_utf8 chars
number_passed_over = refl

-- ---- lines of a connection

-- the first line may ask to watch: from the first notice on, where it does not say from which
watched : parsed site FirstLine (codes "{\"op\":\"watch\",\"process\":\"night.shift\",\"from\":9}")
    ≡ asks (record { on = 0; at = 0; ask = ask.Watch (codes "night.shift") 9 })
unfolding parsed serde_json_on_literals is_utf8 chars
watched = refl

watched_from_the_first : parsed site FirstLine (codes "{\"process\":\"a\",\"op\":\"watch\"}") ≡ asks (record { on = 0; at = 0; ask = ask.Watch (codes "a") 1 })
unfolding parsed serde_json_on_literals is_utf8 chars
watched_from_the_first = refl

nobody_watched : parsed site FirstLine (codes "{\"op\":\"watch\",\"from\":9}") ≡ wrong (at (Line key.Process))
unfolding parsed serde_json_on_literals is_utf8 chars
nobody_watched = refl

no_name_watched : parsed site FirstLine (codes "{\"op\":\"watch\",\"process\":\"Night\"}") ≡ wrong (at (Line key.Process))
unfolding parsed serde_json_on_literals is_utf8 chars
no_name_watched = refl

watched_from_0 : parsed site FirstLine (codes "{\"op\":\"watch\",\"process\":\"a\",\"from\":0}") ≡ wrong (at (Line key.From))
unfolding parsed serde_json_on_literals is_utf8 chars
watched_from_0 = refl

-- no later line may, well spelled or not
watched_too_late : parsed site LaterLine (codes "{\"op\":\"watch\",\"from\":0}") ≡ wrong UnknownOp
unfolding parsed serde_json_on_literals is_utf8 chars
watched_too_late = refl

-- what lets time pass or ends a session is not for a connection to ask
no_tick : parsed site FirstLine (codes "{\"op\":\"tick\"}") ≡ wrong UnknownOp
unfolding parsed serde_json_on_literals is_utf8 chars
no_tick = refl

not_gone : parsed site LaterLine (codes "{\"op\":\"gone\"}") ≡ wrong UnknownOp
unfolding parsed serde_json_on_literals is_utf8 chars
not_gone = refl

-- which session asks, and when, is not for a connection to say; whatever stands under these keys is passed over
passed_over_in_the_first : parsed site FirstLine (codes "{\"on\":0,\"at\":\"soon\",\"op\":\"status\",\"txn\":7}")
    ≡ asks (record { on = 0; at = 0; ask = ask.Command (command.Status 7) })
unfolding parsed serde_json_on_literals is_utf8 chars
passed_over_in_the_first = refl

passed_over_in_a_later : parsed site LaterLine (codes "{\"on\":3,\"at\":1000,\"op\":\"status\",\"txn\":7}")
    ≡ asks (record { on = 0; at = 0; ask = ask.Command (command.Status 7) })
unfolding parsed serde_json_on_literals is_utf8 chars
passed_over_in_a_later = refl

-- ---- the key at fault

-- no JSON at all: no key
no_json : parsed site Script (codes "not json") ≡ wrong (Malformed None)
unfolding parsed serde_json_on_literals is_utf8 chars
no_json = refl

-- JSON that is no object has no op
no_object : parsed site Script (codes "7") ≡ wrong (at (Line key.Op))
unfolding parsed serde_json_on_literals is_utf8 chars
no_object = refl

-- nor has this
no_op : parsed site Script (codes "{\"point\":\"lamp\"}") ≡ wrong (at (Line key.Op))
unfolding parsed serde_json_on_literals is_utf8 chars
no_op = refl

-- an op that is no text; one that is no word of the table is unknown-op
op_no_text : parsed site Script (codes "{\"op\":1}") ≡ wrong (at (Line key.Op))
unfolding parsed serde_json_on_literals is_utf8 chars
op_no_text = refl

-- a value with a fraction
a_fraction : parsed site Script (codes "{\"op\":\"submit\",\"writes\":[{\"point\":\"damper\",\"value\":55.5,\"lease\":1}]}") ≡ wrong (at (Write 0 key.Value))
unfolding parsed serde_json_on_literals is_utf8 chars
a_fraction = refl

-- of two faults in one write that of the first of point, value, priority, lease, revert
two_faults : parsed site Script (codes "{\"op\":\"submit\",\"writes\":[{\"lease\":\"long\",\"value\":true,\"point\":\"lamp\"}]}") ≡ wrong (at (Write 0 key.Value))
unfolding parsed serde_json_on_literals is_utf8 chars
two_faults = refl

-- a key of the line before any in its writes
line_first : parsed site Script (codes "{\"op\":\"submit\",\"policy\":null,\"writes\":[{\"point\":7}]}") ≡ wrong (at (Line key.Policy))
unfolding parsed serde_json_on_literals is_utf8 chars
line_first = refl

-- a reversion that is no list of pairs
no_pairs : parsed site Script (codes "{\"op\":\"submit\",\"writes\":[{\"point\":\"lamp\",\"value\":1,\"lease\":1,\"revert\":[30000,5000]}]}") ≡ wrong (at (Step 0 0))
unfolding parsed serde_json_on_literals is_utf8 chars
no_pairs = refl

-- half a pair that is none
half_a_pair : parsed site Script (codes "{\"op\":\"submit\",\"writes\":[{\"point\":\"lamp\",\"value\":1,\"lease\":1},{\"point\":\"lamp\",\"value\":1,\"lease\":1,\"revert\":[[0,5000],[0,\"5 s\"]]}]}") ≡ wrong (at (Half 1 1 1))
unfolding parsed serde_json_on_literals is_utf8 chars
half_a_pair = refl

-- an object in place of a list of one
no_list : parsed site Script (codes "{\"op\":\"submit\",\"writes\":{\"point\":\"lamp\"}}") ≡ wrong (at (Line key.Writes))
unfolding parsed serde_json_on_literals is_utf8 chars
no_list = refl

-- a write that is no object has no point
write_no_object : parsed site Script (codes "{\"op\":\"submit\",\"writes\":[7]}") ≡ wrong (at (Write 0 key.Point))
unfolding parsed serde_json_on_literals is_utf8 chars
write_no_object = refl

-- one of the points is no text; that comes before one that no point has
point_no_text : parsed site Script (codes "{\"op\":\"renew\",\"txn\":7,\"length\":1,\"points\":[\"door\",7]}") ≡ wrong (at (Named 1))
unfolding parsed serde_json_on_literals is_utf8 chars
point_no_text = refl

-- ---- the catalogue

-- the first page, and all that follow in pages of 64
first_page : parsed site FirstLine (codes "{\"op\":\"points\"}") ≡ asks (record { on = 0; at = 0; ask = ask.Command (command.Points 0 64) })
unfolding parsed serde_json_on_literals is_utf8 chars
first_page = refl

-- the last place that may be asked from, and one point alone
last_page : parsed site LaterLine (codes "{\"op\":\"points\",\"max\":1,\"from\":4611686018427387904}")
    ≡ asks (record { on = 0; at = 0; ask = ask.Command (command.Points 4611686018427387904 1) })
unfolding parsed serde_json_on_literals is_utf8 chars
last_page = refl

-- one place more
past_the_last : parsed site Script (codes "{\"op\":\"points\",\"from\":4611686018427387905,\"max\":0}") ≡ wrong (at (Line key.From))
unfolding parsed serde_json_on_literals is_utf8 chars
past_the_last = refl

no_points_asked : parsed site Script (codes "{\"op\":\"points\",\"max\":0}") ≡ wrong (at (Line key.Max))
unfolding parsed serde_json_on_literals is_utf8 chars
no_points_asked = refl

too_many_points_asked : parsed site Script (codes "{\"op\":\"points\",\"max\":65}") ≡ wrong (at (Line key.Max))
unfolding parsed serde_json_on_literals is_utf8 chars
too_many_points_asked = refl

version_asked : parsed site FirstLine (codes "{\"op\":\"version\",\"from\":0}") ≡ asks (record { on = 0; at = 0; ask = ask.Command command.Version })
unfolding parsed serde_json_on_literals is_utf8 chars
version_asked = refl
