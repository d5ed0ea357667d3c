-- Scripts over a catalogue of one point, computed from the definitions alone.
use Rattle.std.proofs.Common.{◌≡◌, ℕ, [], ◌∷◌, ◌++◌, List, pos, Bool, true, false, map, None, Some, refl}
use Rattle.std.specs.Prelude.{codes, replicate}
use Rattle.std.specs.Fmt.{digits}
use Rattle.std.specs.Str.{is_utf8, chars}
use Rattle.serde_json.proofs.OnLiterals.{serde_json_on_literals}
use Rattle.boss_model.specs.declared.point.Kind.TheVariants.{Binary}
use Rattle.boss_model.specs.Catalogue.{Catalogue, actuators}
use Rattle.boss_model.specs.Effects.{step_effect}
use Rattle.boss_model.specs.Lines.{lines}
use Rattle.boss_model.specs.Machine.{step}
use Rattle.boss_model.specs.Settle.{first_state}
use Rattle.def_wire.specs.Requests.{parsed}
use Rattle.def_wire.specs.Script.{Run, drain, is_too_long, line_read, script}
use Rattle.def_wire.specs.Texts.{line_of}

-- a lamp, by default off, on one driver
abbrev lamp_alone : Catalogue
lamp_alone = record {
  drivers = codes "hall" ∷ [];
  points = record { name = codes "lamp"; actuator = record { kind = Binary; default = pos 0; driver = 0 }; min_on = pos 0; min_off = pos 0 } ∷ [];
}

-- a script of these bytes, from the first state, with what the device answers to each write
abbrev run_over : List ℕ → List Bool → Run
run_over bytes results = script lamp_alone (first_state (actuators lamp_alone)) (lines bytes) results None

-- the lamp is set to its default, and nothing more is told
abbrev lamp_set : List ℕ
lamp_set = line_of (codes "write hall lamp 0 ok")

-- a script without a line
empty_input : run_over [] (true ∷ []) ≡ record {
  state = (run_over [] (true ∷ [])).state;
  text = lamp_set;
  calls = record { point = 0; value = pos 0; ok = true } ∷ [];
  events = [];
  results = [];
  left = None;
  stopped = false;
  short = false;
  over = false;
}
unfolding script drain step step_effect digits
empty_input = refl

-- a line that is empty, which is passed over
empty_line : (run_over (10 ∷ []) (true ∷ [])).text ≡ lamp_set
unfolding script drain step digits
empty_line = refl

-- a reading of the point
one_point_read : (run_over (codes "{\"op\":\"read\",\"point\":\"lamp\"}") (true ∷ [])).text
    ≡ lamp_set ++ line_of (codes "{\"ok\":\"read\",\"point\":\"lamp\",\"value\":0,\"from\":\"default\",\"mark\":\"settled\"}")
unfolding script drain step parsed digits serde_json_on_literals is_utf8 chars
one_point_read = refl

-- the longest line that is read, of 65,535 bytes, and one byte more
longest_line_read : is_too_long (replicate 65535 32) ≡ false
longest_line_read = refl

line_too_long : is_too_long (replicate 65536 32) ≡ true
line_too_long = refl

-- ---- a journal that fails

-- a process attaches and lights the lamp
abbrev two_lines : List ℕ
two_lines = codes "{\"op\":\"attach\",\"process\":\"a\"}" ++ 10 ∷
    codes "{\"at\":1000,\"op\":\"submit\",\"writes\":[{\"point\":\"lamp\",\"value\":1,\"priority\":8,\"lease\":60000}]}"

abbrev stopped_after : ℕ → Run
stopped_after steps = script lamp_alone (first_state (actuators lamp_alone)) (lines two_lines) (true ∷ true ∷ []) (Some steps)

abbrev attached : List ℕ
attached = line_of (codes "{\"ok\":\"attached\",\"process\":\"a\",\"next\":1}")

abbrev accepted : List ℕ
accepted = line_of (codes "{\"ok\":\"accepted\",\"txn\":1,\"until\":61000}")

abbrev lamp_lit : List ℕ
lamp_lit = line_of (codes "write hall lamp 1 ok")

abbrev stopped : List ℕ
stopped = line_of (codes "{\"error\":\"stopped\"}")

-- The steps are those of the driver that is asked and of its report, the attach, the submit, and the driver's again. A line whose
-- step is not made is told so, and so is each later one; a want that is not handed out, and a report that is not made, are told
-- by nothing of their own.
stopped_at_each_step : map (λ steps. (stopped_after steps).text) (0 ∷ 1 ∷ 2 ∷ 3 ∷ 4 ∷ 5 ∷ 6 ∷ [])
    ≡ (stopped ++ stopped) ∷
    (lamp_set ++ stopped ++ stopped) ∷
    (lamp_set ++ stopped ++ stopped) ∷
    (lamp_set ++ attached ++ stopped) ∷
    (lamp_set ++ attached ++ accepted) ∷
    (lamp_set ++ attached ++ accepted ++ lamp_lit) ∷
    (lamp_set ++ attached ++ accepted ++ lamp_lit) ∷ []
unfolding script drain step parsed digits serde_json_on_literals is_utf8 chars
stopped_at_each_step = refl

-- after a stop a line that asks nothing is told so too, a blank one is passed over, and one that is too long is told that
abbrev a_stopped_script : Run
a_stopped_script = record (stopped_after 0) { text = [] }

later_lines : (line_read lamp_alone a_stopped_script (codes "[]")).text ≡ stopped
unfolding script drain step parsed digits serde_json_on_literals is_utf8 chars
later_lines = refl

blank_line : (line_read lamp_alone a_stopped_script (32 ∷ [])).text ≡ []
unfolding script drain step parsed digits serde_json_on_literals is_utf8 chars
blank_line = refl

too_long_after_a_stop : (line_read lamp_alone a_stopped_script (replicate 65536 32)).text ≡ line_of (codes "{\"error\":\"too-long\"}")
unfolding script drain step parsed digits serde_json_on_literals is_utf8 chars
too_long_after_a_stop = refl
