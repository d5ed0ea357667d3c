-- Source: own.
use Rattle.std.specs.Prelude.{◌≡◌, ℕ, suc, ◌==◌, Bool, true, false, ◌||◌, List, [], ◌∷◌, ◌++◌, fold, map, filter, Option, Some, None, slice_set, slice_index_or}
use Rattle.std.specs.List.{enumerate_from}
use Rattle.boss_model.specs.declared.event.Event.{Event}
use Rattle.boss_model.specs.declared.state.Actuator.{Actuator}
use Rattle.boss_model.specs.DeviceCall.{DeviceCall}
use Rattle.boss_model.specs.Catalogue.{Catalogue, driver_of}
use Rattle.def_wire.specs.Script.{Run, drain, line_read}
use Rattle.boss_model.specs.State.{State}
use Rattle.def_history.specs.declared.entry.Entry.{Entry}
use Rattle.def_history.specs.declared.entry.Entry.TheVariants as entry
use Rattle.def_history.specs.History as history
use Rattle.boss_scripts.specs.Outside.{Answered, Trace}

-- how far a script is: the machine's state, and whether a step was not made
pub record Under : Type 0 where
  pub state : State
  pub stopped : Bool

-- a script under way of which so many steps are left, and that was neither cut short nor is over
abbrev pub at : Under → List ℕ → List DeviceCall → List Event → List Bool → Option ℕ → Run
at under text calls events results left = record {
  state = under.state;
  text = text;
  calls = calls;
  events = events;
  results = results;
  left = left;
  stopped = under.stopped;
  short = false;
  over = false;
}

-- ---- steps, as a history has them

-- how far a script is behind these entries: the mark is a step that was not made
abbrev pub after : List Actuator → List Entry → Under → Under
after plant entries start = record { state = history.run plant entries start.state; stopped = history.is_broken entries || start.stopped }

abbrev pub one_step_more : Option ℕ → Option ℕ
one_step_more None = None
one_step_more (Some left) = Some (suc left)

-- how many steps are left before these entries, where so many are behind them
abbrev pub left_before : List Entry → Option ℕ → Option ℕ
left_before [] left = left
left_before (entry.Did session command moment answer ∷ entries) left = one_step_more (left_before entries left)
left_before (entry.Broke session commands others ∷ entries) left = left_before entries left

-- no step is left where one was not made
abbrev pub IsLeft : Under → Option ℕ → Type 0
IsLeft under left = under.stopped ≡ true → left ≡ Some 0

-- ---- parts of a script: each takes a script under way as far as the part goes

-- nothing more is carried out
abbrev pub stop : Run → Run
stop run = run

-- the wants of this moment are served
abbrev pub served : Catalogue → ℕ → Run → Run
served catalogue moment run = drain catalogue moment run.results run

-- a line is taken, and all these lines are
abbrev pub line_taken : Catalogue → List ℕ → Run → Run
line_taken catalogue line run = line_read catalogue run line

abbrev pub lines_taken : Catalogue → List (List ℕ) → Run → Run
lines_taken catalogue all run = fold (line_read catalogue) run all

-- From `start`, where the devices answer `results` next, carrying out `part` is telling `told`, making the calls `calls` and the
-- steps of `entries`, and then carrying out `rest` behind them; whatever was told, called and made earlier, and is answered and
-- left later.
abbrev pub Leads : (Run → Run) → (Run → Run) → List Actuator → Under → List Entry → List ℕ → List DeviceCall → List Bool → Type 0
Leads part rest plant start entries told calls results =
    (later : List Bool) (text : List ℕ) (earlier : List DeviceCall) (before : List Event) (left : Option ℕ) → IsLeft (after plant entries start) left →
    part (at start text earlier before (results ++ later) (left_before entries left))
    ≡ rest (at (after plant entries start) (text ++ told) (earlier ++ calls) (before ++ history.events plant entries start.state) later left)

-- the one list begins with the other
abbrev pub IsFrontOf : {A : Type 0} → List A → List A → Type 0
IsFrontOf {A = A} front whole = (rest : List A) × (whole ≡ front ++ rest)

-- the script tells these bytes, and makes these calls and events, and maybe more
abbrev pub Covers : Run → List ℕ → List DeviceCall → List Event → Type 0
Covers run text calls events = IsFrontOf text run.text × IsFrontOf calls run.calls × IsFrontOf events run.events

-- From `start`, where the devices answer `results` next, carrying out `part` tells `told`, makes the calls `calls` and the steps
-- of `entries`, and maybe more behind them; whatever was told, called and made earlier, and is answered and left later.
abbrev pub Begins : (Run → Run) → List Actuator → Under → List Entry → List ℕ → List DeviceCall → List Bool → Type 0
Begins part plant start entries told calls results =
    (later : List Bool) (text : List ℕ) (earlier : List DeviceCall) (before : List Event) (left : Option ℕ) → IsLeft (after plant entries start) left →
    Covers (part (at start text earlier before (results ++ later) (left_before entries left)))
    (text ++ told) (earlier ++ calls) (before ++ history.events plant entries start.state)

-- ---- the calls of the devices: one list for each driver, and the list of driver 0 stands first

-- the list of this driver gains a call
abbrev pub gained : ℕ → DeviceCall → List (List DeviceCall) → List (List DeviceCall)
gained driver call lists = slice_set lists driver (slice_index_or lists driver [] ++ call ∷ [])

-- The list of each driver gains those of these calls that are to points behind this driver. They stay one after another.
abbrev pub dealt : List Actuator → List DeviceCall → List (List DeviceCall) → List (List DeviceCall)
dealt plant calls lists = map (λ device. device.1 ++ filter (λ call. driver_of plant call.point == device.0) calls) (enumerate_from 0 lists)

-- ---- what a part of a script did

-- The part was carried out as far as `rest`: for some answers of the devices it leads there, with these entries, what the sink
-- took and the calls that the devices gained. Of the calls nothing is said where one is missing among those that the devices
-- noted.
pub record Did (plant : List Actuator) (part rest : Run → Run) (start : Under) (entries : List Entry) (old new : Trace) : Type 0 where
  pub results : List Bool
  pub told : List ℕ
  pub calls : List DeviceCall
  pub leads : Leads part rest plant start entries told calls results
  pub text : new.taken ≡ old.taken ++ told
  pub answered : Answered results old.faults new.faults
  pub devices : new.whole → old.whole × (new.calls ≡ dealt plant calls old.calls)

-- The part broke off: for some answers of the devices it begins with these entries, what the sink took and the calls that the
-- devices gained.
pub record Broke (plant : List Actuator) (part : Run → Run) (start : Under) (entries : List Entry) (old new : Trace) : Type 0 where
  pub results : List Bool
  pub told : List ℕ
  pub calls : List DeviceCall
  pub begins : Begins part plant start entries told calls results
  pub text : new.taken ≡ old.taken ++ told
  pub answered : Answered results old.faults new.faults
  pub devices : new.whole → old.whole × (new.calls ≡ dealt plant calls old.calls)
