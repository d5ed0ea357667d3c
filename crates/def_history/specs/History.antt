-- Source: own.
-- A history of the machine: what was done, in order, and at its end maybe the mark of calls whose disk failed.
use Rattle.std.specs.Prelude.{◌≡◌, ℕ, ◌≤◌, Bool, true, false, ◌||◌, List, [], ◌∷◌, Option, Some, None}
use Rattle.std.specs.List.{AllByRecursion}
use Rattle.boss_model.specs.declared.command.Command.{Command}
use Rattle.boss_model.specs.declared.event.Event.{Event}
use Rattle.boss_model.specs.declared.state.Actuator.{Actuator}
use Rattle.boss_model.specs.Effects.{event_of, step_effect}
use Rattle.boss_model.specs.Limits.{last_moment}
use Rattle.boss_model.specs.Machine.{step}
use Rattle.boss_model.specs.Sound.{IsAllowed}
use Rattle.boss_model.specs.State.{State}
use Rattle.def_history.specs.declared.entry.Entry.{Entry}
use Rattle.def_history.specs.declared.entry.Tried.{Tried}
use Rattle.def_history.specs.declared.entry.Entry.TheVariants.{Did, Broke}

-- ---- the machine after a history

-- commands of a session, each at its moment
abbrev pub stepped : List Actuator → ℕ → List (Command × ℕ) → State → State
stepped plant session [] s = s
stepped plant session (call ∷ calls) s = stepped plant session calls (step plant session call.0 call.1 s).state

-- those of several callers, one caller's behind another's
abbrev pub all_stepped : List Actuator → List Tried → State → State
all_stepped plant [] s = s
all_stepped plant (one ∷ others) s = all_stepped plant others (stepped plant one.session one.commands s)

-- a mark changes nothing
abbrev pub after_entry : List Actuator → Entry → State → State
after_entry plant (Did session command moment answer) s = (step plant session command moment s).state
after_entry plant (Broke session commands others) s = s

abbrev pub run : List Actuator → List Entry → State → State
run plant [] s = s
run plant (entry ∷ entries) s = run plant entries (after_entry plant entry s)

-- the same where the commands of a mark count too: they may outlast a stop
abbrev pub after_try : List Actuator → Entry → State → State
after_try plant (Did session command moment answer) s = (step plant session command moment s).state
after_try plant (Broke session commands others) s = all_stepped plant others (stepped plant session commands s)

abbrev pub run_tried : List Actuator → List Entry → State → State
run_tried plant [] s = s
run_tried plant (entry ∷ entries) s = run_tried plant entries (after_try plant entry s)

-- ---- the events of a history

abbrev pub if_event : Option Event → List Event → List Event
if_event None events = events
if_event (Some event) events = event ∷ events

abbrev pub events_of_entry : List Actuator → Entry → State → Option Event
events_of_entry plant (Did session command moment answer) s = event_of command (step_effect plant session command moment s)
events_of_entry plant (Broke session commands others) s = None

abbrev pub events : List Actuator → List Entry → State → List Event
events plant [] s = []
events plant (entry ∷ entries) s = if_event (events_of_entry plant entry s) (events plant entries (after_entry plant entry s))

-- ---- legal histories

-- what the machine may be asked, and when
abbrev pub MayCall : List Actuator → Command × ℕ → Type 0
MayCall plant call = IsAllowed plant call.0 × (call.1 ≤ last_moment)

abbrev pub MayTry : List Actuator → Tried → Type 0
MayTry plant one = AllByRecursion (MayCall plant) one.commands

-- each answer is the machine's, and what was under way when the disk failed was allowed
abbrev pub IsEntryAt : List Actuator → State → Entry → Type 0
IsEntryAt plant s (Did session command moment answer) = MayCall plant (command, moment) × (answer ≡ (step plant session command moment s).answer)
IsEntryAt plant s (Broke session commands others) = AllByRecursion (MayCall plant) commands × AllByRecursion (MayTry plant) others

abbrev pub is_mark : Entry → Bool
is_mark (Did session command moment answer) = false
is_mark (Broke session commands others) = true

-- the disk failed in it
abbrev pub is_broken : List Entry → Bool
is_broken [] = false
is_broken (entry ∷ entries) = is_mark entry || is_broken entries

-- nothing comes after a mark
abbrev pub GoesOn : Entry → List Entry → Type 0
GoesOn (Did session command moment answer) entries = Unit {0}
GoesOn (Broke session commands others) entries = entries ≡ []

abbrev pub IsLegal : List Actuator → List Entry → State → Type 0
IsLegal plant [] s = Unit {0}
IsLegal plant (entry ∷ entries) s = IsEntryAt plant s entry × GoesOn entry entries × IsLegal plant entries (after_entry plant entry s)

-- what was done: the entries that are no mark
abbrev pub deeds : List Entry → List Entry
deeds [] = []
deeds (Did session command moment answer ∷ entries) = Did session command moment answer ∷ deeds entries
deeds (Broke session commands others ∷ entries) = deeds entries
