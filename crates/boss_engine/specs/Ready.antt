-- Source: own.
use Rattle.std.specs.Prelude.{◌≡◌, ℕ, ◌≤◌, ◌<◌, List, [], length, Option, Some, None, vec_capacity}
use Rattle.boss_model.specs.declared.answer.Refusal.TheVariants as refusal
use Rattle.boss_model.specs.declared.command.Command.{Command}
use Rattle.boss_model.specs.declared.command.Command.TheVariants as command
use Rattle.boss_model.specs.declared.command.Policy.{Policy}
use Rattle.boss_model.specs.declared.command.Setting.{Setting}
use Rattle.boss_model.specs.declared.state.Actuator.{Actuator}
use Rattle.boss_model.specs.Processes.{attach_refused, process_named, process_of}
use Rattle.boss_model.specs.State.{Persistent, State}
use Rattle.boss_model.specs.Submit.{begun, granted, submit_refused}
use Rattle.boss_notices.specs.Rings.{no_notices}
use Rattle.boss_persistent.specs.Replying.{decided, decision_answer}
use Rattle.boss_engine.specs.declared.machine.Machine.{Machine}
use Rattle.boss_engine.specs.declared.ready.Ready.{Ready}
use Rattle.boss_engine.specs.declared.ready.Ready.TheVariants as ready

-- ---- which commands may need memory: those that take on what outlasts them or make a list, where they are neither refused nor
-- answered by a reply that is kept

abbrev pub MayTakeOn : Option ℕ → Type 0
MayTakeOn None = Unit {0}
MayTakeOn (Some process) = ⊥

abbrev pub MaySubmit : List Actuator → List Setting → ℕ → Option ℕ → State → Type 0
MaySubmit plant writes seq None s = ⊥
MaySubmit plant writes seq (Some owner) s =
    (decided s.persistent.processes owner seq ≡ None) × (submit_refused plant writes s.persistent ≡ None)

abbrev pub MayList : Option (List ℕ) → Option ℕ → Type 0
MayList (Some name) process = Unit {0}
MayList None (Some process) = Unit {0}
MayList None None = ⊥

abbrev pub MayNeedMemory : List Actuator → ℕ → Command → State → Type 0
MayNeedMemory plant session (command.Attach name) s =
    (attach_refused session name s.attached s.persistent ≡ None) × MayTakeOn (process_named s.persistent.processes name)
MayNeedMemory plant session (command.Submit writes policy seq) s = MaySubmit plant writes seq (process_of s.attached session) s
MayNeedMemory plant session (command.Notices name from most) s = MayList name (process_of s.attached session)
MayNeedMemory plant session other s = ⊥

-- ---- what was made ready is what the command will use at moment n

abbrev pub MustBeThere : Option ℕ → Type 0
MustBeThere None = ⊥
MustBeThere (Some process) = Unit {0}

-- the process of this name is there, or can be taken on
abbrev pub CanTakeOn : List ℕ → Ready → Persistent → Type 0
CanTakeOn name (ready.Process ring) d = (process_named d.processes name ≡ None) × (ring ≡ no_notices)
CanTakeOn name ready.Nothing d = MustBeThere (process_named d.processes name)
CanTakeOn name other d = ⊥

abbrev pub IsReadyToAttach : ℕ → List ℕ → Ready → State → Type 0
IsReadyToAttach session name (ready.Refused why) s = attach_refused session name s.attached s.persistent ≡ Some why
IsReadyToAttach session name (ready.Process ring) s =
    (attach_refused session name s.attached s.persistent ≡ None) × (process_named s.persistent.processes name ≡ None) × (ring ≡ no_notices)
IsReadyToAttach session name ready.Nothing s =
    (attach_refused session name s.attached s.persistent ≡ None) × MustBeThere (process_named s.persistent.processes name)
IsReadyToAttach session name other s = ⊥

abbrev pub IsReadyToSubmit : List Actuator → Option ℕ → List Setting → Policy → ℕ → ℕ → Ready → State → Type 0
IsReadyToSubmit plant None writes policy seq n (ready.Refused why) s = why ≡ refusal.NotAttached
IsReadyToSubmit plant (Some owner) writes policy seq n (ready.Decided given) s = decided s.persistent.processes owner seq ≡ Some (decision_answer given)
IsReadyToSubmit plant (Some owner) writes policy seq n (ready.Refused why) s =
    (decided s.persistent.processes owner seq ≡ None) × (submit_refused plant writes s.persistent ≡ Some why)
IsReadyToSubmit plant (Some owner) writes policy seq n (ready.Submit transaction leases) s =
    (decided s.persistent.processes owner seq ≡ None)
    × (submit_refused plant writes s.persistent ≡ None)
    × (transaction.transaction ≡ begun owner policy s.persistent.next writes)
    × (transaction.reverting ≡ [])
    × (leases.items ≡ granted owner policy s.persistent.next n writes)
IsReadyToSubmit plant owner writes policy seq n given s = ⊥

abbrev pub IsReadyToList : Option (List ℕ) → Option ℕ → ℕ → Ready → Type 0
IsReadyToList None None most (ready.Refused why) = why ≡ refusal.NotAttached
IsReadyToList None (Some process) most (ready.List notices) = most ≤ vec_capacity notices
IsReadyToList (Some name) process most (ready.List notices) = most ≤ vec_capacity notices
IsReadyToList name process most given = ⊥

abbrev pub IsReadyFor : List Actuator → ℕ → Command → ℕ → Ready → State → Type 0
IsReadyFor plant session (command.Attach name) n given s = IsReadyToAttach session name given s
IsReadyFor plant session (command.Submit writes policy seq) n given s =
    IsReadyToSubmit plant (process_of s.attached session) writes policy seq n given s
IsReadyFor plant session (command.Notices name from most) n given s = IsReadyToList name (process_of s.attached session) most given
IsReadyFor plant session other n given s = Unit {0}

-- there is room for the record of a new transaction
abbrev pub HasRoomFor : Ready → Machine → Type 0
HasRoomFor (ready.Submit transaction leases) m = length m.lasting.stages.kept < m.lasting.stages.room
HasRoomFor other m = Unit {0}
