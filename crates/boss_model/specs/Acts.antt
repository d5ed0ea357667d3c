-- Source: own.
use Rattle.std.specs.Prelude.{ℕ, nat_lt, Bool, ◌&&◌, if◌then◌else◌, List, length, Option, Some, None, is_some}
use Rattle.std.specs.List.{list_all}
use Rattle.boss_model.specs.declared.event.Act.{Act}
use Rattle.boss_model.specs.declared.event.Act.TheVariants as act
use Rattle.boss_model.specs.declared.event.Event.{Event}
use Rattle.boss_model.specs.Catalogue.{Actuator}
use Rattle.boss_model.specs.Ends.{cancel, gone, faulted}
use Rattle.boss_model.specs.Outcomes.{Outcome, refused, did}
use Rattle.boss_model.specs.Processes.{process_named, is_full, enrolled}
use Rattle.boss_model.specs.Renew.{renew}
use Rattle.boss_model.specs.Replies.{is_repeat, once}
use Rattle.boss_model.specs.Same.{same_persistent}
use Rattle.boss_model.specs.State.{Persistent}
use Rattle.boss_model.specs.Submit.{submit}
use Rattle.boss_model.specs.Target.{in_force}
use Rattle.boss_model.specs.Time.{moment_of, tick_to}

-- ---- events are done again

-- the act speaks of processes and points that there are
abbrev pub is_known_process : Persistent → ℕ → Bool
is_known_process d owner = nat_lt owner (length d.processes)

abbrev pub is_known_point : List Actuator → ℕ → Bool
is_known_point plant point = nat_lt point (length plant)

abbrev pub if_did : Outcome → Option Persistent
if_did (refused why) = None
if_did (did given after) = Some after

abbrev pub by_process : Persistent → ℕ → Outcome → Option Persistent
by_process d owner outcome = if is_known_process d owner then if_did outcome else None

-- an act of a process that may be numbered: none where its answer is kept already
abbrev pub by_number : ℕ → ℕ → Persistent → Outcome → Option Persistent
by_number owner seq d outcome = if is_repeat owner seq d then None else by_process d owner (once owner seq d outcome)

-- a new process is taken on where there is room
abbrev pub enrol_if : Option ℕ → List ℕ → ℕ → Persistent → Option Persistent
enrol_if None name n d = if is_full d.processes then None else Some (enrolled name n d)
enrol_if (Some process) name n d = Some d

-- an act at moment n on a persistent part to which time has passed; none where it is refused
abbrev pub act_on : List Actuator → ℕ → Act → Persistent → Option Persistent
act_on plant n (act.Enrol name) d = enrol_if (process_named d.processes name) name n d
act_on plant n (act.Submit owner policy writes seq) d =
    if list_all (λ write. is_known_point plant write.point) writes then by_number owner seq d (submit plant owner policy writes n d) else None
act_on plant n (act.Renew owner txn length points seq) d =
    if list_all (is_known_point plant) points then by_number owner seq d (renew owner txn length points n d) else None
act_on plant n (act.Cancel owner txn seq) d = by_number owner seq d (cancel owner txn n d)
act_on plant n (act.Gone owner) d = by_process d owner (gone owner n d)
act_on plant n act.Tick d = Some d
act_on plant n (act.Fault point) d =
    if is_known_point plant point && is_some (in_force d.leases point) then Some (faulted (in_force d.leases point) n d) else None

abbrev pub effective : Persistent → Option Persistent → Option Persistent
effective before None = None
effective before (Some after) = if same_persistent before after then None else Some after

-- time and the act; none where the event is not effective: its act is refused or was made before, or nothing changes
abbrev pub replay : List Actuator → Event → Persistent → Option Persistent
replay plant event d =
    let n = moment_of d event.moment in effective d (act_on plant n event.act (tick_to n d))

abbrev pub replay_next : List Actuator → Option Persistent → Event → Option Persistent
replay_next plant None event = None
replay_next plant (Some d) event = replay plant event d
