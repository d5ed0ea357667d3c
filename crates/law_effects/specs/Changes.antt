-- Source: own.
-- Whether a command changes what outlasts a stop, as one knows who does it: from its answer, and from a few numbers.
use Rattle.std.specs.Prelude.{ℕ, ◌+◌, ◌==◌, nat_lt, ℤ, unsigned_abs, Bool, true, false, not, ◌&&◌, ◌||◌, List, Option, Some, None, is_none, slice_get}
use Rattle.std.specs.Option.{option_map_or}
use Rattle.std.specs.List.{list_any}
use Rattle.boss_model.specs.declared.answer.Refusal.{Refusal}
use Rattle.boss_model.specs.declared.command.Command.{Command}
use Rattle.boss_model.specs.declared.command.Command.TheVariants as command
use Rattle.boss_model.specs.declared.command.Policy.{Policy}
use Rattle.boss_model.specs.declared.command.Policy.TheVariants.{Abort, Keep}
use Rattle.boss_model.specs.declared.event.Act.{Act}
use Rattle.boss_model.specs.declared.event.Act.TheVariants as act
use Rattle.boss_model.specs.declared.state.Actuator.{Actuator}
use Rattle.boss_model.specs.declared.state.Lease.{Lease}
use Rattle.boss_model.specs.Devices.{proxy_of, is_current}
use Rattle.boss_model.specs.Ends.{cancel_refused, is_owned_by}
use Rattle.boss_model.specs.Limits.{last_number}
use Rattle.boss_model.specs.Processes.{process_of, process_named, attach_refused}
use Rattle.boss_model.specs.Renew.{is_meant, renew_refused}
use Rattle.boss_model.specs.Replies.{reply_of}
use Rattle.boss_model.specs.State.{Process, Persistent, State}
use Rattle.boss_model.specs.Submit.{submit_refused}
use Rattle.boss_model.specs.Target.{in_force}

-- the request has no number of its process, or one greater than the one that is kept
abbrev pub is_new : ℕ → ℕ → Persistent → Bool
is_new owner seq d = (seq == 0) || option_map_or (λ reply. nat_lt reply.seq seq) (reply_of d.processes owner) true

-- a request is made where its number does not decide, and where it is not refused
abbrev pub is_made : ℕ → ℕ → Persistent → Option Refusal → Bool
is_made owner seq d why = is_new owner seq d && is_none why

-- a lease that is meant ends before `until`
abbrev pub lengthens : ℕ → List ℕ → ℕ → List Lease → Bool
lengthens txn points until leases = list_any (λ lease. is_meant txn points lease && nat_lt lease.until until) leases

-- A renewal keeps its reply where it has a number, or moves `now`, or makes a lease longer; else it only answers.
abbrev pub renewal_changes : ℕ → ℕ → ℤ → List ℕ → ℕ → Persistent → Bool
renewal_changes n txn length points seq d = nat_lt 0 seq || (not (d.now == n) || lengthens txn points (n + unsigned_abs length) d.leases)

-- the process may be sent a notice still
abbrev pub may_be_told : List Process → ℕ → Bool
may_be_told processes owner = option_map_or (λ process. not (process.count == last_number)) (slice_get processes owner) false

-- the lease in force ends; or its owner is told, or `now` moves
abbrev pub fault_changes : Policy → ℕ → Lease → Persistent → Bool
fault_changes Abort n lease d = true
fault_changes Keep n lease d = not (d.now == n) || may_be_told d.processes lease.owner

-- a device fails under a lease in force, or under none
abbrev pub failure_changes : ℕ → Option Lease → Persistent → Bool
failure_changes n None d = false
failure_changes n (Some lease) d = fault_changes lease.policy n lease d

-- by the process that the session holds
abbrev pub if_held : Option ℕ → (ℕ → Bool) → Bool
if_held None test = false
if_held (Some owner) test = test owner

-- whether a command at moment n changes what outlasts a stop, in a state up to whose moment time has passed
abbrev pub changes : List Actuator → ℕ → ℕ → Command → State → Bool
changes plant session n (command.Attach name) s =
    is_none (attach_refused session name s.attached s.persistent) && is_none (process_named s.persistent.processes name)
changes plant session n (command.Submit writes policy seq) s =
    if_held (process_of s.attached session) (λ owner. is_made owner seq s.persistent (submit_refused plant writes s.persistent))
changes plant session n (command.Renew txn length points seq) s =
    if_held (process_of s.attached session) (λ owner. is_made owner seq s.persistent (renew_refused owner txn length points n s.persistent)
    && renewal_changes n txn length points seq s.persistent)
changes plant session n (command.Cancel txn seq) s =
    if_held (process_of s.attached session) (λ owner. is_made owner seq s.persistent (cancel_refused owner txn s.persistent))
changes plant session n command.Gone s =
    if_held (process_of s.attached session) (λ owner. list_any (is_owned_by owner) s.persistent.leases)
changes plant session n (command.Report point version ok) s =
    is_current point version s && (not ok && (not (proxy_of s.proxies point).failed
    && failure_changes n (in_force s.persistent.leases point) s.persistent))
changes plant session n c s = false

-- ---- events

-- whether an act at moment n that is not refused changes a persistent part to which time has passed
abbrev pub makes : ℕ → Act → Persistent → Bool
makes n (act.Enrol name) d = is_none (process_named d.processes name)
makes n (act.Submit owner policy writes seq) d = true
makes n (act.Renew owner txn length points seq) d = renewal_changes n txn length points seq d
makes n (act.Cancel owner txn seq) d = true
makes n (act.Gone owner) d = list_any (is_owned_by owner) d.leases
makes n act.Tick d = false
makes n (act.Fault point) d = failure_changes n (in_force d.leases point) d
