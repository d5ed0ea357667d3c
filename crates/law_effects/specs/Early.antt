-- Source: own.
-- Whether an act is refused, asked of a persistent part before time passes, so that a refused act leaves it as it is.
use Rattle.std.specs.Prelude.{ℕ, ◌==◌, nat_lt, Bool, true, false, not, ◌&&◌, ◌||◌, List, find, Option, Some, None, is_some, is_none}
use Rattle.std.specs.Option.{option_map_or}
use Rattle.std.specs.List.{list_any, list_all}
use Rattle.boss_model.specs.declared.event.Act.{Act}
use Rattle.boss_model.specs.declared.event.Act.TheVariants as act
use Rattle.boss_model.specs.declared.state.Actuator.{Actuator}
use Rattle.boss_model.specs.declared.state.Lease.{Lease}
use Rattle.boss_model.specs.Acts.{is_known_process, is_known_point}
use Rattle.boss_model.specs.Processes.{process_named, is_full}
use Rattle.boss_model.specs.Records.{Part, Transaction}
use Rattle.boss_model.specs.Renew.{transaction_of, wrote, named_parts}
use Rattle.boss_model.specs.State.{Persistent}
use Rattle.boss_model.specs.Submit.{is_length, submit_refused}
use Rattle.law_effects.specs.Changes.{is_new}

-- the lease in a slot
abbrev pub slot_lease : List Lease → ℕ → ℕ → Option Lease
slot_lease leases point priority = find (λ lease. (lease.point == point) && (lease.priority == priority)) leases

-- the part has no end, and gets none up to n
abbrev pub open_still : ℕ → List Lease → Part → Bool
open_still n leases part = is_none part.end && option_map_or (λ lease. nat_lt n lease.until) (slot_lease leases part.point part.priority) false

-- the transaction is kept, it is the process's own, and it passes the test
abbrev pub if_owned : ℕ → (Transaction → Bool) → Option Transaction → Bool
if_owned owner test None = false
if_owned owner test (Some transaction) = (transaction.owner == owner) && test transaction

-- all points that are named are its own, and no part that is meant ends up to n
abbrev pub is_renewable : ℕ → List Lease → List ℕ → Transaction → Bool
is_renewable n leases points transaction =
    list_all (wrote transaction.parts) points && list_all (open_still n leases) (named_parts points transaction.parts)

abbrev pub is_cancellable : ℕ → List Lease → Transaction → Bool
is_cancellable n leases transaction = list_any (open_still n leases) transaction.parts

-- whether an act is not refused at moment n, by the persistent part before time passes up to n
abbrev pub early : List Actuator → ℕ → Act → Persistent → Bool
early plant n (act.Enrol name) d = is_some (process_named d.processes name) || not (is_full d.processes)
early plant n (act.Submit owner policy writes seq) d = list_all (λ write. is_known_point plant write.point) writes
    && (is_known_process d owner && (is_new owner seq d && is_none (submit_refused plant writes d)))
early plant n (act.Renew owner txn length points seq) d = list_all (is_known_point plant) points
    && (is_known_process d owner && (is_new owner seq d && (is_length length && if_owned owner (is_renewable n d.leases points) (transaction_of d.txns txn))))
early plant n (act.Cancel owner txn seq) d =
    is_known_process d owner && (is_new owner seq d && if_owned owner (is_cancellable n d.leases) (transaction_of d.txns txn))
early plant n (act.Gone owner) d = is_known_process d owner
early plant n act.Tick d = true
early plant n (act.Fault point) d = is_known_point plant point && list_any (λ lease. nat_lt n lease.until && (lease.point == point)) d.leases
