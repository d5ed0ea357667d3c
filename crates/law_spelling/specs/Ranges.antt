-- Source: own; levels: ASHRAE 135, clause 19.2.
-- The ranges of the numbers that outlast a stop, in events and in persistent parts.
use Rattle.std.specs.Prelude.{◌≡◌, ℕ, ◌+◌, ◌-◌, ◌*◌, ◌^◌, ◌<◌, ◌≤◌, ℤ, pos, negsuc, true, List, length, Option, Some, None}
use Rattle.std.specs.List.{AllByRecursion}
use Rattle.boss_model.specs.declared.command.Setting.{Setting}
use Rattle.boss_model.specs.declared.command.Step.{Step}
use Rattle.boss_model.specs.declared.event.Act.{Act}
use Rattle.boss_model.specs.declared.event.Act.TheVariants as act
use Rattle.boss_model.specs.declared.event.Event.{Event}
use Rattle.boss_model.specs.declared.notice.Notice.{Notice}
use Rattle.boss_model.specs.declared.notice.What.{What}
use Rattle.boss_model.specs.declared.notice.What.TheVariants as what
use Rattle.boss_model.specs.declared.state.Lease.{Lease}
use Rattle.boss_model.specs.declared.state.Pending.{Pending}
use Rattle.boss_model.specs.Limits.{most_points, most_writes, longest_lease, longest_hold, most_steps, done_kept, most_processes, notices_kept, last_moment, last_number}
use Rattle.boss_model.specs.Names.{is_name}
use Rattle.boss_model.specs.Records.{End, Part, Transaction}
use Rattle.boss_model.specs.Sound.{NumberedFrom, IsWord, IsCause, IsReply}
use Rattle.boss_model.specs.State.{Process, Persistent}

-- ---- numbers (those of transactions and of moments are words of 64 bits)

abbrev pub IsOwner : ℕ → Type 0
IsOwner n = n < 2 ^ 16

abbrev pub IsPoint : ℕ → Type 0
IsPoint n = n < 2 ^ 32

abbrev pub IsLevel : ℕ → Type 0
IsLevel n = (1 ≤ n) × (n ≤ 16)

-- a whole number of 64 bits in two's complement
abbrev pub IsSigned : ℤ → Type 0
IsSigned (pos n) = n < 2 ^ 63
IsSigned (negsuc n) = n < 2 ^ 63

-- a whole number from the one up to and with the other
abbrev pub IsBetween : ℕ → ℕ → ℤ → Type 0
IsBetween low high (pos n) = (low ≤ n) × (n ≤ high)
IsBetween low high (negsuc n) = ⊥

-- ---- reversions

pub record IsStep (step : Step) : Type 0 where
  pub value : IsSigned step.value
  pub hold : IsBetween 1 longest_hold step.hold

pub record AreSteps (steps : List Step) : Type 0 where
  pub few : length steps ≤ most_steps
  pub each : AllByRecursion IsStep steps

-- ---- events

pub record IsWritten (write : Setting) : Type 0 where
  pub point : IsPoint write.point
  pub value : IsSigned write.value
  pub priority : IsBetween 1 16 write.priority
  pub lease : IsBetween 1 longest_lease write.lease
  pub revert : AreSteps write.revert

abbrev pub IsAct : Act → Type 0
IsAct (act.Enrol name) = is_name name ≡ true
IsAct (act.Submit owner policy writes seq) =
    IsOwner owner × (1 ≤ length writes) × (length writes ≤ most_writes) × AllByRecursion IsWritten writes × (seq < last_number)
IsAct (act.Renew owner txn longer points seq) =
    IsOwner owner × IsWord txn × IsBetween 1 longest_lease longer × (length points ≤ most_writes) × AllByRecursion IsPoint points × (seq < last_number)
IsAct (act.Cancel owner txn seq) = IsOwner owner × IsWord txn × (seq < last_number)
IsAct (act.Gone owner) = IsOwner owner
IsAct act.Tick = Unit {0}
IsAct (act.Fault point) = IsPoint point

pub record IsSpelled (event : Event) : Type 0 where
  pub moment : event.moment ≤ last_moment
  pub act : IsAct event.act

-- ---- leases and reversions under way

pub record IsStoredLease (lease : Lease) : Type 0 where
  pub txn : IsWord lease.txn
  pub owner : IsOwner lease.owner
  pub point : IsPoint lease.point
  pub priority : IsLevel lease.priority
  pub value : IsSigned lease.value
  pub until : IsWord lease.until
  pub revert : AreSteps lease.revert

pub record IsStoredPending (reversion : Pending) : Type 0 where
  pub txn : IsWord reversion.txn
  pub owner : IsOwner reversion.owner
  pub point : IsPoint reversion.point
  pub priority : IsLevel reversion.priority
  pub steps : AreSteps reversion.steps
  pub start : IsWord reversion.start

-- ---- records of transactions

abbrev pub IsStoredEnd : Option End → Type 0
IsStoredEnd None = Unit {0}
IsStoredEnd (Some end) = IsCause end.cause × IsWord end.at

pub record IsStoredPart (part : Part) : Type 0 where
  pub point : IsPoint part.point
  pub priority : part.priority < 256
  pub end : IsStoredEnd part.end

pub record IsStoredTransaction (transaction : Transaction) : Type 0 where
  pub txn : IsWord transaction.txn
  pub owner : IsOwner transaction.owner
  pub some_part : 1 ≤ length transaction.parts
  pub few_parts : length transaction.parts ≤ most_writes
  pub parts : AllByRecursion IsStoredPart transaction.parts

-- ---- processes

abbrev pub IsStoredWhat : What → Type 0
IsStoredWhat (what.Fault point) = IsPoint point
IsStoredWhat (what.Ended point why) = IsPoint point × IsCause why
IsStoredWhat (what.Reverted point) = IsPoint point
IsStoredWhat (what.Cut point by) = IsPoint point × IsWord by
IsStoredWhat what.Done = Unit {0}

pub record IsStoredNotice (notice : Notice) : Type 0 where
  pub at : IsWord notice.at
  pub txn : IsWord notice.txn
  pub told : IsStoredWhat notice.what

-- the notices are numbered one by one, up to the count
pub record IsStoredProcess (process : Process) : Type 0 where
  pub name : is_name process.name ≡ true
  pub count : process.count ≤ last_number
  pub few : length process.kept ≤ notices_kept
  pub sent : length process.kept ≤ process.count
  pub numbers : NumberedFrom (process.count + 1 - length process.kept) process.kept
  pub notices : AllByRecursion IsStoredNotice process.kept
  pub reply : IsReply process.reply

-- ---- the whole. A point has sixteen slots, and each slot at most one lease or one reversion.

abbrev pub most_slots : ℕ
most_slots = 16 * most_points

pub record IsStorable (d : Persistent) : Type 0 where
  pub now : d.now ≤ last_moment
  pub next : d.next ≤ last_number
  pub few_slots : length d.pending + length d.leases ≤ most_slots
  pub leases : AllByRecursion IsStoredLease d.leases
  pub pending : AllByRecursion IsStoredPending d.pending
  pub few_txns : length d.txns ≤ most_slots + done_kept
  pub txns : AllByRecursion IsStoredTransaction d.txns
  pub few_done : length d.done ≤ done_kept
  pub done : AllByRecursion IsWord d.done
  pub few_processes : length d.processes ≤ most_processes
  pub processes : AllByRecursion IsStoredProcess d.processes
