-- Source: ASHRAE 135, clause 19.2 (Present_Value, Priority_Array); BOSS (Dawson-Haggerty et al., NSDI 2013),
-- transaction manager (states of a transaction); notices own.
use Rattle.std.specs.Prelude.{ℕ, ◌+◌, ◌==◌, min, max, nat_lt, nat_le, ◌&&◌, if◌then◌else◌, List, [], length, map, filter, find, Option, Some, None, slice_get}
use Rattle.std.specs.Option.{option_map_or}
use Rattle.std.specs.List.{range_with_len}
use Rattle.boss_model.specs.declared.answer.Answer.{Answer}
use Rattle.boss_model.specs.declared.answer.Answer.TheVariants as answer
use Rattle.boss_model.specs.declared.answer.Refusal.TheVariants as refusal
use Rattle.boss_model.specs.declared.answer.Slot.{Slot}
use Rattle.boss_model.specs.declared.answer.Slot.TheVariants as slot
use Rattle.boss_model.specs.declared.notice.Notice.{Notice}
use Rattle.boss_model.specs.declared.notice.Stage.{Stage}
use Rattle.boss_model.specs.declared.notice.Stage.TheVariants as stage
use Rattle.boss_model.specs.Catalogue.{Actuator}
use Rattle.boss_model.specs.Processes.{process_named, name_of}
use Rattle.boss_model.specs.Records.{Transaction}
use Rattle.boss_model.specs.Renew.{transaction_of}
use Rattle.boss_model.specs.Reversions.{value_at, end_of}
use Rattle.boss_model.specs.State.{Lease, Pending, Process, Persistent, Proxy}
use Rattle.boss_model.specs.Target.{target, basis_at}

-- ---- the value of a point

abbrev pub reading : List Actuator → ℕ → Proxy → Persistent → Answer
reading plant point proxy d = answer.Reading point (target plant d point) (basis_at d point) proxy.mark proxy.differed proxy.took

-- ---- the slots of a point

abbrev pub playing_slot : ℕ → Option Pending → Slot
playing_slot now None = slot.Empty
playing_slot now (Some reversion) = option_map_or (λ value. slot.Pending value reversion.txn (end_of reversion)) (value_at reversion now) slot.Empty

abbrev pub slot_of : ℕ → Option Lease → Option Pending → Slot
slot_of now (Some lease) reversion = slot.Lease lease.value lease.txn lease.until
slot_of now None reversion = playing_slot now reversion

abbrev pub slot_at : Persistent → ℕ → ℕ → Slot
slot_at d point priority = slot_of d.now
    (find (λ lease. (lease.point == point) && (lease.priority == priority)) d.leases)
    (find (λ reversion. (reversion.point == point) && (reversion.priority == priority)) d.pending)

abbrev pub array : ℕ → Persistent → Answer
array point d = answer.Array point (record { at = map (slot_at d point) (range_with_len 1 16) })

-- ---- the stage of a transaction

abbrev pub stage_of : ℕ → ℕ → Stage
stage_of live pending = if nat_lt 0 live then stage.Run else (if nat_lt 0 pending then stage.Revert else stage.Done)

abbrev pub live_of : ℕ → Persistent → ℕ
live_of txn d = length (filter (λ lease. lease.txn == txn) d.leases)

abbrev pub pending_of : ℕ → Persistent → ℕ
pending_of txn d = length (filter (λ reversion. reversion.txn == txn) d.pending)

abbrev pub status_of : Option Transaction → Persistent → Answer
status_of None d = answer.Refused refusal.UnknownTxn
status_of (Some transaction) d = answer.Status transaction.txn (name_of d.processes transaction.owner)
    (stage_of (live_of transaction.txn d) (pending_of transaction.txn d)) (live_of transaction.txn d) (pending_of transaction.txn d)

abbrev pub status : ℕ → Persistent → Answer
status txn d = status_of (transaction_of d.txns txn) d

-- ---- the notices of a process

-- the least number that is kept, or the next one where none is
abbrev pub first_kept : Process → ℕ
first_kept process = option_map_or (λ notice. notice.number) (slice_get process.kept 0) (process.count + 1)

-- where an answer to a question from a number on starts
abbrev pub start : Process → ℕ → ℕ
start process from = min (max from (first_kept process)) (process.count + 1)

abbrev pub numbered_from : ℕ → ℕ → List Notice → List Notice
numbered_from start most notices = filter (λ notice. nat_le start notice.number && nat_lt notice.number (start + most)) notices

-- a process that is not known has had no notice
abbrev pub notices_of : Option Process → ℕ → ℕ → Answer
notices_of None from most = answer.Notices 1 1 []
notices_of (Some process) from most =
    let list = numbered_from (start process from) most process.kept in
    answer.Notices (first_kept process) (start process from + length list) list

abbrev pub named : List Process → Option ℕ → Option Process
named processes None = None
named processes (Some process) = slice_get processes process

abbrev pub notices : Option ℕ → ℕ → ℕ → Persistent → Answer
notices process from most d = notices_of (named d.processes process) from most

abbrev pub notices_named : List ℕ → ℕ → ℕ → Persistent → Answer
notices_named name from most d = notices (process_named d.processes name) from most d
