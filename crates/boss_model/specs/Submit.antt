-- Source: ASHRAE 135, clause 19.2 (16 priorities; 6 kept for minimum on and off times; a write replaces what its
-- entry held); BOSS (Dawson-Haggerty et al., NSDI 2013), transaction manager (transactions of writes with priority,
-- lease and reversion, all or none); limits and the order of refusals own.
use Rattle.std.specs.Prelude.{ℕ, ◌+◌, ℤ, pos, int_le, unsigned_abs, ◌==◌, nat_le, Bool, not, ◌&&◌, if◌then◌else◌, List, [], ◌∷◌, ◌++◌, length, map, filter, position, Option, Some, None}
use Rattle.std.specs.Option.{option_map, option_map_or}
use Rattle.std.specs.List.{list_any, list_all}
use Rattle.std.specs.Ordering.{int_eq}
use Rattle.boss_model.specs.declared.answer.Answer.TheVariants as answer
use Rattle.boss_model.specs.declared.answer.Refusal.{Refusal}
use Rattle.boss_model.specs.declared.answer.Refusal.TheVariants as refusal
use Rattle.boss_model.specs.declared.command.Policy.{Policy}
use Rattle.boss_model.specs.declared.command.Setting.{Setting}
use Rattle.boss_model.specs.declared.command.Step.{Step}
use Rattle.boss_model.specs.declared.notice.Cause.TheVariants as cause
use Rattle.boss_model.specs.declared.notice.What.TheVariants as what
use Rattle.boss_model.specs.Catalogue.{Actuator, fits_at}
use Rattle.boss_model.specs.Groups.{conclude}
use Rattle.boss_model.specs.Happenings.{Happening}
use Rattle.boss_model.specs.Limits.{longest_lease, longest_hold, most_steps, last_number}
use Rattle.boss_model.specs.Lists.{member, first_some}
use Rattle.boss_model.specs.Order.{in_order, least}
use Rattle.boss_model.specs.Records.{End, Part, Transaction}
use Rattle.boss_model.specs.State.{Lease, Pending, lease_slot, Persistent}
use Rattle.boss_model.specs.Time.{record_after}
use Rattle.boss_model.specs.Outcomes.{Outcome, unless}

-- ---- what is refused

abbrev pub is_within : ℤ → ℤ → ℤ → Bool
is_within low high z = int_le low z && int_le z high

-- a level of the priority array that a control process may write at: not 6, which is for minimum on and off times
abbrev pub is_level : ℤ → Bool
is_level priority = is_within (pos 1) (pos 16) priority && not (int_eq priority (pos 6))

abbrev pub is_length : ℤ → Bool
is_length length = is_within (pos 1) (pos longest_lease) length

-- a step that a point takes
abbrev pub is_step : List Actuator → ℕ → Step → Bool
is_step plant point step = is_within (pos 1) (pos longest_hold) step.hold && fits_at plant point step.value

abbrev pub is_reversion : List Actuator → ℕ → List Step → Bool
is_reversion plant point steps = nat_le (length steps) most_steps && list_all (is_step plant point) steps

-- the first place whose point stands at an earlier one
abbrev pub repeated : List ℕ → ℕ → List Setting → Option ℕ
repeated seen place [] = None
repeated seen place (write ∷ writes) =
    if member write.point seen then Some place else repeated (write.point ∷ seen) (place + 1) writes

-- in this order; of several writes the first
abbrev pub submit_refused : List Actuator → List Setting → Persistent → Option Refusal
submit_refused plant writes d = first_some (
    option_map refusal.SamePoint (repeated [] 0 writes) ∷
    option_map refusal.BadPriority (position (λ write. not (is_level write.priority)) writes) ∷
    option_map refusal.OutOfRange (position (λ write. not (fits_at plant write.point write.value)) writes) ∷
    option_map refusal.BadLease (position (λ write. not (is_length write.lease)) writes) ∷
    option_map refusal.BadReversion (position (λ write. not (is_reversion plant write.point write.revert)) writes) ∷
    (if d.next == last_number then Some refusal.Spent else None) ∷ [])

-- ---- what is done. (In a write that is not refused no number is negative.)

abbrev pub lease_of : ℕ → Policy → ℕ → ℕ → Setting → Lease
lease_of owner policy txn n write = record {
  txn = txn;
  owner = owner;
  point = write.point;
  priority = unsigned_abs write.priority;
  value = write.value;
  until = n + unsigned_abs write.lease;
  revert = write.revert;
  policy = policy;
}

abbrev pub granted : ℕ → Policy → ℕ → ℕ → List Setting → List Lease
granted owner policy txn n writes = map (lease_of owner policy txn n) writes

abbrev pub part_of : Setting → Part
part_of write = record { point = write.point; priority = unsigned_abs write.priority; end = None }

abbrev pub begun : ℕ → Policy → ℕ → List Setting → Transaction
begun owner policy txn writes = record { txn = txn; owner = owner; policy = policy; parts = map part_of writes }

-- one of the new leases takes the slot
abbrev pub is_taken : List Lease → ℕ → ℕ → Bool
is_taken new point priority = list_any (λ lease. (lease.point == point) && (lease.priority == priority)) new

-- what is told of a lease, and of a reversion, whose slot the new transaction takes
abbrev pub superseded : ℕ → ℕ → Lease → Happening
superseded by n lease = record { at = n; txn = lease.txn; owner = lease.owner; told = Some (what.Ended lease.point (cause.Superseded by)) }

abbrev pub cut : ℕ → ℕ → Pending → Happening
cut by n reversion = record { at = n; txn = reversion.txn; owner = reversion.owner; told = Some (what.Cut reversion.point by) }

abbrev pub superseded_end : List Lease → ℕ → ℕ → Lease → Option End
superseded_end new by n lease =
    if is_taken new lease.point lease.priority then Some (record { cause = cause.Superseded by; at = n }) else None

-- the new leases take their slots. What stood there goes out, without a reversion.
abbrev pub submitted : ℕ → Policy → List Setting → ℕ → Persistent → Persistent
submitted owner policy writes n d =
    let new = granted owner policy d.next n writes in
    let gone = λ (lease : Lease). is_taken new lease.point lease.priority in
    let broken = λ (reversion : Pending). is_taken new reversion.point reversion.priority in
    conclude n (map (superseded d.next n) (filter gone d.leases) ++ map (cut d.next n) (filter broken d.pending)) d (record d {
      next = d.next + 1;
      leases = in_order lease_slot (filter (λ lease. not (gone lease)) d.leases ++ new);
      pending = filter (λ reversion. not (broken reversion)) d.pending;
      txns = map (record_after (superseded_end new d.next n) d.leases) d.txns ++ begun owner policy d.next writes ∷ [];
    })

-- the first moment at which one of these leases ends
abbrev pub first_until : List Lease → ℕ
first_until leases = option_map_or (λ lease. lease.until) (least (λ lease. lease.until) leases) 0

abbrev pub submit : List Actuator → ℕ → Policy → List Setting → ℕ → Persistent → Outcome
submit plant owner policy writes n d = unless (submit_refused plant writes d)
    (answer.Accepted d.next (first_until (granted owner policy d.next n writes)))
    (submitted owner policy writes n d)
