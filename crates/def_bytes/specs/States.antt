-- Source: own.
-- A state as bytes: what outlasts a stop, in one order.
use Rattle.std.specs.Prelude.{ℕ, ◌+◌, ◌-◌, nat_le, ◌==◌, ℤ, Bool, true, ◌&&◌, if◌then◌else◌, List, [], ◌∷◌, length, map, Option, Some, None}
use Rattle.std.specs.Int.{w16, w32, w64}
use Rattle.def_bytes.specs.Fields.{Field, Variants, number, byte, both, only, made_of, counted, tagged}
use Rattle.boss_model.specs.declared.command.Policy.{Policy}
use Rattle.boss_model.specs.declared.command.Step.{Step}
use Rattle.boss_model.specs.declared.kept.Acceptance.{Acceptance}
use Rattle.boss_model.specs.declared.kept.Acceptance.TheVariants.{Accepted, Renewed, Cancelled}
use Rattle.boss_model.specs.declared.kept.KeptReply.{KeptReply}
use Rattle.boss_model.specs.declared.notice.Cause.{Cause}
use Rattle.boss_model.specs.declared.notice.Cause.TheVariants as cause
use Rattle.boss_model.specs.declared.notice.Notice.{Notice}
use Rattle.boss_model.specs.declared.notice.What.{What}
use Rattle.boss_model.specs.declared.notice.What.TheVariants as what
use Rattle.boss_model.specs.declared.state.Lease.{Lease}
use Rattle.boss_model.specs.declared.state.Pending.{Pending}
use Rattle.boss_model.specs.Limits.{notices_kept}
use Rattle.boss_model.specs.Records.{End, Part, Transaction}
use Rattle.boss_model.specs.State.{Process, Persistent}
use Rattle.def_bytes.specs.Events.{kind_at}
use Rattle.def_bytes.specs.Parts.{nothing, signed64, listed, name, policy, steps}

-- ---- causes and notices

abbrev pub cause_tag : Cause → ℕ
cause_tag cause.Expired = 0
cause_tag cause.Cancelled = 1
cause_tag cause.Died = 2
cause_tag cause.Fault = 3
cause_tag (cause.Superseded by) = 4

abbrev pub cause_fits : Cause → Bool
cause_fits (cause.Superseded by) = (number w64).fits by
cause_fits why = true

abbrev pub cause_text : Cause → List ℕ
cause_text (cause.Superseded by) = (number w64).text by
cause_text why = nothing.text tt

abbrev pub cause_at : ℕ → List ℕ → Option (Cause × List ℕ)
cause_at tag bytes =
    if tag == 0 then kind_at (λ x. cause.Expired) nothing bytes else
    (if tag == 1 then kind_at (λ x. cause.Cancelled) nothing bytes else
    (if tag == 2 then kind_at (λ x. cause.Died) nothing bytes else
    (if tag == 3 then kind_at (λ x. cause.Fault) nothing bytes else
    (if tag == 4 then kind_at cause.Superseded (number w64) bytes else None))))

abbrev pub causes : Variants Cause
causes = record { tag = cause_tag; fits = cause_fits; text = cause_text; most = 8; at = cause_at }

-- what a notice tells, behind the numbers by which notices of one moment and transaction are sorted
abbrev pub what_tag : What → ℕ
what_tag (what.Fault point) = 1
what_tag (what.Ended point why) = 2
what_tag (what.Reverted point) = 3
what_tag (what.Cut point by) = 4
what_tag what.Done = 5

abbrev pub ended : Field (ℕ × Cause)
ended = both (number w32) (tagged causes)

abbrev pub cut : Field (ℕ × ℕ)
cut = both (number w32) (number w64)

abbrev pub what_fits : What → Bool
what_fits (what.Fault point) = (number w32).fits point
what_fits (what.Ended point why) = ended.fits (point, why)
what_fits (what.Reverted point) = (number w32).fits point
what_fits (what.Cut point by) = cut.fits (point, by)
what_fits what.Done = true

abbrev pub what_text : What → List ℕ
what_text (what.Fault point) = (number w32).text point
what_text (what.Ended point why) = ended.text (point, why)
what_text (what.Reverted point) = (number w32).text point
what_text (what.Cut point by) = cut.text (point, by)
what_text what.Done = nothing.text tt

abbrev pub what_at : ℕ → List ℕ → Option (What × List ℕ)
what_at tag bytes =
    if tag == 1 then kind_at what.Fault (number w32) bytes else
    (if tag == 2 then kind_at (λ x. what.Ended x.0 x.1) ended bytes else
    (if tag == 3 then kind_at what.Reverted (number w32) bytes else
    (if tag == 4 then kind_at (λ x. what.Cut x.0 x.1) cut bytes else
    (if tag == 5 then kind_at (λ x. what.Done) nothing bytes else None))))

abbrev pub whats : Variants What
whats = record { tag = what_tag; fits = what_fits; text = what_text; most = ended.most; at = what_at }

-- a notice without its number: moment, transaction, what it tells
abbrev pub told : Field (ℕ × (ℕ × What))
told = both (number w64) (both (number w64) (tagged whats))

-- ---- kept replies

abbrev pub acceptance_tag : Acceptance → ℕ
acceptance_tag (Accepted txn until) = 1
acceptance_tag (Renewed txn until) = 2
acceptance_tag (Cancelled txn at) = 3

-- its transaction and its moment
abbrev pub acceptance_numbers : Acceptance → ℕ × ℕ
acceptance_numbers (Accepted txn until) = (txn, until)
acceptance_numbers (Renewed txn until) = (txn, until)
acceptance_numbers (Cancelled txn at) = (txn, at)

abbrev pub reply_tag : Option KeptReply → ℕ
reply_tag None = 0
reply_tag (Some reply) = acceptance_tag reply.acceptance

-- the request's number, the transaction, the moment
abbrev pub reply_numbers : Field (ℕ × (ℕ × ℕ))
reply_numbers = both (number w64) (both (number w64) (number w64))

abbrev pub reply_fits : Option KeptReply → Bool
reply_fits None = true
reply_fits (Some reply) = reply_numbers.fits (reply.seq, acceptance_numbers reply.acceptance)

abbrev pub reply_text : Option KeptReply → List ℕ
reply_text None = nothing.text tt
reply_text (Some reply) = reply_numbers.text (reply.seq, acceptance_numbers reply.acceptance)

abbrev pub reply_of : (ℕ → ℕ → Acceptance) → ℕ × (ℕ × ℕ) → Option KeptReply
reply_of made x = Some (record { seq = x.0; acceptance = made x.1.0 x.1.1 })

abbrev pub reply_at : ℕ → List ℕ → Option (Option KeptReply × List ℕ)
reply_at tag bytes =
    if tag == 0 then kind_at (λ x. None) nothing bytes else
    (if tag == 1 then kind_at (reply_of Accepted) reply_numbers bytes else
    (if tag == 2 then kind_at (reply_of Renewed) reply_numbers bytes else
    (if tag == 3 then kind_at (reply_of Cancelled) reply_numbers bytes else None)))

abbrev pub replies : Variants (Option KeptReply)
replies = record { tag = reply_tag; fits = reply_fits; text = reply_text; most = reply_numbers.most; at = reply_at }

-- version 1 knows no kept replies
abbrev pub no_reply_part : Option KeptReply → Option Unit
no_reply_part None = Some tt
no_reply_part (Some reply) = None

abbrev pub no_reply : Field (Option KeptReply)
no_reply = made_of no_reply_part (λ x. None) nothing

abbrev pub reply : ℕ → Field (Option KeptReply)
reply version = if version == 1 then no_reply else tagged replies

-- ---- processes: name, how many notices, the last of them, kept reply

-- the notices that are kept are the last ones, so their numbers take no bytes
abbrev pub numbered_from : ℕ → List (ℕ × (ℕ × What)) → List Notice
numbered_from number [] = []
numbered_from number (x ∷ xs) = record { number = number; at = x.0; txn = x.1.0; what = x.1.1 } ∷ numbered_from (number + 1) xs

abbrev pub is_numbered_from : ℕ → List Notice → Bool
is_numbered_from number [] = true
is_numbered_from number (notice ∷ notices) = (notice.number == number) && is_numbered_from (number + 1) notices

abbrev pub told_of : Notice → ℕ × (ℕ × What)
told_of notice = (notice.at, (notice.txn, notice.what))

-- the number of the first of so many notices of which this is the last
abbrev pub first_of_last : ℕ → ℕ → ℕ
first_of_last count many = count + 1 - many

abbrev pub process_parts : Process → Option (List ℕ × ((ℕ × List (ℕ × (ℕ × What))) × Option KeptReply))
process_parts process = if is_numbered_from (first_of_last process.count (length process.kept)) process.kept
    then Some (process.name, ((process.count, map told_of process.kept), process.reply)) else None

abbrev pub process_of : List ℕ × ((ℕ × List (ℕ × (ℕ × What))) × Option KeptReply) → Process
process_of x = record {
  name = x.0;
  count = x.1.0.0;
  kept = numbered_from (first_of_last x.1.0.0 (length x.1.0.1)) x.1.0.1;
  reply = x.1.1;
}

-- no more are kept than were sent
abbrev pub are_sent : ℕ × List (ℕ × (ℕ × What)) → Bool
are_sent x = nat_le (length x.1) x.0

abbrev pub sent : Field (ℕ × List (ℕ × (ℕ × What)))
sent = only are_sent (both (number w64) (counted (number w16) notices_kept told))

abbrev pub process : ℕ → Field Process
process version = made_of process_parts process_of (both name (both sent (reply version)))

-- ---- records of transactions

abbrev pub end_parts : End → Option (Cause × ℕ)
end_parts end = Some (end.cause, end.at)

abbrev pub end_of : Cause × ℕ → End
end_of x = record { cause = x.0; at = x.1 }

abbrev pub end : Field End
end = made_of end_parts end_of (both (tagged causes) (number w64))

abbrev pub end_tag : Option End → ℕ
end_tag None = 0
end_tag (Some e) = 1

abbrev pub end_fits : Option End → Bool
end_fits None = true
end_fits (Some e) = end.fits e

abbrev pub end_text : Option End → List ℕ
end_text None = nothing.text tt
end_text (Some e) = end.text e

abbrev pub end_at : ℕ → List ℕ → Option (Option End × List ℕ)
end_at tag bytes =
    if tag == 0 then kind_at (λ x. None) nothing bytes else
    (if tag == 1 then kind_at (λ e. Some e) end bytes else None)

abbrev pub ends : Variants (Option End)
ends = record { tag = end_tag; fits = end_fits; text = end_text; most = end.most; at = end_at }

abbrev pub part_parts : Part → Option (ℕ × (ℕ × Option End))
part_parts part = Some (part.point, (part.priority, part.end))

abbrev pub part_of : ℕ × (ℕ × Option End) → Part
part_of x = record { point = x.0; priority = x.1.0; end = x.1.1 }

abbrev pub part : Field Part
part = made_of part_parts part_of (both (number w32) (both byte (tagged ends)))

abbrev pub transaction_parts : Transaction → Option (ℕ × (ℕ × (Policy × List Part)))
transaction_parts t = Some (t.txn, (t.owner, (t.policy, t.parts)))

abbrev pub transaction_of : ℕ × (ℕ × (Policy × List Part)) → Transaction
transaction_of x = record { txn = x.0; owner = x.1.0; policy = x.1.1.0; parts = x.1.1.1 }

-- as many parts as a byte can tell
abbrev pub most_parts : ℕ
most_parts = 255

abbrev pub transaction : Field Transaction
transaction = made_of transaction_parts transaction_of (both (number w64) (both (number w16) (both policy (counted byte most_parts part))))

-- ---- leases and reversions

abbrev pub lease_parts : Lease → Option (ℕ × (ℕ × (ℕ × (ℕ × (ℤ × (ℕ × (Policy × List Step)))))))
lease_parts x = Some (x.txn, (x.owner, (x.point, (x.priority, (x.value, (x.until, (x.policy, x.revert)))))))

abbrev pub lease_of : ℕ × (ℕ × (ℕ × (ℕ × (ℤ × (ℕ × (Policy × List Step)))))) → Lease
lease_of x = record {
  txn = x.0;
  owner = x.1.0;
  point = x.1.1.0;
  priority = x.1.1.1.0;
  value = x.1.1.1.1.0;
  until = x.1.1.1.1.1.0;
  policy = x.1.1.1.1.1.1.0;
  revert = x.1.1.1.1.1.1.1;
}

abbrev pub lease : Field Lease
lease = made_of lease_parts lease_of
    (both (number w64) (both (number w16) (both (number w32) (both byte (both signed64 (both (number w64) (both policy steps)))))))

abbrev pub pending_parts : Pending → Option (ℕ × (ℕ × (ℕ × (ℕ × (ℕ × List Step)))))
pending_parts x = Some (x.txn, (x.owner, (x.point, (x.priority, (x.start, x.steps)))))

abbrev pub pending_of : ℕ × (ℕ × (ℕ × (ℕ × (ℕ × List Step)))) → Pending
pending_of x = record {
  txn = x.0;
  owner = x.1.0;
  point = x.1.1.0;
  priority = x.1.1.1.0;
  start = x.1.1.1.1.0;
  steps = x.1.1.1.1.1;
}

abbrev pub pending : Field Pending
pending = made_of pending_parts pending_of
    (both (number w64) (both (number w16) (both (number w32) (both byte (both (number w64) steps)))))

-- ---- the state: moment and next number, processes, transactions, those that are done, leases, reversions

abbrev pub StateParts : Type 0
StateParts = ℕ × (ℕ × (List Process × (List Transaction × (List ℕ × (List Lease × List Pending)))))

abbrev pub state_parts : Persistent → Option StateParts
state_parts d = Some (d.now, (d.next, (d.processes, (d.txns, (d.done, (d.leases, d.pending))))))

abbrev pub state_of : StateParts → Persistent
state_of x = record {
  now = x.0;
  next = x.1.0;
  processes = x.1.1.0;
  txns = x.1.1.1.0;
  done = x.1.1.1.1.0;
  leases = x.1.1.1.1.1.0;
  pending = x.1.1.1.1.1.1;
}

abbrev pub state : ℕ → Field Persistent
state version = made_of state_parts state_of
    (both (number w64) (both (number w64) (both (listed w16 (process version)) (both (listed w32 transaction)
    (both (listed w16 (number w64)) (both (listed w32 lease) (listed w32 pending)))))))
