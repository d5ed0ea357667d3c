-- Source: own.
-- The tests of one item each, as the code makes them. What the types of the code see to, as that a number fits its bits, is
-- among them.
use Rattle.std.specs.Prelude.{ℕ, ◌+◌, ◌-◌, ◌^◌, ◌==◌, pos, nat_eq, nat_lt, nat_le, Bool, true, false, not, ◌&&◌, ◌||◌, List, [], ◌∷◌, length, Option, Some, None, is_some, is_none}
use Rattle.std.specs.Bool.{beq}
use Rattle.std.specs.Cmp.Lexicographic.{pointwise}
use Rattle.std.specs.List.{list_all, list_any}
use Rattle.std.specs.Option.{option_map_or}
use Rattle.boss_model.specs.declared.kept.Acceptance.{Acceptance}
use Rattle.boss_model.specs.declared.kept.Acceptance.TheVariants as acceptance
use Rattle.boss_model.specs.declared.kept.Kept.{Kept}
use Rattle.boss_model.specs.declared.kept.KeptPart.{KeptPart}
use Rattle.boss_model.specs.declared.kept.KeptProcess.{KeptProcess}
use Rattle.boss_model.specs.declared.kept.KeptReply.{KeptReply}
use Rattle.boss_model.specs.declared.kept.KeptTxn.{KeptTxn}
use Rattle.boss_model.specs.declared.notice.Cause.{Cause}
use Rattle.boss_model.specs.declared.notice.Cause.TheVariants as cause
use Rattle.boss_model.specs.declared.notice.Notice.{Notice}
use Rattle.boss_model.specs.declared.notice.What.{What}
use Rattle.boss_model.specs.declared.notice.What.TheVariants as what
use Rattle.boss_model.specs.declared.state.Actuator.{Actuator}
use Rattle.boss_model.specs.Catalogue.{fits_at}
use Rattle.boss_model.specs.Limits.{longest_lease, most_writes, notices_kept, last_number}
use Rattle.boss_model.specs.Lists.{member}
use Rattle.boss_model.specs.Names.{is_name}
use Rattle.boss_model.specs.Reversions.{end_of}
use Rattle.boss_model.specs.declared.state.Lease.{Lease}
use Rattle.boss_model.specs.declared.state.Pending.{Pending}
use Rattle.boss_model.specs.Same.{same_policy}
use Rattle.boss_model.specs.Sound.{is_superseded}
use Rattle.boss_model.specs.Submit.{is_level, is_reversion}
use Rattle.boss_state_check.specs.Searches.{lease_at, transaction_of, is_held, is_played}

-- ---- leases and reversions

abbrev pub is_lease : List Actuator → ℕ → Lease → Bool
is_lease plant now lease = fits_at plant lease.point lease.value && is_level (pos lease.priority) && is_reversion plant lease.point lease.revert
    && nat_lt now lease.until && nat_le lease.until (now + longest_lease)

abbrev pub is_pending : List Actuator → ℕ → Pending → Bool
is_pending plant now reversion = is_level (pos reversion.priority) && is_reversion plant reversion.point reversion.steps
    && nat_le reversion.start now && nat_lt now (end_of reversion)

-- no lease holds the slot of the reversion
abbrev pub is_alone : List Lease → Pending → Bool
is_alone leases reversion = is_none (lease_at leases reversion.point reversion.priority)

-- ---- numbers

abbrev pub is_word : ℕ → Bool
is_word n = nat_lt n (2 ^ 64)

abbrev pub is_cause : Cause → Bool
is_cause (cause.Superseded by) = is_word by
is_cause why = true

-- it tells of one of so many points, or of none
abbrev pub is_told : ℕ → What → Bool
is_told points (what.Fault point) = nat_lt point points
is_told points (what.Ended point why) = nat_lt point points && is_cause why
is_told points (what.Reverted point) = nat_lt point points
is_told points (what.Cut point by) = nat_lt point points && is_word by
is_told points what.Done = true

abbrev pub is_notice : ℕ → ℕ → Notice → Bool
is_notice points now notice = nat_le notice.at now && is_told points notice.what && is_word notice.txn

abbrev pub is_acceptance : Acceptance → Bool
is_acceptance (acceptance.Accepted txn until) = is_word txn && is_word until
is_acceptance (acceptance.Renewed txn until) = is_word txn && is_word until
is_acceptance (acceptance.Cancelled txn at) = is_word txn && is_word at

abbrev pub is_reply : Option KeptReply → Bool
is_reply None = true
is_reply (Some reply) = nat_le 1 reply.seq && nat_lt reply.seq last_number && is_acceptance reply.acceptance

-- ---- records of transactions

-- an end, if there is one, is no later than this moment
abbrev pub is_past : ℕ → Option (Cause × ℕ) → Bool
is_past now None = true
is_past now (Some end) = is_cause end.0 && nat_le end.1 now

-- a slot of one of so many points; a part may have any priority that fits its byte
abbrev pub is_slot : ℕ → ℕ → ℕ → Bool
is_slot points point priority = nat_lt point points && nat_lt priority 256

-- the part has no end exactly where its transaction holds its slot
abbrev pub is_part : List Actuator → ℕ → ℕ → List Lease → KeptPart → Bool
is_part plant now txn leases part = is_slot (length plant) part.point part.priority && is_past now part.end
    && beq (is_none part.end) (is_held leases txn part.point part.priority)

-- no point twice
abbrev pub have_own_points : List KeptPart → Bool
have_own_points [] = true
have_own_points (part ∷ parts) = not (list_any (λ other. other.point == part.point) parts) && have_own_points parts

abbrev pub is_transaction : List Actuator → Kept → KeptTxn → Bool
is_transaction plant kept transaction = nat_le 1 transaction.txn && nat_lt transaction.txn kept.next && nat_lt transaction.owner (length kept.processes)
    && nat_le 1 (length transaction.parts) && nat_le (length transaction.parts) most_writes && have_own_points transaction.parts
    && list_all (is_part plant kept.now transaction.txn kept.leases) transaction.parts

-- ---- leases and reversions in the records

-- the record is that of the lease's transaction, and has the lease as a part without an end
abbrev pub tells_lease : Lease → KeptTxn → Bool
tells_lease lease transaction = (transaction.owner == lease.owner) && same_policy transaction.policy lease.policy
    && list_any (λ part. (part.point == lease.point) && (part.priority == lease.priority) && is_none part.end) transaction.parts

abbrev pub is_told_lease : List KeptTxn → Lease → Bool
is_told_lease txns lease = option_map_or (tells_lease lease) (transaction_of txns lease.txn) false

-- the end started a reversion at this moment
abbrev pub is_start : ℕ → Option (Cause × ℕ) → Bool
is_start start None = false
is_start start (Some end) = (end.1 == start) && not (is_superseded end.0)

-- the record is that of the reversion's transaction, and has a part whose end is its start
abbrev pub tells_pending : Pending → KeptTxn → Bool
tells_pending reversion transaction = (transaction.owner == reversion.owner)
    && list_any (λ part. (part.point == reversion.point) && (part.priority == reversion.priority) && is_start reversion.start part.end) transaction.parts

abbrev pub is_told_pending : List KeptTxn → Pending → Bool
is_told_pending txns reversion = option_map_or (tells_pending reversion) (transaction_of txns reversion.txn) false

-- ---- what is done

-- no number twice
abbrev pub are_distinct : List ℕ → Bool
are_distinct [] = true
are_distinct (n ∷ ns) = not (member n ns) && are_distinct ns

-- there is a record of the transaction
abbrev pub is_recorded : List KeptTxn → ℕ → Bool
is_recorded txns txn = is_some (transaction_of txns txn)

-- a part of it has a lease, or a reversion under way
abbrev pub is_living : List Pending → KeptTxn → Bool
is_living pending transaction = list_any (λ part. is_none part.end || is_played pending transaction.txn part.point part.priority) transaction.parts

-- it is among the done ones exactly where it is over
abbrev pub is_settled : List Pending → List ℕ → KeptTxn → Bool
is_settled pending done transaction = beq (member transaction.txn done) (not (is_living pending transaction))

-- ---- notices

-- they are numbered one by one from this number on
abbrev pub are_numbered : ℕ → List Notice → Bool
are_numbered number [] = true
are_numbered number (notice ∷ notices) = (notice.number == number) && are_numbered (number + 1) notices

-- ---- processes

abbrev pub is_process : ℕ → ℕ → KeptProcess → Bool
is_process points now process = is_name process.name && nat_le process.count last_number && nat_le (length process.notices) notices_kept
    && nat_le (length process.notices) process.count && are_numbered (process.count + 1 - length process.notices) process.notices
    && list_all (is_notice points now) process.notices && is_reply process.reply

-- no name twice
abbrev pub have_own_names : List KeptProcess → Bool
have_own_names [] = true
have_own_names (process ∷ processes) = not (list_any (λ other. pointwise nat_eq other.name process.name) processes) && have_own_names processes
