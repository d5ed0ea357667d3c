-- Source: own.
-- Numbered requests. A process may number a submit, a renewal or a cancel, and what the last one that was accepted was answered
-- is kept. So a request that is sent again with its number is made once.
use Rattle.std.specs.Prelude.{ℕ, ◌==◌, nat_lt, Bool, false, ◌&&◌, if◌then◌else◌, List, Option, Some, None, slice_get, slice_set}
use Rattle.std.specs.Option.{option_and_then, option_map_or}
use Rattle.boss_model.specs.declared.answer.Answer.{Answer}
use Rattle.boss_model.specs.declared.answer.Answer.TheVariants as answer
use Rattle.boss_model.specs.declared.answer.Refusal.TheVariants as refusal
use Rattle.boss_model.specs.declared.kept.Acceptance.{Acceptance}
use Rattle.boss_model.specs.declared.kept.Acceptance.TheVariants as acceptance
use Rattle.boss_model.specs.declared.kept.KeptReply.{KeptReply}
use Rattle.boss_model.specs.Outcomes.{Outcome, refused, did}
use Rattle.boss_model.specs.State.{Process, Persistent}

-- ---- the answers that are kept

abbrev pub answer_of : Acceptance → Answer
answer_of (acceptance.Accepted txn until) = answer.Accepted txn until
answer_of (acceptance.Renewed txn until) = answer.Renewed txn until
answer_of (acceptance.Cancelled txn at) = answer.Cancelled txn at

abbrev pub acceptance_of : Answer → Option Acceptance
acceptance_of (answer.Accepted txn until) = Some (acceptance.Accepted txn until)
acceptance_of (answer.Renewed txn until) = Some (acceptance.Renewed txn until)
acceptance_of (answer.Cancelled txn at) = Some (acceptance.Cancelled txn at)
acceptance_of other = None

-- ---- what is kept of each process

abbrev pub reply_of : List Process → ℕ → Option KeptReply
reply_of processes owner = option_and_then (λ process. process.reply) (slice_get processes owner)

abbrev pub replied : List Process → ℕ → KeptReply → Option Process → List Process
replied processes owner reply None = processes
replied processes owner reply (Some process) = slice_set processes owner (record process { reply = Some reply })

abbrev pub keep_reply : ℕ → ℕ → Option Acceptance → List Process → List Process
keep_reply owner seq None processes = processes
keep_reply owner seq (Some given) processes = replied processes owner (record { seq = seq; acceptance = given }) (slice_get processes owner)

-- ---- a request of a process that may be numbered: `seq` is its number, 0 for none

-- what it is answered is kept where it is accepted
abbrev pub remembered : ℕ → ℕ → Outcome → Outcome
remembered owner seq (refused why) = refused why
remembered owner seq (did given d) = did given (record d { processes = keep_reply owner seq (acceptance_of given) d.processes })

-- A number that was accepted last is answered the same again, whatever else is asked, and changes nothing; a lesser one is refused.
abbrev pub unless_kept : ℕ → ℕ → Option KeptReply → Persistent → Outcome → Outcome
unless_kept owner seq None d outcome = remembered owner seq outcome
unless_kept owner seq (Some reply) d outcome =
    if reply.seq == seq then did (answer_of reply.acceptance) d else
    (if nat_lt seq reply.seq then refused (refusal.Stale reply.seq) else remembered owner seq outcome)

-- `outcome` is what becomes of it where its number does not decide
abbrev pub once : ℕ → ℕ → Persistent → Outcome → Outcome
once owner seq d outcome = if seq == 0 then outcome else unless_kept owner seq (reply_of d.processes owner) d outcome

-- its answer is kept already
abbrev pub is_repeat : ℕ → ℕ → Persistent → Bool
is_repeat owner seq d = nat_lt 0 seq && option_map_or (λ reply. reply.seq == seq) (reply_of d.processes owner) false
