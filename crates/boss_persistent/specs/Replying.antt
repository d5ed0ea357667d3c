-- Source: own.
-- What the reply that is kept of a process means for its next numbered request.
use Rattle.std.specs.Prelude.{ℕ, ◌==◌, nat_lt, ℤ, if◌then◌else◌, List, filter, Option, Some, None}
use Rattle.boss_model.specs.declared.answer.Answer.{Answer}
use Rattle.boss_model.specs.declared.answer.Answer.TheVariants as answer
use Rattle.boss_model.specs.declared.answer.Refusal.TheVariants as refusal
use Rattle.boss_model.specs.declared.kept.Acceptance.{Acceptance}
use Rattle.boss_model.specs.declared.kept.KeptReply.{KeptReply}
use Rattle.boss_model.specs.Renew.{is_meant, renewed}
use Rattle.boss_model.specs.Replies.{answer_of, keep_reply, reply_of}
use Rattle.boss_model.specs.State.{Process, Persistent}
use Rattle.boss_model.specs.Submit.{first_until}
use Rattle.boss_persistent.specs.declared.replies.Decision.{Decision}
use Rattle.boss_persistent.specs.declared.replies.Decision.TheVariants as decision

-- the answer to a request of this number, if the reply decides it: what was answered before, or that its number is stale
abbrev pub decided_by : ℕ → Option KeptReply → Option Answer
decided_by seq None = None
decided_by seq (Some reply) =
    if reply.seq == seq then Some (answer_of reply.acceptance) else
    (if nat_lt seq reply.seq then Some (answer.Refused (refusal.Stale reply.seq)) else None)

abbrev pub decision_answer : Decision → Answer
decision_answer (decision.Again given) = answer_of given
decision_answer (decision.Stale kept) = answer.Refused (refusal.Stale kept)

-- the same of a request of this process, which has no number where `seq` is 0
abbrev pub decided : List Process → ℕ → ℕ → Option Answer
decided processes owner seq = if seq == 0 then None else decided_by seq (reply_of processes owner)

-- the processes after this one's request was accepted with this answer
abbrev pub accepted : ℕ → ℕ → Acceptance → List Process → List Process
accepted owner seq given processes = if seq == 0 then processes else keep_reply owner seq (Some given) processes

abbrev pub with_reply : ℕ → ℕ → Acceptance → Persistent → Persistent
with_reply owner seq given d = record d { processes = accepted owner seq given d.processes }

-- the first moment at which one of the leases ends that a renewal has made longer
abbrev pub renewed_until : ℕ → ℤ → List ℕ → ℕ → Persistent → ℕ
renewed_until txn length points n d = first_until (filter (is_meant txn points) (renewed txn length points n d).leases)
