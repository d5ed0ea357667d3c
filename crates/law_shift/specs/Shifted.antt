-- Source: own.
-- What outlasts a stop with each moment of it moved back by as much.
use Rattle.std.specs.Prelude.{ℕ, ◌-◌, ◌≤◌, map}
use Rattle.std.specs.List.{AllByRecursion}
use Rattle.std.specs.Option.{option_map}
use Rattle.boss_model.specs.declared.kept.Acceptance.{Acceptance}
use Rattle.boss_model.specs.declared.kept.Acceptance.TheVariants as acceptance
use Rattle.boss_model.specs.declared.kept.KeptReply.{KeptReply}
use Rattle.boss_model.specs.declared.notice.Notice.{Notice}
use Rattle.boss_model.specs.declared.state.Lease.{Lease}
use Rattle.boss_model.specs.declared.state.Pending.{Pending}
use Rattle.boss_model.specs.Records.{End, Part, Transaction}
use Rattle.boss_model.specs.State.{Process, Persistent}

-- ---- leases and reversions

abbrev pub shifted_lease : ℕ → Lease → Lease
shifted_lease by lease = record lease { until = lease.until - by }

abbrev pub shifted_pending : ℕ → Pending → Pending
shifted_pending by reversion = record reversion { start = reversion.start - by }

-- ---- records of transactions

abbrev pub shifted_end : ℕ → End → End
shifted_end by end = record end { at = end.at - by }

abbrev pub shifted_part : ℕ → Part → Part
shifted_part by part = record part { end = option_map (shifted_end by) part.end }

abbrev pub shifted_txn : ℕ → Transaction → Transaction
shifted_txn by transaction = record transaction { parts = map (shifted_part by) transaction.parts }

-- ---- processes

abbrev pub shifted_notice : ℕ → Notice → Notice
shifted_notice by notice = record notice { at = notice.at - by }

-- what a numbered request that comes again is answered: the end that its lease now has
abbrev pub shifted_acceptance : ℕ → Acceptance → Acceptance
shifted_acceptance by (acceptance.Accepted txn until) = acceptance.Accepted txn (until - by)
shifted_acceptance by (acceptance.Renewed txn until) = acceptance.Renewed txn (until - by)
shifted_acceptance by (acceptance.Cancelled txn at) = acceptance.Cancelled txn (at - by)

abbrev pub shifted_reply : ℕ → KeptReply → KeptReply
shifted_reply by reply = record reply { acceptance = shifted_acceptance by reply.acceptance }

abbrev pub shifted_process : ℕ → Process → Process
shifted_process by process = record process {
  kept = map (shifted_notice by) process.kept;
  reply = option_map (shifted_reply by) process.reply;
}

-- ---- the whole

abbrev pub shifted : ℕ → Persistent → Persistent
shifted by d = record d {
  now = d.now - by;
  leases = map (shifted_lease by) d.leases;
  pending = map (shifted_pending by) d.pending;
  txns = map (shifted_txn by) d.txns;
  processes = map (shifted_process by) d.processes;
}

-- It is moved by no more than what its moment is, nor than what a reversion under way has as its start. What is told of
-- the time before is moved as far as it goes.
pub record MayShift (by : ℕ) (d : Persistent) : Type 0 where
  pub now : by ≤ d.now
  pub started : AllByRecursion (λ reversion. by ≤ reversion.start) d.pending
