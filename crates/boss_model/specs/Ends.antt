-- Source: BOSS (Dawson-Haggerty et al., NSDI 2013), transaction manager (cancel, the loss of a process, error
-- policies).
use Rattle.std.specs.Prelude.{ℕ, ◌==◌, Bool, if◌then◌else◌, List, [], ◌∷◌, ◌++◌, length, map, filter, filter_map, Option, Some, None}
use Rattle.std.specs.List.{list_any}
use Rattle.boss_model.specs.declared.answer.Answer.TheVariants as answer
use Rattle.boss_model.specs.declared.answer.Refusal.{Refusal}
use Rattle.boss_model.specs.declared.answer.Refusal.TheVariants as refusal
use Rattle.boss_model.specs.declared.command.Policy.{Policy}
use Rattle.boss_model.specs.declared.command.Policy.TheVariants.{Abort, Keep}
use Rattle.boss_model.specs.declared.notice.Cause.{Cause}
use Rattle.boss_model.specs.declared.notice.Cause.TheVariants as cause
use Rattle.boss_model.specs.declared.notice.What.TheVariants as what
use Rattle.boss_model.specs.Groups.{conclude}
use Rattle.boss_model.specs.Happenings.{Happening, ended}
use Rattle.boss_model.specs.Lists.{latest}
use Rattle.boss_model.specs.Outcomes.{Outcome, did, unless}
use Rattle.boss_model.specs.Records.{End, Transaction}
use Rattle.boss_model.specs.Renew.{transaction_of, if_own}
use Rattle.boss_model.specs.Reversions.{reversion_of, courses}
use Rattle.boss_model.specs.State.{Lease, Persistent}
use Rattle.boss_model.specs.Time.{live, under_way, record_after}

-- ---- leases end before their time

-- the lease ends at n
abbrev pub shortened : ℕ → Lease → Lease
shortened n lease = record lease { until = n }

abbrev pub shortened_if : (Lease → Bool) → ℕ → Lease → Lease
shortened_if which n lease = if which lease then shortened n lease else lease

abbrev pub end_if : (Lease → Bool) → Cause → ℕ → Lease → Option End
end_if which why n lease = if which lease then Some (record { cause = why; at = n }) else None

-- At moment n the leases concerned end, and start their reversions as at the end of their time. `first` is what is told
-- in the same group.
abbrev pub end_leases : (Lease → Bool) → Cause → ℕ → List Happening → Persistent → Persistent
end_leases which why n first d =
    let leases = map (shortened_if which n) d.leases in
    let ends = map (λ lease. ended why (reversion_of (shortened n lease))) (filter which d.leases) in
    conclude n (first ++ ends) d (record d {
      leases = live n leases;
      pending = under_way n (courses d.pending leases);
      txns = map (record_after (end_if which why n) d.leases) d.txns;
    })

-- ---- cancel

abbrev pub is_of : ℕ → Lease → Bool
is_of txn lease = lease.txn == txn

-- the last of the moments at which its leases ended
abbrev pub last_part_end : Transaction → ℕ
last_part_end transaction = latest (map (λ end. end.at) (filter_map (λ part. part.end) transaction.parts))

abbrev pub cancel_refused : ℕ → ℕ → Persistent → Option Refusal
cancel_refused owner txn d = if_own owner
    (λ transaction. if list_any (is_of txn) d.leases then None else Some (refusal.Over (last_part_end transaction)))
    (transaction_of d.txns txn)

abbrev pub cancel : ℕ → ℕ → ℕ → Persistent → Outcome
cancel owner txn n d = unless (cancel_refused owner txn d) (answer.Cancelled txn n) (end_leases (is_of txn) cause.Cancelled n [] d)

-- ---- a process is lost

abbrev pub is_owned_by : ℕ → Lease → Bool
is_owned_by owner lease = lease.owner == owner

abbrev pub lost : ℕ → ℕ → Persistent → Persistent
lost owner n d = if list_any (is_owned_by owner) d.leases then end_leases (is_owned_by owner) cause.Died n [] d else d

abbrev pub gone : ℕ → ℕ → Persistent → Outcome
gone owner n d = did (answer.Gone (length (filter (is_owned_by owner) d.leases))) (lost owner n d)

-- ---- a device does not take the value of the lease in force

abbrev pub fault : ℕ → Lease → Happening
fault n lease = record { at = n; txn = lease.txn; owner = lease.owner; told = Some (what.Fault lease.point) }

abbrev pub faulted_under : Policy → Lease → ℕ → Persistent → Persistent
faulted_under Abort lease n d = end_leases (is_of lease.txn) cause.Fault n (fault n lease ∷ []) d
faulted_under Keep lease n d = conclude n (fault n lease ∷ []) d d

-- nobody is told where no lease is in force
abbrev pub faulted : Option Lease → ℕ → Persistent → Persistent
faulted None n d = d
faulted (Some lease) n d = faulted_under lease.policy lease n d
