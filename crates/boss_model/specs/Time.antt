-- Source: BOSS (Dawson-Haggerty et al., NSDI 2013), transaction manager (a lease ends, and its reversion sequence is
-- played); due moments and what is kept own.
use Rattle.std.specs.Prelude.{ℕ, max, ◌&&◌, ◌||◌, ◌==◌, nat_lt, nat_le, if◌then◌else◌, List, map, filter, find, fold, Option, Some, None}
use Rattle.boss_model.specs.declared.notice.Cause.TheVariants as cause
use Rattle.boss_model.specs.Happenings.{Happening, coming, lives, finish, tell, later}
use Rattle.boss_model.specs.Lists.{member}
use Rattle.boss_model.specs.Records.{End, Part, Transaction}
use Rattle.boss_model.specs.Reversions.{end_of, courses}
use Rattle.boss_model.specs.State.{Lease, Pending, Persistent}

-- a lease is live as long as the moment is before its end
abbrev pub live : ℕ → List Lease → List Lease
live n leases = filter (λ lease. nat_lt n lease.until) leases

-- of all reversions those that have started and are not over
abbrev pub under_way : ℕ → List Pending → List Pending
under_way n reversions = filter (λ reversion. nat_le reversion.start n && nat_lt n (end_of reversion)) reversions

-- those that are not over, under way and to come
abbrev pub left : ℕ → List Pending → List Pending
left n reversions = filter (λ reversion. nat_lt n (end_of reversion)) reversions

-- what happens after `now`, up to and with n, in order. Its moments are the due ones.
abbrev pub due : ℕ → Persistent → List Happening
due n d = filter (λ happening. nat_le happening.at n) (coming d.now (courses d.pending d.leases) d.txns)

-- ---- the records of transactions

abbrev pub lease_of_part : List Lease → ℕ → ℕ → ℕ → Option Lease
lease_of_part leases txn point priority = find (λ lease. (lease.txn == txn) && ((lease.point == point) && (lease.priority == priority))) leases

-- an end stays; a part without one ends as its lease does
abbrev pub end_after : (Lease → Option End) → Option Lease → Option End → Option End
end_after how found (Some end) = Some end
end_after how None None = None
end_after how (Some lease) None = how lease

abbrev pub part_after : (Lease → Option End) → List Lease → ℕ → Part → Part
part_after how leases txn part = record part { end = end_after how (lease_of_part leases txn part.point part.priority) part.end }

abbrev pub record_after : (Lease → Option End) → List Lease → Transaction → Transaction
record_after how leases transaction = record transaction { parts = map (part_after how leases transaction.txn) transaction.parts }

abbrev pub expired : ℕ → Lease → Option End
expired n lease = if nat_lt n lease.until then None else Some (record { cause = cause.Expired; at = lease.until })

-- the records of all transactions that have a lease or a reversion left, and of the last that became done
abbrev pub kept : List Pending → List ℕ → List Transaction → List Transaction
kept reversions done txns = filter (λ transaction. lives transaction.txn reversions || member transaction.txn done) txns

-- ---- time passes up to n

-- Leases end at their moments and start their reversions then, reversions end at theirs. What is told and what becomes
-- done goes in the order in which it happens, and `now` becomes the last moment that was due, if any was.
abbrev pub tick_to : ℕ → Persistent → Persistent
tick_to n d =
    let reversions = courses d.pending d.leases in
    let happened = due n d in
    let done = fold finish d.done happened in
    record d {
      now = fold later d.now happened;
      leases = live n d.leases;
      pending = under_way n reversions;
      txns = kept (left n reversions) done (map (record_after (expired n) d.leases) d.txns);
      done = done;
      processes = fold tell d.processes happened;
    }

-- moments never go back
abbrev pub moment_of : Persistent → ℕ → ℕ
moment_of d moment = max d.now moment

abbrev pub tick : Persistent → ℕ → Persistent
tick d moment = tick_to (moment_of d moment) d
