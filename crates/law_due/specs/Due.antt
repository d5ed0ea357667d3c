-- Source: own.
use Rattle.std.specs.Prelude.{ℕ, ◌&&◌, nat_lt, nat_le, max, Bool, true, false, if◌then◌else◌, List, [], ◌∷◌, ◌++◌, map, filter, flat_map, fold, Option, Some, None}
use Rattle.boss_model.specs.declared.notice.Cause.TheVariants as cause
use Rattle.boss_model.specs.declared.notice.What.{What}
use Rattle.boss_model.specs.Happenings.{Happening, ended, reverted, done_last, last_end}
use Rattle.boss_model.specs.Records.{Transaction}
use Rattle.boss_model.specs.Reversions.{end_of, reversion_of, courses}
use Rattle.boss_model.specs.declared.state.Lease.{Lease}
use Rattle.boss_model.specs.declared.state.Pending.{Pending}
use Rattle.boss_model.specs.State.{Persistent}
use Rattle.law_due.specs.Playing.{last_turn}

-- What is told as time passes to n, in the order in which it is found: the leases that end and the reversions of these that
-- are over too, the reversions under way that are over, and the transactions that become done.

abbrev pub reverted_by : ℕ → Pending → List Happening
reverted_by n reversion = if nat_le (end_of reversion) n then reverted reversion reversion.steps else []

abbrev pub lease_told : ℕ → Lease → List Happening
lease_told n lease = if nat_le lease.until n then ended cause.Expired (reversion_of lease) ∷ reverted_by n (reversion_of lease) else []

abbrev pub is_done_by : ℕ → ℕ → List Pending → Transaction → Bool
is_done_by now n reversions transaction = nat_lt now (last_end transaction.txn reversions) && nat_le (last_end transaction.txn reversions) n

abbrev pub done_told : ℕ → ℕ → List Pending → List Transaction → List Happening
done_told now n reversions txns = map (done_last reversions) (filter (is_done_by now n reversions) txns)

abbrev pub due_told : ℕ → Persistent → List Happening
due_told n d = flat_map (lease_told n) d.leases ++ flat_map (reverted_by n) d.pending ++ done_told d.now n (courses d.pending d.leases) d.txns

abbrev pub is_told : Option What → Bool
is_told None = false
is_told (Some told) = true

abbrev pub is_some_told : Happening → Bool
is_some_told happening = is_told happening.told

-- ---- the last moment that is due up to n

abbrev pub last_of_lease : ℕ → ℕ → Lease → ℕ
last_of_lease n last lease = if nat_le lease.until n then last_turn lease.until lease.revert (max last lease.until) n else last

abbrev pub last_of_pending : ℕ → ℕ → Pending → ℕ
last_of_pending n last reversion = last_turn reversion.start reversion.steps last n

abbrev pub last_due : ℕ → Persistent → ℕ
last_due n d = fold (last_of_pending n) (fold (last_of_lease n) d.now d.leases) d.pending
