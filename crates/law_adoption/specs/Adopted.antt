-- Source: own.
-- What becomes of what outlasts a stop when its points are renumbered.
use Rattle.std.specs.Prelude.{ℕ, Bool, true, if◌then◌else◌, List, [], ◌∷◌, map, filter, Option}
use Rattle.std.specs.List.{list_all}
use Rattle.boss_model.specs.declared.notice.Notice.{Notice}
use Rattle.boss_model.specs.declared.notice.What.{What}
use Rattle.boss_model.specs.declared.notice.What.TheVariants as what
use Rattle.boss_model.specs.declared.state.Lease.{Lease}
use Rattle.boss_model.specs.declared.state.Pending.{Pending}
use Rattle.boss_model.specs.Order.{in_order}
use Rattle.boss_model.specs.Records.{Part, Transaction}
use Rattle.boss_model.specs.Sound.{is_kept}
use Rattle.boss_model.specs.State.{lease_slot, pending_slot, Process, Persistent}
use Rattle.law_adoption.specs.Renumber.{stays, at}

-- ---- leases and reversions

abbrev pub moved_lease : (ℕ → Option ℕ) → Lease → Lease
moved_lease to lease = record lease { point = at to lease.point }

abbrev pub moved_pending : (ℕ → Option ℕ) → Pending → Pending
moved_pending to reversion = record reversion { point = at to reversion.point }

-- ---- records of transactions

abbrev pub moved_part : (ℕ → Option ℕ) → Part → Part
moved_part to part = record part { point = at to part.point }

abbrev pub moved_txn : (ℕ → Option ℕ) → Transaction → Transaction
moved_txn to transaction = record transaction { parts = map (moved_part to) transaction.parts }

-- no part of it is on a removed point
abbrev pub all_stay : (ℕ → Option ℕ) → Transaction → Bool
all_stay to transaction = list_all (λ part. stays to part.point) transaction.parts

-- the records that stay
abbrev pub staying : (ℕ → Option ℕ) → List Transaction → List Transaction
staying to txns = filter (all_stay to) txns

-- ---- notices

abbrev pub moved_what : (ℕ → Option ℕ) → What → What
moved_what to (what.Fault point) = what.Fault (at to point)
moved_what to (what.Ended point cause) = what.Ended (at to point) cause
moved_what to (what.Reverted point) = what.Reverted (at to point)
moved_what to (what.Cut point by) = what.Cut (at to point) by
moved_what to what.Done = what.Done

abbrev pub moved_notice : (ℕ → Option ℕ) → Notice → Notice
moved_notice to notice = record notice { what = moved_what to notice.what }

-- it names no removed point
abbrev pub what_stays : (ℕ → Option ℕ) → What → Bool
what_stays to (what.Fault point) = stays to point
what_stays to (what.Ended point cause) = stays to point
what_stays to (what.Reverted point) = stays to point
what_stays to (what.Cut point by) = stays to point
what_stays to what.Done = true

abbrev pub notice_stays : (ℕ → Option ℕ) → Notice → Bool
notice_stays to notice = what_stays to notice.what

-- the longest suffix whose items all pass, so that what is kept has no gap
abbrev pub last_passing : {X : Type 0} → (X → Bool) → List X → List X
last_passing test [] = []
last_passing test (x ∷ xs) = if list_all test (x ∷ xs) then x ∷ xs else last_passing test xs

-- how many notices it was sent stays
abbrev pub moved_process : (ℕ → Option ℕ) → Process → Process
moved_process to process = record process { kept = map (moved_notice to) (last_passing (notice_stays to) process.kept) }

-- ---- the whole

-- Leases and reversions stand in the order of their new slots. A record that names a removed point goes, and its number among
-- the done ones. All else stays.
abbrev pub adopted : (ℕ → Option ℕ) → Persistent → Persistent
adopted to d = record d {
  leases = in_order lease_slot (map (moved_lease to) d.leases);
  pending = in_order pending_slot (map (moved_pending to) d.pending);
  txns = map (moved_txn to) (staying to d.txns);
  done = filter (is_kept (staying to d.txns)) d.done;
  processes = map (moved_process to) d.processes;
}
