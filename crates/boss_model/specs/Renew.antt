-- Source: BOSS (Dawson-Haggerty et al., NSDI 2013), transaction manager (leases are renewed); which parts, and
-- refusals, own.
use Rattle.std.specs.Prelude.{ℕ, ◌+◌, ◌==◌, max, ℤ, unsigned_abs, Bool, not, ◌&&◌, ◌||◌, if◌then◌else◌, List, [], ◌∷◌, length, map, filter, find, filter_map, position, Option, Some, None}
use Rattle.std.specs.Option.{option_map}
use Rattle.std.specs.List.{list_any}
use Rattle.boss_model.specs.declared.answer.Answer.TheVariants as answer
use Rattle.boss_model.specs.declared.answer.Refusal.{Refusal}
use Rattle.boss_model.specs.declared.answer.Refusal.TheVariants as refusal
use Rattle.boss_model.specs.Groups.{conclude}
use Rattle.boss_model.specs.Lists.{member, first_some}
use Rattle.boss_model.specs.Outcomes.{Outcome, unless}
use Rattle.boss_model.specs.Records.{End, Part, Transaction}
use Rattle.boss_model.specs.State.{Lease, Persistent}
use Rattle.boss_model.specs.Submit.{is_length, first_until}

abbrev pub transaction_of : List Transaction → ℕ → Option Transaction
transaction_of txns txn = find (λ transaction. transaction.txn == txn) txns

-- ---- what is refused

-- the transaction of this number has to be kept, and to be the process's own
abbrev pub if_own : ℕ → (Transaction → Option Refusal) → Option Transaction → Option Refusal
if_own owner refused None = Some refusal.UnknownTxn
if_own owner refused (Some transaction) = if transaction.owner == owner then refused transaction else Some refusal.NotYours

abbrev pub part_on : List Part → ℕ → Option Part
part_on parts point = find (λ part. part.point == point) parts

abbrev pub wrote : List Part → ℕ → Bool
wrote parts point = list_any (λ part. part.point == point) parts

-- the parts that are meant: those on the named points, in the order of their names, or all where none is named
abbrev pub named_parts : List ℕ → List Part → List Part
named_parts [] parts = parts
named_parts (point ∷ points) parts = filter_map (part_on parts) (point ∷ points)

abbrev pub ended_at : ℕ → End → Refusal
ended_at n end = refusal.Ended end.cause end.at n

abbrev pub renew_refused : ℕ → ℕ → ℤ → List ℕ → ℕ → Persistent → Option Refusal
renew_refused owner txn length points n d = first_some (
    (if is_length length then None else Some (refusal.BadLease 0)) ∷
    if_own owner (λ transaction. first_some (
    option_map refusal.NotInTxn (position (λ point. not (wrote transaction.parts point)) points) ∷
    option_map (ended_at n) (first_some (map (λ part. part.end) (named_parts points transaction.parts))) ∷ []))
    (transaction_of d.txns txn) ∷ [])

-- ---- what is done

abbrev pub is_empty : List ℕ → Bool
is_empty points = length points == 0

abbrev pub is_meant : ℕ → List ℕ → Lease → Bool
is_meant txn points lease = (lease.txn == txn) && (is_empty points || member lease.point points)

-- a renewal never makes a lease shorter
abbrev pub extended : ℕ → Lease → Lease
extended until lease = record lease { until = max lease.until until }

abbrev pub extended_if : (Lease → Bool) → ℕ → Lease → Lease
extended_if meant until lease = if meant lease then extended until lease else lease

abbrev pub renewed : ℕ → ℤ → List ℕ → ℕ → Persistent → Persistent
renewed txn length points n d =
    conclude n [] d (record d { leases = map (extended_if (is_meant txn points) (n + unsigned_abs length)) d.leases })

abbrev pub renew : ℕ → ℕ → ℤ → List ℕ → ℕ → Persistent → Outcome
renew owner txn length points n d = unless (renew_refused owner txn length points n d)
    (answer.Renewed txn (first_until (filter (is_meant txn points) (renewed txn length points n d).leases)))
    (renewed txn length points n d)
