-- Source: own.
-- What is looked for in lists that rise, and whether they do.
use Rattle.std.specs.Prelude.{ℕ, ◌==◌, Bool, false, not, ◌&&◌, List, [], ◌∷◌, drop, find, Option}
use Rattle.std.specs.List.{list_all, zip}
use Rattle.std.specs.Option.{option_map_or}
use Rattle.boss_model.specs.declared.kept.KeptTxn.{KeptTxn}
use Rattle.boss_model.specs.declared.state.Lease.{Lease}
use Rattle.boss_model.specs.declared.state.Pending.{Pending}
use Rattle.boss_model.specs.Order.{comes_before}

-- the first rank stands before the other
abbrev pub precedes : List ℕ → List ℕ → Bool
precedes one other = not (comes_before other one)

-- each item stands before the next
abbrev pub rises : {X : Type 0} → (X → List ℕ) → List X → Bool
rises rank xs = list_all (λ pair. precedes (rank pair.0) (rank pair.1)) (zip xs (drop 1 xs))

-- ---- what stands in a slot, and the record of a transaction

abbrev pub lease_at : List Lease → ℕ → ℕ → Option Lease
lease_at leases point priority = find (λ lease. (lease.point == point) && (lease.priority == priority)) leases

abbrev pub pending_at : List Pending → ℕ → ℕ → Option Pending
pending_at pending point priority = find (λ reversion. (reversion.point == point) && (reversion.priority == priority)) pending

abbrev pub transaction_of : List KeptTxn → ℕ → Option KeptTxn
transaction_of txns txn = find (λ transaction. transaction.txn == txn) txns

abbrev pub kept_rank : KeptTxn → List ℕ
kept_rank transaction = transaction.txn ∷ []

-- the transaction holds the slot
abbrev pub is_held : List Lease → ℕ → ℕ → ℕ → Bool
is_held leases txn point priority = option_map_or (λ lease. lease.txn == txn) (lease_at leases point priority) false

-- a reversion of the transaction is under way in the slot
abbrev pub is_played : List Pending → ℕ → ℕ → ℕ → Bool
is_played pending txn point priority = option_map_or (λ reversion. reversion.txn == txn) (pending_at pending point priority) false
