-- Source: ASHRAE 135, clause 19.2 (the first entry of the Priority_Array that is set).
use Rattle.std.specs.Prelude.{ℕ, ◌+◌, List, [], ◌∷◌, Option, Some, None}
use Rattle.boss_array.specs.declared.array.Entry.{Entry}
use Rattle.boss_array.specs.declared.array.Entry.TheVariants.{Lease, Pending}

-- of slots that begin with this level the first one with a lease: its level, and the lease's key
abbrev pub first_lease : ℕ → List (Option Entry) → Option (ℕ × ℕ)
first_lease level [] = None
first_lease level (Some (Lease key) ∷ slots) = Some (level, key)
first_lease level (Some (Pending key) ∷ slots) = first_lease (level + 1) slots
first_lease level (None ∷ slots) = first_lease (level + 1) slots

-- and the first one with a reversion
abbrev pub first_pending : ℕ → List (Option Entry) → Option (ℕ × ℕ)
first_pending level [] = None
first_pending level (Some (Pending key) ∷ slots) = Some (level, key)
first_pending level (Some (Lease key) ∷ slots) = first_pending (level + 1) slots
first_pending level (None ∷ slots) = first_pending (level + 1) slots
