-- Source: own.
-- What is put back of a state that was kept.
use Rattle.std.specs.Prelude.{◌≡◌, ℕ, ◌==◌, nat_le, Bool, false, not, ◌&&◌, List, map, filter, find, length, is_none}
use Rattle.std.specs.Option.{option_map_or}
use Rattle.boss_model.specs.declared.state.Actuator.{Actuator}
use Rattle.boss_model.specs.declared.state.Pending.{Pending}
use Rattle.boss_model.specs.Records.{Part, Transaction}
use Rattle.boss_model.specs.Sound.{IsSoundPersistent}
use Rattle.boss_model.specs.State.{Persistent}
use Rattle.boss_holdings.specs.Putting.{in_place}
use Rattle.boss_stages.specs.Stages.{Tracked}

-- sound over a plant of so many points
abbrev pub IsSoundOver : ℕ → Persistent → Type 0
IsSoundOver points d = (plant : List Actuator) × (length plant ≡ points) × IsSoundPersistent plant d

-- the part ended, and a reversion of its transaction is under way in its slot
abbrev pub is_played : List Pending → ℕ → Part → Bool
is_played pending txn part = not (is_none part.end) && (nat_le 1 part.priority && (nat_le part.priority 16
    && option_map_or (λ reversion. reversion.txn == txn) (find (in_place part.point part.priority) pending) false))

-- the points of the parts of which this is so
abbrev pub reverting_points : List Pending → ℕ → List Part → List ℕ
reverting_points pending txn parts = map (λ part. part.point) (filter (is_played pending txn) parts)

-- the record of the transaction, which knows its reversions under way
abbrev pub tracked : List Pending → Transaction → Tracked
tracked pending transaction = record { transaction = transaction; reverting = reverting_points pending transaction.txn transaction.parts }
