-- Source: own.
-- The least of some points.
use Rattle.std.specs.Prelude.{ℕ, Bool, not, List, map, filter, flat_map, Option, Some, None}
use Rattle.boss_model.specs.Lists.{member}
use Rattle.boss_model.specs.Order.{lesser, least}
use Rattle.boss_model.specs.Records.{Transaction}
use Rattle.law_adoption.specs.Renumber.{stays}

-- the lesser of two points, either of which may be missing
abbrev pub lesser_of : Option ℕ → Option ℕ → Option ℕ
lesser_of None other = other
lesser_of (Some one) other = Some (lesser (λ point. point) one other)

-- the least of those that are removed
abbrev pub least_removed : (ℕ → Option ℕ) → List ℕ → Option ℕ
least_removed to points = least (λ point. point) (filter (λ point. not (stays to point)) points)

-- the least removed one that the records of transactions which are not done name
abbrev pub least_used : (ℕ → Option ℕ) → List ℕ → List Transaction → Option ℕ
least_used to done txns = least_removed to
    (flat_map (λ transaction. map (λ part. part.point) transaction.parts) (filter (λ transaction. not (member transaction.txn done)) txns))

-- the least one of the items that fail a test
abbrev pub least_failing : {X : Type 0} → (X → ℕ) → (X → Bool) → List X → Option ℕ
least_failing point test items = least (λ p. p) (map point (filter (λ item. not (test item)) items))
