-- Source: own.
-- What contracts see of a counter, a slip and a duty.
use Rattle.std.specs.Prelude.{◌≡◌}
use Rattle.atomic_table.specs.Seated.{TableId}

-- A counter: which table it is, and the key that says which requests may lie there
pub record Keyed (K : Type 0) : Type 0 where
  pub table : TableId
  pub key : K

-- What a slip and a duty are about: at which table, and which request
pub record Matter (Q : Type 0) : Type 0 where
  pub table : TableId
  pub request : Q

module _ {K Q : Type 0} where
  -- this request, at this counter
  abbrev pub at_counter : Keyed K → Q → Matter Q
  at_counter counter request = record { table = counter.table; request = request }

  -- it was left or taken at this counter
  abbrev pub IsAt : Keyed K → Matter Q → Type 0
  IsAt counter matter = matter.table ≡ counter.table
