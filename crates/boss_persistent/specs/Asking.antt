-- Source: own.
use Rattle.std.specs.Prelude.{◌≡◌, ℕ, Bool, true, false, List}
use Rattle.std.specs.Option.{option_map_or}
use Rattle.boss_model.specs.declared.state.Lease.{Lease}
use Rattle.boss_model.specs.Records.{Part}
use Rattle.boss_model.specs.Renew.{part_on}
use Rattle.law_records.specs.Slots.{IsSlot, is_open, slot_of_part}
use Rattle.law_effects.specs.Early.{open_still}

-- a part without an end is of a slot of one of so many points
abbrev pub HasSlot : ℕ → Part → Type 0
HasSlot points part = is_open part ≡ true → IsSlot points (slot_of_part part)

-- there is a part on the point, which has no end and gets none up to n
abbrev pub is_open_on : ℕ → List Lease → List Part → ℕ → Bool
is_open_on n leases parts point = option_map_or (open_still n leases) (part_on parts point) false
