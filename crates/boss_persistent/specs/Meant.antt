-- Source: own.
use Rattle.std.specs.Prelude.{ℕ, nat_lt, Bool, ◌&&◌, List, [], map, filter_map, Option, Some, None}
use Rattle.std.specs.List.{list_any}
use Rattle.std.specs.Option.{option_map}
use Rattle.boss_model.specs.declared.state.Lease.{Lease}
use Rattle.boss_model.specs.Ends.{is_of, is_owned_by}
use Rattle.boss_model.specs.Records.{Part, Transaction}
use Rattle.boss_model.specs.Renew.{named_parts}
use Rattle.law_effects.specs.Early.{slot_lease}
use Rattle.boss_holdings.specs.Held.{in_slots}
use Rattle.law_records.specs.Slots.{Slot, open_slots}
use Rattle.boss_slots.specs.declared.place.Place.{Place}
use Rattle.boss_persistent.specs.declared.lasting.Which.{Which}
use Rattle.boss_persistent.specs.declared.lasting.Which.TheVariants as which

-- the lease is one of those that are to end
abbrev pub is_meant : Which → Lease → Bool
is_meant (which.OfTransaction txn) lease = is_of txn lease
is_meant (which.OfProcess owner) lease = is_owned_by owner lease

abbrev pub place_of : Slot → Place
place_of slot = record { point = slot.0; priority = slot.1 }

-- the slots of the parts without an end
abbrev pub open_places : List Part → List Place
open_places parts = map place_of (open_slots parts)

-- the slots of a transaction's parts without an end that are on these points, or of all where none is named
abbrev pub meant_places : List ℕ → Option Transaction → List Place
meant_places points None = []
meant_places points (Some t) = open_places (named_parts points t.parts)

-- a lease in one of these slots ends before `until`
abbrev pub some_shorter : List Place → ℕ → List Lease → Bool
some_shorter places until leases = list_any (λ lease. in_slots places lease && nat_lt lease.until until) leases

-- the ends of the leases in these slots, in the order of the slots
abbrev pub untils_in : List Lease → List Place → List ℕ
untils_in leases places = filter_map (λ place. option_map (λ lease. lease.until) (slot_lease leases place.point place.priority)) places
