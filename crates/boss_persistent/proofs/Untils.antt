-- The first moment at which one of some leases ends, as a scan of them finds it.
use Rattle.std.proofs.Common.{◌≡◌, ℕ, ◌+◌, ◌<◌, List, ◌∷◌, length, get_or, drop, min, Option, Some, None, refl, ap, sym, ◌∙◌, arith}
use Rattle.std.specs.Option.{option_map, option_map_or}
use Rattle.std.specs.List.{cons_option}
use Rattle.std.proofs.lemmas.Bool.Decides.{nat_tests}
use Rattle.std.proofs.lemmas.List.{drop_more}
use Rattle.boss_model.specs.Order.{least, lesser}
use Rattle.boss_model.specs.declared.state.Lease.{Lease}
use Rattle.law_effects.specs.Early.{slot_lease}
use Rattle.law_records.specs.Slots.{soonest}
use Rattle.boss_slots.specs.declared.place.Place.{Place}
use Rattle.boss_persistent.specs.Meant.{untils_in}

abbrev pub earliest : List Lease → Option ℕ
earliest leases = option_map (λ lease. lease.until) (least (λ lease. lease.until) leases)

-- the earlier of two moments, of which either may be missing
abbrev pub earlier_of : Option ℕ → Option ℕ → Option ℕ
earlier_of None second = second
earlier_of (Some first) None = Some first
earlier_of (Some first) (Some second) = Some (min first second)

-- one more moment
pub earlier-more : (first : Option ℕ) (moment : ℕ) (rest : Option ℕ) →
    earlier_of first (Some (lesser (λ (u : ℕ). u) moment rest)) ≡ earlier_of (Some (option_map_or (λ (u : ℕ). min u moment) first moment)) rest
earlier-more None moment None = refl
earlier-more None moment (Some later) = grind (arith, nat_tests)
earlier-more (Some first) moment None = refl
earlier-more (Some first) moment (Some later) = grind (arith, nat_tests)

module _ (leases : List Lease) (slots : List Place) (i : ℕ) (slot : Place) (within : i < length slots) (is : slot ≡ get_or slots i slot) where
  -- what is left begins with this slot
  next : untils_in leases (drop i slots)
      ≡ cons_option (option_map (λ (lease : Lease). lease.until) (slot_lease leases slot.point slot.priority)) (untils_in leases (drop (i + 1) slots))
  next = ap (untils_in leases) (drop_more slots i slot within ∙ ap (λ place. place ∷ drop (i + 1) slots) (sym is))

  abbrev with_lease : Option Lease → List ℕ
  with_lease found = cons_option (option_map (λ (lease : Lease). lease.until) found) (untils_in leases (drop (i + 1) slots))

  pub slot-taken : (first : Option ℕ) (lease : Lease) → slot_lease leases slot.point slot.priority ≡ Some lease →
      earlier_of first (soonest (untils_in leases (drop i slots)))
      ≡ earlier_of (Some (option_map_or (λ (u : ℕ). min u lease.until) first lease.until)) (soonest (untils_in leases (drop (i + 1) slots)))
  slot-taken first lease found =
      ap (λ untils. earlier_of first (soonest untils)) (next ∙ ap with_lease found)
      ∙ earlier-more first lease.until (soonest (untils_in leases (drop (i + 1) slots)))

  pub slot-free : (first : Option ℕ) → slot_lease leases slot.point slot.priority ≡ None →
      earlier_of first (soonest (untils_in leases (drop i slots))) ≡ earlier_of first (soonest (untils_in leases (drop (i + 1) slots)))
  slot-free first found = ap (λ untils. earlier_of first (soonest untils)) (next ∙ ap with_lease found)
