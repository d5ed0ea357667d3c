-- Leases that are made to last longer slot by slot.
use Rattle.std.proofs.Common.{◌≡◌, ℕ, ◌+◌, ◌<◌, ◌==◌, List, [], ◌∷◌, length, map, take, get_or, nat_lt, Bool, true, false, ◌&&◌, ◌||◌, cond, refl, ap, sym, ◌∙◌}
use Rattle.std.specs.Option.{option_map_or}
use Rattle.std.specs.List.{list_any}
use Rattle.std.proofs.lemmas.List.Folds.{list_any_more}
use Rattle.boss_model.specs.declared.state.Lease.{Lease}
use Rattle.boss_model.specs.Renew.{extended, extended_if}
use Rattle.boss_model.specs.Sound.{Rising}
use Rattle.boss_model.specs.State.{lease_slot}
use Rattle.law_time.proofs.Filters.{each-always}
use Rattle.law_effects.specs.Early.{slot_lease}
use Rattle.law_records.proofs.Ending.{map-alike}
use Rattle.law_records.proofs.Lookups.{or-false, any-alike, any-at}
use Rattle.law_records.proofs.Renewals.{extended-rising}
use Rattle.law_records.proofs.Turns.{extended-both, shorter-both}
use Rattle.boss_slots.specs.declared.place.Place.{Place}
use Rattle.boss_holdings.specs.Held.{in_slots}
use Rattle.boss_persistent.specs.Meant.{some_shorter}

abbrev is_in : Place → Lease → Bool
is_in slot lease = (lease.point == slot.point) && (lease.priority == slot.priority)

swapped : (a b : Bool) → (a && b) ≡ (b && a)
swapped true true = refl
swapped true false = refl
swapped false true = refl
swapped false false = refl

either : (a b : Bool) → (a || b) ≡ (b || a)
either true true = refl
either true false = refl
either false true = refl
either false false = refl

module _ (slots : List Place) (i : ℕ) (slot : Place) (within : i < length slots) (is : slot ≡ get_or slots i slot) where
  -- the next slot is one more
  in-more : (lease : Lease) → in_slots (take (i + 1) slots) lease ≡ (in_slots (take i slots) lease || in_slots (slot ∷ []) lease)
  in-more lease =
      list_any_more (λ (place : Place). is_in place lease) slots i slot within
      ∙ ap (λ b. in_slots (take i slots) lease || b) (ap (λ place. is_in place lease) (sym is) ∙ sym (or-false (is_in slot lease)))

  module _ (until : ℕ) (leases : List Lease) where
    pub extended-more : map (extended_if (in_slots (slot ∷ [])) until) (map (extended_if (in_slots (take i slots)) until) leases)
        ≡ map (extended_if (in_slots (take (i + 1) slots)) until) leases
    extended-more =
        extended-both (in_slots (take i slots)) (in_slots (slot ∷ [])) until leases
        ∙ map-alike (extended_if (λ lease. in_slots (take i slots) lease || in_slots (slot ∷ []) lease) until) (extended_if (in_slots (take (i + 1) slots)) until) leases
        (each-always _ (λ lease. ap (λ b. cond b (extended until lease) lease) (sym (in-more lease))) leases)

    pub longer-more : Rising lease_slot leases →
        (option_map_or (λ lease. nat_lt lease.until until) (slot_lease (map (extended_if (in_slots (take i slots)) until) leases) slot.point slot.priority) false
        || some_shorter (take i slots) until leases) ≡ some_shorter (take (i + 1) slots) until leases
    longer-more rising =
        let first = in_slots (take i slots) in
        let next = in_slots (slot ∷ []) in
        let later = map (extended_if (in_slots (take i slots)) until) leases in
        let found = sym (any-at (λ lease. nat_lt lease.until until) slot.point slot.priority later (extended-rising first until leases rising)) in
        let turned = any-alike (λ lease. nat_lt lease.until until && is_in slot lease) (λ lease. next lease && nat_lt lease.until until) later
        (each-always _ (λ lease. swapped (nat_lt lease.until until) (is_in slot lease) ∙ ap (λ b. b && nat_lt lease.until until) (sym (or-false (is_in slot lease)))) later) in
        ap (λ b. b || some_shorter (take i slots) until leases) (found ∙ turned)
        ∙ either (list_any (λ lease. next lease && nat_lt lease.until until) later) (some_shorter (take i slots) until leases)
        ∙ shorter-both first next until leases
        ∙ any-alike (λ lease. (first lease || next lease) && nat_lt lease.until until) (λ lease. in_slots (take (i + 1) slots) lease && nat_lt lease.until until) leases
        (each-always _ (λ lease. ap (λ b. b && nat_lt lease.until until) (sym (in-more lease))) leases)

-- no slot, no lease that is longer

pub extended-none : (until : ℕ) (leases : List Lease) → leases ≡ map (extended_if (in_slots []) until) leases
extended-none until [] = refl
extended-none until (lease ∷ leases) = ap (λ others. lease ∷ others) (extended-none until leases)

pub shorter-none : (until : ℕ) (leases : List Lease) → false ≡ some_shorter [] until leases
shorter-none until [] = refl
shorter-none until (lease ∷ leases) = shorter-none until leases
