-- The leases in the slots of a transaction's open parts are those that a command on the transaction means.
use Rattle.std.proofs.Common.{◌≡◌, ℕ, ◌≤◌, ◌<◌, ◌==◌, List, [], ◌∷◌, length, map, nat_lt, Bool, true, false, ◌&&◌, ◌||◌, cond, Option, Some, None, is_some, refl, ap, sym, ◌∙◌, subst, vec_capacity, arith}
use Rattle.std.specs.Option.{option_map, option_map_or}
use Rattle.std.specs.List.{filter, cons_option, AllByRecursion}
use Rattle.std.proofs.lemmas.Bool.Decides.{nat_tests}
use Rattle.std.proofs.lemmas.List.{length-map}
use Rattle.boss_model.specs.declared.notice.Cause.{Cause}
use Rattle.boss_model.specs.declared.state.Actuator.{Actuator}
use Rattle.boss_model.specs.declared.state.Lease.{Lease}
use Rattle.boss_model.specs.Ends.{is_of, end_leases}
use Rattle.boss_model.specs.Happenings.{Happening}
use Rattle.boss_model.specs.Limits.{most_writes}
use Rattle.boss_model.specs.Lists.{member}
use Rattle.boss_model.specs.Records.{Transaction}
use Rattle.boss_model.specs.Renew.{transaction_of, named_parts, is_empty, is_meant, extended, extended_if}
use Rattle.boss_model.specs.Sound.{IsSoundPersistent}
use Rattle.boss_model.specs.State.{Persistent}
use Rattle.boss_model.specs.Submit.{first_until}
use Rattle.law_time.proofs.Filters.{any-map, each-mapped}
use Rattle.law_time.proofs.Orders.{each-map}
use Rattle.law_time.proofs.Slots.{IsSameLease}
use Rattle.law_effects.specs.Changes.{lengthens}
use Rattle.law_effects.specs.Early.{slot_lease}
use Rattle.law_effects.proofs.Changed.{and-true}
use Rattle.law_records.specs.Slots.{Slot, open_slots, untils_at, soonest}
use Rattle.law_records.specs.Slots.{in_slots as in_pairs}
use Rattle.law_records.proofs.Ending.{map-alike, ends-alike}
use Rattle.law_records.proofs.Firsts.{first-by}
use Rattle.law_records.proofs.Known.{slots-known, slots-few}
use Rattle.law_records.proofs.Lookups.{any-alike}
use Rattle.law_records.proofs.Recorded.{each-recorded}
use Rattle.law_records.proofs.Renewals.{extended-rising, meant-by-slots}
use Rattle.boss_slots.specs.declared.place.Place.{Place}
use Rattle.boss_holdings.specs.Held.{in_slots}
use Rattle.boss_stages.specs.Stages.{Stages, number}
use Rattle.boss_booking.specs.Books.{reverts_on}
use Rattle.boss_persistent.specs.declared.lasting.Lasting.{Lasting}
use Rattle.boss_persistent.specs.Lasting.{IsKept}
use Rattle.boss_persistent.specs.Meant.{place_of, meant_places, some_shorter, untils_in}

-- ---- slots as places

pub in-places : (slots : List Slot) (lease : Lease) → in_slots (map place_of slots) lease ≡ in_pairs slots lease
in-places slots lease = any-map (λ (place : Place). (lease.point == place.point) && (lease.priority == place.priority)) place_of slots

abbrev pair_of : Place → Slot
pair_of place = (place.point, place.priority)

in-pairs : (places : List Place) (lease : Lease) → in_slots places lease ≡ in_pairs (map pair_of places) lease
in-pairs places lease = sym (any-map (λ (slot : Slot). (lease.point == slot.0) && (lease.priority == slot.1)) pair_of places)

untils-in : (leases : List Lease) (places : List Place) → untils_at leases (map pair_of places) ≡ untils_in leases places
untils-in leases [] = refl
untils-in leases (place ∷ places) = ap (cons_option (option_map (λ (lease : Lease). lease.until) (slot_lease leases place.point place.priority))) (untils-in leases places)

-- ---- a slot of a plant of so many points

abbrev pub IsPlace : ℕ → Place → Type 0
IsPlace points place = (place.point < points) × (1 ≤ place.priority) × (place.priority ≤ 16)

module _ (plant : List Actuator) (d : Persistent) (sound : IsSoundPersistent plant d) (txn : ℕ) (points : List ℕ) where
  abbrev pub places : List Place
  places = meant_places points (transaction_of d.txns txn)

  pub places-known : AllByRecursion (IsPlace (length plant)) (meant_places points (transaction_of d.txns txn))
  places-known = by (transaction_of d.txns txn) refl
    where
      by : (found : Option Transaction) → transaction_of d.txns txn ≡ found → AllByRecursion (IsPlace (length plant)) (meant_places points found)
      by None none = tt
      by (Some t) found = each-mapped (IsPlace (length plant)) place_of (open_slots (named_parts points t.parts)) (slots-known plant d sound txn t found points)

  pub places-few : length points ≤ most_writes → length (meant_places points (transaction_of d.txns txn)) ≤ most_writes
  places-few few = by (transaction_of d.txns txn) refl
    where
      by : (found : Option Transaction) → transaction_of d.txns txn ≡ found → length (meant_places points found) ≤ most_writes
      by None none = omega arith
      by (Some t) found = omega (arith, slots-few plant d sound txn t found points few, length-map (open_slots (named_parts points t.parts)) place_of)

  -- wherever they are written down
  pub places-within : (count : ℕ) → length plant ≡ count → (given : List Place) → given ≡ meant_places points (transaction_of d.txns txn) → AllByRecursion (IsPlace count) given
  places-within count same given is = subst (AllByRecursion (IsPlace count)) (sym is) (subst (λ n. AllByRecursion (IsPlace n) places) same places-known)

  -- a lease is meant exactly where it is in one of these slots
  pub meant : AllByRecursion (λ lease. is_meant txn points lease ≡ in_slots (meant_places points (transaction_of d.txns txn)) lease) d.leases
  meant = by (transaction_of d.txns txn) refl
    where
      -- a transaction that is not kept has no lease
      other : (lease : Lease) → transaction_of d.txns txn ≡ None → is_some (transaction_of d.txns lease.txn) ≡ true → (own : Bool) → (lease.txn == txn) ≡ own → own ≡ false
      other lease none kept false is = refl
      other lease none kept true is =
          let same : lease.txn ≡ txn = grind (arith, nat_tests) in
          sym kept ∙ ap (λ k. is_some (transaction_of d.txns k)) same ∙ ap is_some none

      by : (found : Option Transaction) → transaction_of d.txns txn ≡ found → AllByRecursion (λ lease. is_meant txn points lease ≡ in_slots (meant_places points found) lease) d.leases
      by None none = each-map (λ (lease : Lease). is_some (transaction_of d.txns lease.txn) ≡ true) (λ lease. is_meant txn points lease ≡ false)
          (λ lease kept. ap (λ own. own && (is_empty points || member lease.point points)) (other lease none kept (lease.txn == txn) refl)) d.leases (each-recorded plant d sound)
      by (Some t) found = each-map (λ lease. is_meant txn points lease ≡ in_pairs (open_slots (named_parts points t.parts)) lease)
          (λ lease. is_meant txn points lease ≡ in_slots (map place_of (open_slots (named_parts points t.parts))) lease)
          (λ lease is. is ∙ sym (in-places (open_slots (named_parts points t.parts)) lease)) d.leases (meant-by-slots plant d sound txn t found points)

  pub extended-alike : (until : ℕ) →
      map (extended_if (is_meant txn points) until) d.leases ≡ map (extended_if (in_slots (meant_places points (transaction_of d.txns txn))) until) d.leases
  extended-alike until = map-alike (extended_if (is_meant txn points) until) (extended_if (in_slots places) until) d.leases
      (each-map (λ lease. is_meant txn points lease ≡ in_slots places lease) (λ lease. extended_if (is_meant txn points) until lease ≡ extended_if (in_slots places) until lease)
      (λ lease same. ap (λ b. cond b (extended until lease) lease) same) d.leases meant)

  pub lengthens-alike : (until : ℕ) → lengthens txn points until d.leases ≡ some_shorter (meant_places points (transaction_of d.txns txn)) until d.leases
  lengthens-alike until = any-alike (λ lease. is_meant txn points lease && nat_lt lease.until until) (λ lease. in_slots places lease && nat_lt lease.until until) d.leases
      (each-map (λ lease. is_meant txn points lease ≡ in_slots places lease)
      (λ lease. (is_meant txn points lease && nat_lt lease.until until) ≡ (in_slots places lease && nat_lt lease.until until))
      (λ lease same. ap (λ b. b && nat_lt lease.until until) same) d.leases meant)

  -- a lease that lasts longer stays in its slot, and the transaction's
  same-lease : (until : ℕ) (lease : Lease) → IsSameLease lease (extended_if (is_meant txn points) until lease)
  same-lease until lease = by (is_meant txn points lease)
    where
      by : (b : Bool) → IsSameLease lease (cond b (extended until lease) lease)
      by true = refl
      by false = refl

  pub first-alike : (until : ℕ) → first_until (filter (is_meant txn points) (map (extended_if (is_meant txn points) until) d.leases))
      ≡ option_map_or (λ (moment : ℕ). moment) (soonest (untils_in (map (extended_if (is_meant txn points) until) d.leases) (meant_places points (transaction_of d.txns txn)))) 0
  first-alike until =
      let test = is_meant txn points in
      let longer = extended_if (is_meant txn points) until in
      let slots = map pair_of places in
      let agree = each-mapped (λ lease. test lease ≡ in_pairs slots lease) longer d.leases
      (each-map (λ lease. test lease ≡ in_slots places lease) (λ lease. test (longer lease) ≡ in_pairs slots (longer lease))
      (λ lease is. ap test (same-lease until lease) ∙ is ∙ in-pairs places lease ∙ sym (ap (in_pairs slots) (same-lease until lease))) d.leases meant) in
      first-by test slots (map longer d.leases) (extended-rising test until d.leases sound.lease_slots) agree
      ∙ ap (λ untils. option_map_or (λ (moment : ℕ). moment) (soonest untils) 0) (untils-in (map longer d.leases) places)

-- ---- all leases of the transaction

module _ (plant : List Actuator) (d : Persistent) (sound : IsSoundPersistent plant d) (txn : ℕ) where
  pub own : AllByRecursion (λ lease. is_of txn lease ≡ in_slots (meant_places [] (transaction_of d.txns txn)) lease) d.leases
  own = each-map (λ lease. is_meant txn [] lease ≡ in_slots (meant_places [] (transaction_of d.txns txn)) lease)
      (λ lease. is_of txn lease ≡ in_slots (meant_places [] (transaction_of d.txns txn)) lease)
      (λ lease is. sym (and-true (lease.txn == txn)) ∙ is) d.leases (meant plant d sound txn [])

  pub ends-by-places : (why : Cause) (n : ℕ) (first : List Happening) →
      end_leases (is_of txn) why n first d ≡ end_leases (in_slots (meant_places [] (transaction_of d.txns txn))) why n first d
  ends-by-places why n first = ends-alike (is_of txn) (in_slots (meant_places [] (transaction_of d.txns txn))) why n first d own

-- ---- the records, where leases alone changed

pub kept-longer : (l k : Lasting) → k.stages ≡ l.stages → k.holdings.pending ≡ l.holdings.pending → k.holdings.points ≡ l.holdings.points → most_writes ≤ vec_capacity k.slots → IsKept l → IsKept k
kept-longer l k stages pending points slots kept = record {
  stands = record {
    txns = refl;
    done = refl;
    reverting = subst (λ (s : Stages). AllByRecursion (λ tracked. (point : ℕ) → member point tracked.reverting ≡ reverts_on (number tracked) point k.holdings.pending) s.kept) (sym stages)
        (subst (λ now. AllByRecursion (λ tracked. (point : ℕ) → member point tracked.reverting ≡ reverts_on (number tracked) point now) l.stages.kept) (sym pending) kept.stands.reverting);
  };
  slots = slots;
  records = omega (arith, kept.records, points, ap (λ (s : Stages). s.room) stages);
}
