-- What a renewal makes of the leases of a transaction, by the slots of the parts that it means.
use Rattle.std.proofs.Common.{◌≡◌, ℕ, ◌+◌, nat_lt, ℤ, unsigned_abs, List, map, Bool, true, false, ◌&&◌, cond, Some, refl, ap, sym, ◌∙◌}
use Rattle.std.specs.Option.{option_map_or}
use Rattle.std.specs.List.{filter, AllByRecursion}
use Rattle.boss_model.specs.declared.state.Actuator.{Actuator}
use Rattle.boss_model.specs.declared.state.Lease.{Lease}
use Rattle.boss_model.specs.Ends.{is_of}
use Rattle.boss_model.specs.Records.{Transaction}
use Rattle.boss_model.specs.Renew.{transaction_of, named_parts, is_meant, extended, extended_if, renewed}
use Rattle.boss_model.specs.Sound.{Rising, IsSoundPersistent}
use Rattle.boss_model.specs.State.{lease_slot, Persistent}
use Rattle.boss_model.specs.Submit.{first_until}
use Rattle.law_time.proofs.Filters.{each-always, each-mapped}
use Rattle.law_time.proofs.Orders.{each-map}
use Rattle.law_time.proofs.Slots.{IsSameLease, Rising-same, slots-same}
use Rattle.law_effects.specs.Changes.{lengthens}
use Rattle.law_effects.proofs.Parts.{renewed-is}
use Rattle.law_records.specs.Slots.{Slot, open_slots, in_slots, some_shorter, untils_at, soonest}
use Rattle.law_records.proofs.Ending.{map-alike}
use Rattle.law_records.proofs.Firsts.{first-by}
use Rattle.law_records.proofs.Lookups.{any-alike}
use Rattle.law_records.proofs.Named.{meant-in}
use Rattle.law_records.proofs.Own.{own, leases-by-parts}

-- a renewal changes the end of a lease alone
extended-alike : (meant : Lease → Bool) (until : ℕ) (lease : Lease) → IsSameLease lease (extended_if meant until lease)
extended-alike meant until lease = by (meant lease)
  where
    by : (b : Bool) → IsSameLease lease (cond b (extended until lease) lease)
    by true = refl
    by false = refl

-- and so no lease comes to stand elsewhere
pub extended-rising : (meant : Lease → Bool) (until : ℕ) (leases : List Lease) → Rising lease_slot leases → Rising lease_slot (map (extended_if meant until) leases)
extended-rising meant until leases rising = Rising-same lease_slot leases (map (extended_if meant until) leases)
    (slots-same (extended_if meant until) leases (each-always (λ l. IsSameLease l (extended_if meant until l)) (extended-alike meant until) leases)) rising

module _ (plant : List Actuator) (d : Persistent) (sound : IsSoundPersistent plant d) (txn : ℕ) (t : Transaction) (found : transaction_of d.txns txn ≡ Some t) (points : List ℕ) where
  abbrev slots : List Slot
  slots = open_slots (named_parts points t.parts)

  pub meant-by-slots : AllByRecursion (λ l. is_meant txn points l ≡ in_slots (open_slots (named_parts points t.parts)) l) d.leases
  meant-by-slots = each-map (λ l. is_of txn l ≡ in_slots (open_slots t.parts) l) (λ l. is_meant txn points l ≡ in_slots (open_slots (named_parts points t.parts)) l)
      (λ l is. meant-in txn t.parts (own plant d sound txn t found).points l is points) d.leases (leases-by-parts plant d sound txn t found)

  longer-alike : (until : ℕ) → map (extended_if (is_meant txn points) until) d.leases ≡ map (extended_if (in_slots (open_slots (named_parts points t.parts))) until) d.leases
  longer-alike until =
      let there = in_slots (open_slots (named_parts points t.parts)) in
      map-alike (extended_if (is_meant txn points) until) (extended_if there until) d.leases
      (each-map (λ l. is_meant txn points l ≡ there l) (λ l. extended_if (is_meant txn points) until l ≡ extended_if there until l)
      (λ l same. ap (λ b. cond b (extended until l) l) same) d.leases meant-by-slots)

  pub renewed-by-slots : (asked : ℤ) (n : ℕ) → renewed txn asked points n d
      ≡ record d { now = n; leases = map (extended_if (in_slots (open_slots (named_parts points t.parts))) (n + unsigned_abs asked)) d.leases }
  renewed-by-slots asked n = renewed-is plant n d sound txn asked points ∙ ap (λ ls. record d { now = n; leases = ls }) (longer-alike (n + unsigned_abs asked))

  pub longer-by-slots : (until : ℕ) → lengthens txn points until d.leases ≡ some_shorter (open_slots (named_parts points t.parts)) until d.leases
  longer-by-slots until =
      let there = in_slots (open_slots (named_parts points t.parts)) in
      any-alike (λ l. is_meant txn points l && nat_lt l.until until) (λ l. there l && nat_lt l.until until) d.leases
      (each-map (λ l. is_meant txn points l ≡ there l) (λ l. (is_meant txn points l && nat_lt l.until until) ≡ (there l && nat_lt l.until until))
      (λ l same. ap (λ b. b && nat_lt l.until until) same) d.leases meant-by-slots)

  pub first-by-slots : (asked : ℤ) (n : ℕ) → first_until (filter (is_meant txn points) (renewed txn asked points n d).leases)
      ≡ option_map_or (λ (u : ℕ). u) (soonest (untils_at (renewed txn asked points n d).leases (open_slots (named_parts points t.parts)))) 0
  first-by-slots asked n =
      let meant = is_meant txn points in
      let until = n + unsigned_abs asked in
      let there = in_slots (open_slots (named_parts points t.parts)) in
      let longer = map (extended_if meant until) d.leases in
      let rising = extended-rising meant until d.leases sound.lease_slots in
      let agree = each-mapped (λ l. meant l ≡ there l) (extended_if meant until) d.leases
      (each-map (λ l. meant l ≡ there l) (λ l. meant (extended_if meant until l) ≡ there (extended_if meant until l))
      (λ l is. ap meant (extended-alike meant until l) ∙ is ∙ sym (ap there (extended-alike meant until l))) d.leases meant-by-slots) in
      let same : (renewed txn asked points n d).leases ≡ longer = ap (λ x. x.leases) (renewed-is plant n d sound txn asked points) in
      ap (λ ls. first_until (filter meant ls)) same
      ∙ first-by meant (open_slots (named_parts points t.parts)) longer rising agree
      ∙ sym (ap (λ ls. option_map_or (λ (u : ℕ). u) (soonest (untils_at ls (open_slots (named_parts points t.parts)))) 0) same)
