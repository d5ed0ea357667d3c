-- The slots of open parts are slots of the plant, and few.
use Rattle.std.proofs.Common.{◌≡◌, ℕ, ◌≤◌, ◌==◌, List, [], ◌∷◌, length, true, ◌&&◌, Option, Some, None, sym, ◌∙◌, arith}
use Rattle.std.specs.List.{filter, filter_map, cons_option, AllByRecursion}
use Rattle.std.proofs.lemmas.Bool.Decides.{nat_tests}
use Rattle.std.proofs.lemmas.List.{length-map}
use Rattle.boss_model.specs.declared.state.Actuator.{Actuator}
use Rattle.boss_model.specs.Limits.{most_writes}
use Rattle.boss_model.specs.Records.{Part, Transaction}
use Rattle.boss_model.specs.Renew.{transaction_of, part_on, named_parts}
use Rattle.boss_model.specs.Sound.{IsLease, IsPart, IsSoundPersistent}
use Rattle.boss_model.specs.State.{Persistent}
use Rattle.law_time.proofs.Filters.{each-mapped, few-filter}
use Rattle.law_time.proofs.Orders.{each-map}
use Rattle.law_effects.proofs.Found.{any-some, named-each}
use Rattle.law_records.specs.Slots.{is_open, slot_of_part, open_slots, IsSlot}
use Rattle.law_records.proofs.Counts.{each-kept}
use Rattle.law_records.proofs.Own.{own, parts}
use Rattle.law_records.proofs.Reverting.{level-in}

chosen-few : (ps : List Part) (points : List ℕ) → length (filter_map (part_on ps) points) ≤ length points
chosen-few ps [] = omega (arith)
chosen-few ps (point ∷ points) = by (part_on ps point) (chosen-few ps points)
  where
    by : (found : Option Part) → length (filter_map (part_on ps) points) ≤ length points → length (cons_option found (filter_map (part_on ps) points)) ≤ length (point ∷ points)
    by None rest = omega (arith)
    by (Some p) rest = omega (arith)

module _ (plant : List Actuator) (d : Persistent) (sound : IsSoundPersistent plant d) (txn : ℕ) (t : Transaction) (found : transaction_of d.txns txn ≡ Some t) where
  part-known : (part : Part) → IsPart plant d.now txn d.leases part → is_open part ≡ true → IsSlot (length plant) (slot_of_part part)
  part-known part is opens =
      let l = any-some (IsLease plant d.now) (λ lease. (lease.txn == txn) && ((lease.point == part.point) && (lease.priority == part.priority))) d.leases sound.leases
      (sym is.open_part ∙ opens) in
      let test : ((l.0.txn == txn) && ((l.0.point == part.point) && (l.0.priority == part.priority))) ≡ true = l.1 in
      let same : l.0.priority ≡ part.priority = grind (arith, nat_tests) in
      let level = level-in l.0.priority l.2.level in
      (is.known, (let least : 1 ≤ l.0.priority = level.0 in omega (arith, same)), (let most : l.0.priority ≤ 16 = level.1 in omega (arith, same)))

  pub slots-known : (points : List ℕ) → AllByRecursion (IsSlot (length plant)) (open_slots (named_parts points t.parts))
  slots-known points = each-mapped (IsSlot (length plant)) slot_of_part (filter is_open (named_parts points t.parts))
      (each-kept (λ part. IsSlot (length plant) (slot_of_part part)) is_open (named_parts points t.parts)
      (named-each (λ part. is_open part ≡ true → IsSlot (length plant) (slot_of_part part)) points t.parts
      (each-map (IsPart plant d.now txn d.leases) (λ part. is_open part ≡ true → IsSlot (length plant) (slot_of_part part)) part-known t.parts (parts plant d sound txn t found))))

  named-few : (points : List ℕ) → length points ≤ most_writes → length (named_parts points t.parts) ≤ most_writes
  named-few [] few = (own plant d sound txn t found).few_parts
  named-few (point ∷ points) few = omega (arith, few, chosen-few t.parts (point ∷ points))

  pub slots-few : (points : List ℕ) → length points ≤ most_writes → length (open_slots (named_parts points t.parts)) ≤ most_writes
  slots-few points few = omega (arith, named-few points few, few-filter is_open (named_parts points t.parts), length-map (filter is_open (named_parts points t.parts)) slot_of_part)
