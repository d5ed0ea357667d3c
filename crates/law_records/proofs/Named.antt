-- The leases that a renewal means, by the parts on the points that are named.
use Rattle.std.proofs.Common.{◌≡◌, ℕ, ◌==◌, List, [], ◌∷◌, map, Bool, true, false, ◌&&◌, ◌||◌, cond, Option, Some, None, refl, ap, sym, ◌∙◌, arith}
use Rattle.std.specs.Option.{option_map_or}
use Rattle.std.specs.List.{filter_map, cons_option, list_any}
use Rattle.std.proofs.lemmas.Bool.Decides.{nat_tests}
use Rattle.boss_model.specs.declared.state.Lease.{Lease}
use Rattle.boss_model.specs.Ends.{is_of}
use Rattle.boss_model.specs.Lists.{member}
use Rattle.boss_model.specs.Records.{Part}
use Rattle.boss_model.specs.Renew.{part_on, named_parts, is_empty, is_meant}
use Rattle.boss_model.specs.Sound.{Distinct}
use Rattle.law_time.proofs.Filters.{each-always}
use Rattle.law_time.proofs.Orders.{each-map}
use Rattle.law_effects.proofs.Changed.{and-true}
use Rattle.law_records.specs.Slots.{open_slots, in_slots}
use Rattle.law_records.proofs.Counts.{distinct-each}
use Rattle.law_records.proofs.Firsts.{any-and}
use Rattle.law_records.proofs.Lookups.{or-false, any-none, any-alike}
use Rattle.law_records.proofs.Own.{is_at, in-open}

-- a point is that of one part at most, so the first part on it is the only one
on-point : (g : Part → Bool) (point : ℕ) (parts : List Part) → Distinct (map (λ part. part.point) parts) →
    option_map_or g (part_on parts point) false ≡ list_any (λ part. (part.point == point) && g part) parts
on-point g point [] distinct = refl
on-point g point (p ∷ ps) distinct = by (p.point == point) refl (on-point g point ps distinct.1)
  where
    by : (here : Bool) → (p.point == point) ≡ here → option_map_or g (part_on ps point) false ≡ list_any (λ part. (part.point == point) && g part) ps →
        option_map_or g (cond here (Some p) (part_on ps point)) false ≡ ((here && g p) || list_any (λ part. (part.point == point) && g part) ps)
    by true is rest =
        let none : list_any (λ part. (part.point == point) && g part) ps ≡ false = any-none (λ part. (part.point == point) && g part) ps
        (each-map (λ part. (part.point == p.point) ≡ false) (λ part. ((part.point == point) && g part) ≡ false)
        (λ part other. let apart : (part.point == point) ≡ false = grind (arith, nat_tests) in ap (λ b. b && g part) apart) ps (distinct-each p.point ps distinct.0)) in
        sym (ap (λ b. g p || b) none ∙ or-false (g p))
    by false is rest = rest

any-chosen : (g : Part → Bool) (points : List ℕ) (parts : List Part) →
    list_any g (filter_map (part_on parts) points) ≡ list_any (λ point. option_map_or g (part_on parts point) false) points
any-chosen g [] parts = refl
any-chosen g (point ∷ points) parts = by (part_on parts point) (any-chosen g points parts)
  where
    by : (found : Option Part) → list_any g (filter_map (part_on parts) points) ≡ list_any (λ k. option_map_or g (part_on parts k) false) points →
        list_any g (cons_option found (filter_map (part_on parts) points)) ≡ (option_map_or g found false || list_any (λ k. option_map_or g (part_on parts k) false) points)
    by None rest = rest
    by (Some p) rest = ap (λ b. g p || b) rest

module _ (txn : ℕ) (parts : List Part) (distinct : Distinct (map (λ part. part.point) parts)) (lease : Lease) (own : is_of txn lease ≡ in_slots (open_slots parts) lease) where
  one-point : (point : ℕ) → option_map_or (is_at lease) (part_on parts point) false ≡ ((lease.txn == txn) && (point == lease.point))
  one-point point = on-point (is_at lease) point parts distinct
      ∙ any-alike (λ part. (part.point == point) && is_at lease part) (λ part. (point == lease.point) && is_at lease part) parts
      (each-always (λ part. ((part.point == point) && is_at lease part) ≡ ((point == lease.point) && is_at lease part)) (λ part. grind (arith, nat_tests)) parts)
      ∙ any-and (point == lease.point) (is_at lease) parts
      ∙ ap (λ b. (point == lease.point) && b) (sym (in-open parts lease) ∙ sym own)
      ∙ both (point == lease.point) (lease.txn == txn)
    where
      both : (a b : Bool) → (a && b) ≡ (b && a)
      both true true = refl
      both true false = refl
      both false true = refl
      both false false = refl

  pub meant-in : (points : List ℕ) → is_meant txn points lease ≡ in_slots (open_slots (named_parts points parts)) lease
  meant-in [] = and-true (lease.txn == txn) ∙ own
  meant-in (point ∷ points) =
      let named : is_empty (point ∷ points) ≡ false = grind (arith, nat_tests) in
      ap (λ b. (lease.txn == txn) && (b || member lease.point (point ∷ points))) named
      ∙ sym (in-open (filter_map (part_on parts) (point ∷ points)) lease
      ∙ any-chosen (is_at lease) (point ∷ points) parts
      ∙ any-alike (λ k. option_map_or (is_at lease) (part_on parts k) false) (λ k. (lease.txn == txn) && (k == lease.point)) (point ∷ points) (each-always _ one-point (point ∷ points))
      ∙ any-and (lease.txn == txn) (λ k. k == lease.point) (point ∷ points))
