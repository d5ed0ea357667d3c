-- What is asked of a transaction's parts before time passes.
use Rattle.std.proofs.Common.{◌≡◌, ℕ, zero, suc, ◌+◌, ◌<◌, ◌≤◌, ◌==◌, List, [], ◌∷◌, length, map, Bool, true, false, not, ◌&&◌, ◌||◌, cond, Option, Some, None, is_some, is_none, refl, ap, sym, ◌∙◌, arith}
use Rattle.std.specs.Prelude.{filter_map}
use Rattle.std.specs.List.{filter, cons_option, list_all, list_any, range_with_len, AllByRecursion}
use Rattle.std.proofs.lemmas.Bool.Decides.{nat_tests}
use Rattle.std.specs.Option.{option_map_or}
use Rattle.boss_model.specs.declared.answer.Refusal.{Refusal}
use Rattle.boss_model.specs.declared.answer.Refusal.TheVariants as refusal
use Rattle.boss_model.specs.declared.state.Actuator.{Actuator}
use Rattle.boss_model.specs.declared.state.Lease.{Lease}
use Rattle.boss_model.specs.Records.{Part, Transaction}
use Rattle.boss_model.specs.Renew.{named_parts, part_on, transaction_of, wrote}
use Rattle.boss_model.specs.Sound.{IsSoundPersistent}
use Rattle.boss_model.specs.State.{Persistent}
use Rattle.law_records.specs.Slots.{IsSlot, is_open, open_slots, slot_of_part}
use Rattle.law_records.proofs.Known.{slots-known}
use Rattle.law_effects.specs.Early.{if_owned, open_still}
use Rattle.boss_stages.specs.Stages.{Tracked, kept_as}
use Rattle.boss_persistent.specs.Asking.{HasSlot, is_open_on}
use Rattle.boss_persistent.proofs.Recorded.{record_of, is-found, is-unknown}

-- ---- open parts have slots of the plant

each-slot : (points : ℕ) (parts : List Part) → AllByRecursion (IsSlot points) (open_slots parts) → AllByRecursion (HasSlot points) parts
each-slot points [] all = tt
each-slot points (part ∷ parts) all = by (is_open part) refl all (each-slot points parts)
  where
    by : (is : Bool) → is_open part ≡ is → AllByRecursion (IsSlot points) (map slot_of_part (cond is (part ∷ filter is_open parts) (filter is_open parts))) →
        (AllByRecursion (IsSlot points) (open_slots parts) → AllByRecursion (HasSlot points) parts) → AllByRecursion (HasSlot points) (part ∷ parts)
    by true is all rest = (λ _. all.0, rest all.1)
    by false is all rest = (λ live. absurd (cc (sym is ∙ live)), rest all)

pub parts-placed : (plant : List Actuator) (d : Persistent) (txn : ℕ) (t : Transaction) → IsSoundPersistent plant d → transaction_of d.txns txn ≡ Some t →
    AllByRecursion (HasSlot (length plant)) t.parts
parts-placed plant d txn t sound is = each-slot (length plant) t.parts (slots-known plant d sound txn t is [])

-- ---- the parts on some points, asked point by point

wrote-found : (parts : List Part) (point : ℕ) → wrote parts point ≡ is_some (part_on parts point)
wrote-found [] point = refl
wrote-found (p ∷ ps) point = by (p.point == point) (wrote-found ps point)
  where
    by : (here : Bool) → wrote ps point ≡ is_some (part_on ps point) → (here || wrote ps point) ≡ is_some (cond here (Some p) (part_on ps point))
    by true rest = refl
    by false rest = rest

and-swap : (a b c : Bool) → (a && (b && c)) ≡ (b && (a && c))
and-swap true b c = refl
and-swap false true c = refl
and-swap false false c = refl

module _ (n : ℕ) (leases : List Lease) (parts : List Part) where
  pub chosen-open : (points : List ℕ) → list_all (is_open_on n leases parts) points ≡ (list_all (wrote parts) points && list_all (open_still n leases) (filter_map (part_on parts) points))
  chosen-open [] = refl
  chosen-open (point ∷ points) = by (part_on parts point) (chosen-open points) ∙ ap (λ b. (b && list_all (wrote parts) points) && list_all (open_still n leases) (cons_option (part_on parts point) (filter_map (part_on parts) points))) (sym (wrote-found parts point))
    where
      by : (found : Option Part) → list_all (is_open_on n leases parts) points ≡ (list_all (wrote parts) points && list_all (open_still n leases) (filter_map (part_on parts) points)) →
          (option_map_or (open_still n leases) found false && list_all (is_open_on n leases parts) points)
          ≡ ((is_some found && list_all (wrote parts) points) && list_all (open_still n leases) (cons_option found (filter_map (part_on parts) points)))
      by None rest = refl
      by (Some part) rest = ap (λ b. open_still n leases part && b) rest ∙ and-swap (open_still n leases part) (list_all (wrote parts) points) _

  pub meant-open : (points : List ℕ) → 0 < length points → list_all (is_open_on n leases parts) points ≡ (list_all (wrote parts) points && list_all (open_still n leases) (named_parts points parts))
  meant-open [] some = absurd (omega arith)
  meant-open (point ∷ points) some = chosen-open (point ∷ points)

-- ---- levels, asked one after another

either-false : (a b : Bool) → (a || b) ≡ false → (a ≡ false) × (b ≡ false)
either-false true b is = cc
either-false false b is = (refl, is)

pub none-more : (f : ℕ → Bool) (from count : ℕ) → list_any f (range_with_len from count) ≡ false → f (from + count) ≡ false → list_any f (range_with_len from (suc count)) ≡ false
none-more f from zero none here = ap (λ b. b || false) (ap f (let same : from ≡ from + 0 = omega arith in same) ∙ here)
none-more f from (suc count) none here =
    let both = either-false (f from) (list_any f (range_with_len (from + 1) count)) none in
    λ i. both.0 i || none-more f (from + 1) count both.1 (ap f (let same : from + 1 + count ≡ from + suc count = omega arith in same) ∙ here) i

pub some-there : (f : ℕ → Bool) (from count k : ℕ) → from ≤ k → k < from + count → f k ≡ true → list_any f (range_with_len from count) ≡ true
some-there f from zero k low high is = absurd (omega arith)
some-there f from (suc count) k low high is = by (from == k) refl (λ later. some-there f (from + 1) count k (omega arith) (omega arith) is)
  where
    or-true : (a b : Bool) → b ≡ true → (a || b) ≡ true
    or-true true b is = refl
    or-true false b is = is

    by : (here : Bool) → (from == k) ≡ here → (from < k → list_any f (range_with_len (from + 1) count) ≡ true) → (f from || list_any f (range_with_len (from + 1) count)) ≡ true
    by true same rest = let equal : from ≡ k = grind (arith, nat_tests) in ap (λ b. b || list_any f (range_with_len (from + 1) count)) (ap f equal ∙ is)
    by false same rest = let later : from < k = grind (arith, nat_tests) in or-true (f from) (list_any f (range_with_len (from + 1) count)) (rest later)

-- ---- a transaction that is kept, and whose it is

module _ (owner : ℕ) (test : Transaction → Bool) (kept : List Tracked) (txn : ℕ) where
  pub owned-none : kept_as txn kept ≡ None → false ≡ if_owned owner test (transaction_of (map record_of kept) txn)
  owned-none none = sym (ap (if_owned owner test) (is-unknown kept txn none))

  pub owned-some : (k : Tracked) → kept_as txn kept ≡ Some k → ((k.transaction.owner == owner) && test (record_of k)) ≡ if_owned owner test (transaction_of (map record_of kept) txn)
  owned-some k found = sym (ap (if_owned owner test) (is-found kept txn k found))

-- ---- tests in a row

pub room-told : (full : Bool) → is_none {T = Refusal} (cond full (Some refusal.TooManyProcesses) None) ≡ not full
room-told true = refl
room-told false = refl

pub in-a-row : (points process new : Bool) (rest : Bool) → ((points && (process && new)) && rest) ≡ (points && (process && (new && rest)))
in-a-row true true new rest = refl
in-a-row true false new rest = refl
in-a-row false process new rest = refl

pub in-a-row-4 : (points process new long rest : Bool) → (((points && (process && new)) && long) && rest) ≡ (points && (process && (new && (long && rest))))
in-a-row-4 true true true long rest = refl
in-a-row-4 true true false long rest = refl
in-a-row-4 true false new long rest = refl
in-a-row-4 false process new long rest = refl

pub in-a-row-2 : (process new rest : Bool) → ((process && new) && rest) ≡ (process && (new && rest))
in-a-row-2 true new rest = refl
in-a-row-2 false new rest = refl
