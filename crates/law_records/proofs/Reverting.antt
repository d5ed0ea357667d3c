-- The reversions of a transaction that are under way are as many as its parts on the points that revert, and what a point's row shows.
use Rattle.std.proofs.Common.{◌≡◌, ℕ, ◌≤◌, ◌==◌, pos, List, length, Bool, true, false, ◌&&◌, Some, refl, ap, sym, ◌∙◌, arith}
use Rattle.std.specs.Option.{option_map_or}
use Rattle.std.specs.List.{filter, list_any, range_with_len, AllByRecursion}
use Rattle.std.proofs.lemmas.Bool.Decides.{nat_tests}
use Rattle.boss_model.specs.declared.state.Actuator.{Actuator}
use Rattle.boss_model.specs.declared.state.Lease.{Lease}
use Rattle.boss_model.specs.declared.state.Pending.{Pending}
use Rattle.boss_model.specs.Lists.{member}
use Rattle.boss_model.specs.Queries.{pending_of}
use Rattle.boss_model.specs.Records.{Transaction}
use Rattle.boss_model.specs.Renew.{transaction_of}
use Rattle.boss_model.specs.Sound.{IsLease, IsPart, has_part, is_start, IsSoundPersistent}
use Rattle.boss_model.specs.State.{pending_slot, Persistent}
use Rattle.boss_model.specs.Submit.{is_level}
use Rattle.law_time.proofs.Filters.{filter-same}
use Rattle.law_time.proofs.Orders.{each-map, Rising-filter}
use Rattle.law_effects.specs.Early.{slot_lease}
use Rattle.law_effects.proofs.Lasting.{any-filter, any-implies}
use Rattle.law_records.specs.Slots.{reverts_on}
use Rattle.law_records.proofs.Counts.{each-kept, only, at, counted}
use Rattle.law_records.proofs.Firsts.{row-any}
use Rattle.law_records.proofs.Lookups.{any-alike}
use Rattle.law_records.proofs.Own.{own, parts, record-has}

third : (a b c : Bool) → (a ≡ true → b ≡ true → c ≡ true) → (a && (b && c)) ≡ (a && b)
third true true c is = is refl refl
third true false c is = refl
third false b c is = refl

module _ (plant : List Actuator) (d : Persistent) (sound : IsSoundPersistent plant d) (txn : ℕ) (t : Transaction) (found : transaction_of d.txns txn ≡ Some t) where
  -- each reversion of its own is in the slot of a part
  reversions-in : AllByRecursion (λ r. (r.txn == txn) ≡ true → list_any (λ part. at (λ (x : Pending). x.point) (λ x. x.priority) part r) t.parts ≡ true) d.pending
  reversions-in = each-map (λ r. has_part (is_start r.start) d.txns r.txn r.point r.priority ≡ true)
      (λ r. (r.txn == txn) ≡ true → list_any (λ part. at (λ (x : Pending). x.point) (λ x. x.priority) part r) t.parts ≡ true)
      (λ r there mine.
      let same : r.txn ≡ txn = grind (arith, nat_tests) in
      any-implies (IsPart plant d.now txn d.leases) (λ part. (part.point == r.point) && ((part.priority == r.priority) && is_start r.start part.end))
      (λ part. at (λ (x : Pending). x.point) (λ x. x.priority) part r) (λ part _ passes. grind (arith, nat_tests)) t.parts (parts plant d sound txn t found)
      (sym (record-has (is_start r.start) txn r.point r.priority d.txns t sound.numbers found)
      ∙ ap (λ k. has_part (is_start r.start) d.txns k r.point r.priority) (sym same) ∙ there)) d.pending sound.ended_parts

  pub pending-by-points : (reverting : List ℕ) → ((point : ℕ) → member point reverting ≡ reverts_on txn point d.pending) →
      pending_of txn d ≡ length (filter (λ part. member part.point reverting) t.parts)
  pending-by-points reverting right =
      let mine = filter (λ (r : Pending). r.txn == txn) d.pending in
      let in_slot = at (λ (x : Pending). x.point) (λ x. x.priority) in
      let points = (own plant d sound txn t found).points in
      counted (λ (x : Pending). x.point) (λ x. x.priority) t.parts points mine (Rising-filter pending_slot (λ r. r.txn == txn) d.pending sound.pending_slots)
      (each-kept (λ r. list_any (λ part. in_slot part r) t.parts ≡ true) (λ r. r.txn == txn) d.pending reversions-in)
      ∙ ap length (filter-same (λ part. list_any (in_slot part) mine) (λ part. member part.point reverting) t.parts
      (each-map
      (λ part. (point priority : ℕ) → list_any (λ p. (point == p.point) && (priority == p.priority)) t.parts ≡ true → (point == part.point) ≡ true → (priority == part.priority) ≡ true)
      (λ part. list_any (in_slot part) mine ≡ member part.point reverting)
      (λ part one. any-filter (in_slot part) (λ r. r.txn == txn) d.pending
      ∙ any-alike (λ r. (r.txn == txn) && in_slot part r) (λ r. (r.txn == txn) && (r.point == part.point)) d.pending
      (each-map (λ r. (r.txn == txn) ≡ true → list_any (λ p. in_slot p r) t.parts ≡ true)
      (λ r. ((r.txn == txn) && in_slot part r) ≡ ((r.txn == txn) && (r.point == part.point)))
      (λ r there. third (r.txn == txn) (r.point == part.point) (r.priority == part.priority) (λ is here. one r.point r.priority (there is) here)) d.pending reversions-in)
      ∙ sym (right part.point)) t.parts (only t.parts points)))

pub level-in : (priority : ℕ) → is_level (pos priority) ≡ true → (1 ≤ priority) × (priority ≤ 16)
level-in priority is = (grind (arith, nat_tests), grind (arith, nat_tests))

pub row-slots : (plant : List Actuator) (d : Persistent) → IsSoundPersistent plant d → (g : Lease → Bool) (point : ℕ) →
    list_any (λ l. g l && (l.point == point)) d.leases ≡ list_any (λ priority. option_map_or g (slot_lease d.leases point priority) false) (range_with_len 1 16)
row-slots plant d sound g point = row-any g point d.leases sound.lease_slots
    (each-map (IsLease plant d.now) (λ l. (1 ≤ l.priority) × (l.priority ≤ 16)) (λ l is. level-in l.priority is.level) d.leases sound.leases)
