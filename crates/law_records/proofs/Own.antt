-- Which leases are a transaction's own, by the parts of its record.
use Rattle.std.proofs.Common.{◌≡◌, ℕ, ◌==◌, List, [], ◌∷◌, length, Bool, true, false, ◌&&◌, ◌||◌, cond, Option, Some, is_none, refl, ap, sym, ◌∙◌, subst, arith}
use Rattle.std.specs.Option.{option_map_or}
use Rattle.std.specs.List.{filter, list_any, AllByRecursion}
use Rattle.std.proofs.lemmas.Bool.Decides.{nat_tests}
use Rattle.boss_model.specs.declared.notice.Cause.{Cause}
use Rattle.boss_model.specs.declared.state.Actuator.{Actuator}
use Rattle.boss_model.specs.declared.state.Lease.{Lease}
use Rattle.boss_model.specs.Ends.{is_of, end_leases}
use Rattle.boss_model.specs.Happenings.{Happening}
use Rattle.boss_model.specs.Order.{comes_before}
use Rattle.boss_model.specs.Queries.{live_of}
use Rattle.boss_model.specs.Records.{End, Part, Transaction}
use Rattle.boss_model.specs.Renew.{transaction_of}
use Rattle.boss_model.specs.Sound.{Rising, IsPart, IsTransaction, has_part, number_rank, IsSoundPersistent}
use Rattle.boss_model.specs.State.{lease_slot, Persistent}
use Rattle.law_time.proofs.Filters.{filter-same, any-map, each-found}
use Rattle.law_time.proofs.Orders.{each-map, each-both, Rising-filter}
use Rattle.law_effects.specs.Early.{slot_lease}
use Rattle.law_effects.proofs.Found.{any-some}
use Rattle.law_effects.proofs.Lasting.{same-tests, found-passes, any-filter, any-implies}
use Rattle.law_records.specs.Slots.{is_open, slot_of_part, open_slots, in_slots}
use Rattle.law_records.proofs.Counts.{each-kept, at, counted}
use Rattle.law_records.proofs.Ending.{ends-alike}
use Rattle.law_records.proofs.Lookups.{or-false, any-none, any-at, found-itself}

-- an open part has the slot of the lease
abbrev pub is_at : Lease → Part → Bool
is_at lease part = is_open part && ((lease.point == part.point) && (lease.priority == part.priority))

pub in-open : (parts : List Part) (lease : Lease) → in_slots (open_slots parts) lease ≡ list_any (is_at lease) parts
in-open parts lease =
    any-map (λ slot. (lease.point == slot.0) && (lease.priority == slot.1)) slot_of_part (filter is_open parts)
    ∙ any-filter (λ part. (lease.point == part.point) && (lease.priority == part.priority)) is_open parts

-- a part in the slot, whose end passes the test
abbrev part_in : (Option End → Bool) → ℕ → ℕ → Transaction → Bool
part_in test point priority t = list_any (λ part. (part.point == point) && ((part.priority == priority) && test part.end)) t.parts

-- the record that is found is the only one of its number
pub record-has : (test : Option End → Bool) (txn point priority : ℕ) (ts : List Transaction) (t : Transaction) → Rising number_rank ts → transaction_of ts txn ≡ Some t →
    has_part test ts txn point priority ≡ list_any (λ part. (part.point == point) && ((part.priority == priority) && test part.end)) t.parts
record-has test txn point priority [] t rising found = absurd (cc)
record-has test txn point priority (u ∷ us) t rising found = by (u.txn == txn) refl found (record-has test txn point priority us t rising.1)
  where
    by : (here : Bool) → (u.txn == txn) ≡ here → cond here (Some u) (transaction_of us txn) ≡ Some t →
        (transaction_of us txn ≡ Some t → has_part test us txn point priority ≡ part_in test point priority t) → ((here && part_in test point priority u) || has_part test us txn point priority) ≡ part_in test point priority t
    by true here is rest =
        let same : u ≡ t = cc in
        let none : has_part test us txn point priority ≡ false = any-none (λ v. (v.txn == txn) && part_in test point priority v) us
        (each-map (λ v. comes_before (number_rank v) (number_rank u) ≡ false) (λ v. ((v.txn == txn) && part_in test point priority v) ≡ false)
        (λ v after. let later : comes_before (v.txn ∷ []) (u.txn ∷ []) ≡ false = after in
        let other : (v.txn == txn) ≡ false = grind (arith, nat_tests) in ap (λ b. b && part_in test point priority v) other) us rising.0) in
        ap (λ b. part_in test point priority u || b) none ∙ or-false (part_in test point priority u) ∙ ap (part_in test point priority) same
    by false here is rest = rest is

module _ (plant : List Actuator) (d : Persistent) (sound : IsSoundPersistent plant d) (txn : ℕ) (t : Transaction) (found : transaction_of d.txns txn ≡ Some t) where
  pub numbered : t.txn ≡ txn
  numbered = let test = (found-passes (λ u. u.txn == txn) d.txns t found).0 in grind (arith, nat_tests)

  pub own : IsTransaction plant d t
  own = each-found (IsTransaction plant d) (λ u. u.txn == txn) d.txns t sound.txns found

  pub parts : AllByRecursion (IsPart plant d.now txn d.leases) t.parts
  parts = each-map (IsPart plant d.now t.txn d.leases) (IsPart plant d.now txn d.leases) (λ part is. subst (λ k. IsPart plant d.now k d.leases part) numbered is) t.parts own.parts

  pub open-parts : AllByRecursion (λ part. is_open part ≡ option_map_or (is_of txn) (slot_lease d.leases part.point part.priority) false) t.parts
  open-parts = each-map (IsPart plant d.now txn d.leases) (λ part. is_open part ≡ option_map_or (is_of txn) (slot_lease d.leases part.point part.priority) false)
      (λ part is. is.open_part ∙ any-at (is_of txn) part.point part.priority d.leases sound.lease_slots) t.parts parts

  -- the record has a part in the slot of each lease of its own
  has : (point priority : ℕ) → has_part is_none d.txns txn point priority ≡ list_any (λ part. (part.point == point) && ((part.priority == priority) && is_none part.end)) t.parts
  has point priority = record-has is_none txn point priority d.txns t sound.numbers found

  pub leases-by-parts : AllByRecursion (λ lease. is_of txn lease ≡ in_slots (open_slots t.parts) lease) d.leases
  leases-by-parts = each-map
      (λ l. (has_part is_none d.txns l.txn l.point l.priority ≡ true) × (slot_lease d.leases l.point l.priority ≡ Some l))
      (λ l. is_of txn l ≡ in_slots (open_slots t.parts) l)
      (λ l both. by l both.0 both.1 (is_of txn l) refl ∙ sym (in-open t.parts l)) d.leases
      (each-both (λ l. has_part is_none d.txns l.txn l.point l.priority ≡ true) (λ l. slot_lease d.leases l.point l.priority ≡ Some l) d.leases
      sound.open_parts (found-itself d.leases sound.lease_slots))
    where
      by : (l : Lease) → has_part is_none d.txns l.txn l.point l.priority ≡ true → slot_lease d.leases l.point l.priority ≡ Some l →
          (mine : Bool) → is_of txn l ≡ mine → mine ≡ list_any (is_at l) t.parts
      by l there itself true is =
          let same : l.txn ≡ txn = grind (arith, nat_tests) in
          let part : list_any (λ part. (part.point == l.point) && ((part.priority == l.priority) && is_none part.end)) t.parts ≡ true =
          sym (has l.point l.priority) ∙ ap (λ k. has_part is_none d.txns k l.point l.priority) (sym same) ∙ there in
          sym (any-implies (λ part. is_open part ≡ option_map_or (is_of txn) (slot_lease d.leases part.point part.priority) false)
          (λ part. (part.point == l.point) && ((part.priority == l.priority) && is_none part.end)) (is_at l) (λ part _ passes. grind (arith, nat_tests)) t.parts open-parts part)
      by l there itself false other = sym (any-none (is_at l) t.parts
          (each-map (λ part. is_open part ≡ option_map_or (is_of txn) (slot_lease d.leases part.point part.priority) false) (λ part. is_at l part ≡ false)
          (λ part opens. apart part opens (is_at l part) refl) t.parts open-parts))
        where
          apart : (part : Part) → is_open part ≡ option_map_or (is_of txn) (slot_lease d.leases part.point part.priority) false → (b : Bool) → is_at l part ≡ b → b ≡ false
          apart part opens false is = refl
          apart part opens true is =
              let p : l.point ≡ part.point = grind (arith, nat_tests) in
              let q : l.priority ≡ part.priority = grind (arith, nat_tests) in
              let here : is_open part ≡ true = grind (arith) in
              let mine : is_of txn l ≡ true = ap (λ f. option_map_or (is_of txn) f false) (sym itself) ∙ (λ i. option_map_or (is_of txn) (slot_lease d.leases (p i) (q i)) false) ∙ sym opens ∙ here in
              sym mine ∙ other

  pub open-any : list_any (is_of txn) d.leases ≡ list_any is_open t.parts
  open-any = same-tests (list_any (is_of txn) d.leases) (list_any is_open t.parts)
      (λ some.
      let l = any-some (λ lease. is_of txn lease ≡ in_slots (open_slots t.parts) lease) (is_of txn) d.leases leases-by-parts some in
      any-implies (IsPart plant d.now txn d.leases) (is_at l.0) is_open (λ part _ passes. grind (arith)) t.parts parts (sym (in-open t.parts l.0) ∙ sym l.2 ∙ l.1))
      (λ some.
      let p = any-some (IsPart plant d.now txn d.leases) is_open t.parts parts some in
      any-implies (λ lease. is_of txn lease ≡ in_slots (open_slots t.parts) lease)
      (λ lease. (lease.txn == txn) && ((lease.point == p.0.point) && (lease.priority == p.0.priority))) (is_of txn) (λ lease _ passes. grind (arith)) d.leases leases-by-parts
      (sym p.2.open_part ∙ p.1))

  pub ends-by-slots : (why : Cause) (n : ℕ) (first : List Happening) → end_leases (is_of txn) why n first d ≡ end_leases (in_slots (open_slots t.parts)) why n first d
  ends-by-slots why n first = ends-alike (is_of txn) (in_slots (open_slots t.parts)) why n first d leases-by-parts

  -- each lease of its own is in the slot of a part
  in-part : AllByRecursion (λ l. list_any (λ part. at (λ l. l.point) (λ l. l.priority) part l) t.parts ≡ true) (filter (is_of txn) d.leases)
  in-part = each-kept (λ l. list_any (λ part. at (λ l. l.point) (λ l. l.priority) part l) t.parts ≡ true) (is_of txn) d.leases
      (each-map (λ l. is_of txn l ≡ in_slots (open_slots t.parts) l) (λ l. is_of txn l ≡ true → list_any (λ part. at (λ l. l.point) (λ l. l.priority) part l) t.parts ≡ true)
      (λ l is mine. any-implies (IsPart plant d.now txn d.leases) (is_at l) (λ part. at (λ l. l.point) (λ l. l.priority) part l) (λ part _ passes. grind (arith)) t.parts parts
      (sym (in-open t.parts l) ∙ sym is ∙ mine)) d.leases leases-by-parts)

  pub live-count : live_of txn d ≡ length (filter is_open t.parts)
  live-count =
      let mine = filter (is_of txn) d.leases in
      counted (λ (l : Lease). l.point) (λ l. l.priority) t.parts own.points mine (Rising-filter lease_slot (is_of txn) d.leases sound.lease_slots) in-part
      ∙ ap length (filter-same (λ part. list_any (at (λ (l : Lease). l.point) (λ l. l.priority) part) mine) is_open t.parts
      (each-map (IsPart plant d.now txn d.leases) (λ part. list_any (at (λ (l : Lease). l.point) (λ l. l.priority) part) mine ≡ is_open part)
      (λ part is. any-filter (at (λ (l : Lease). l.point) (λ l. l.priority) part) (is_of txn) d.leases ∙ sym is.open_part) t.parts parts))
