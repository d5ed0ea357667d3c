-- How the tables stand to each other is kept as a lease or a reversion comes into a slot or goes out of it.
use Rattle.std.proofs.Common.{◌≡◌, ◌≢◌, ◌⊎◌, ℕ, ◌+◌, ◌*◌, ◌<◌, ◌≤◌, ◌++◌, false, Bor, List, length, set, get_or, Option, Some, None, is_some, count_by, cond, IsSome, refl, ap, sym, ◌∙◌, subst, inl, inr, arith}
use Rattle.std.specs.Option.{option_copied, option_to_list}
use Rattle.std.proofs.lemmas.Bool.{cases_eq}
use Rattle.std.proofs.lemmas.List.{get_or-set_same, get_or-set_other, get_or_past, length-set, length-append}
use Rattle.std.proofs.lemmas.List.Sums.{sum_by-set}
use Rattle.boss_array.specs.declared.array.Entry.{Entry}
use Rattle.boss_model.specs.Reversions.{turns}
use Rattle.law_time.proofs.Orders.{each-map}
use Rattle.boss_array.specs.declared.array.Entry.TheVariants as entry
use Rattle.boss_model.specs.declared.state.Lease.{Lease}
use Rattle.boss_model.specs.declared.state.Pending.{Pending}
use Rattle.boss_slots.specs.Slots.{all}
use Rattle.boss_slots.specs.Tables.{IsAwaited, IsBy, IsEntrySet, IsKept, IsLeaseOf, IsMoved, IsPendingOf, IsTimed, entry_in, lease_at, lease_of, number, pending_at, pending_of}
use Rattle.boss_slots.specs.declared.tables.Tables.{Tables}
use Rattle.boss_slots.proofs.BySlot.{all-swapped, fewer-all}

-- ---- slots

-- one slot is another, or is not
pub one-or-other : (p q a b : ℕ) → ((a ≡ p) × (b ≡ q)) ⊎ (a ≡ p → b ≡ q → ⊥)
one-or-other p q a b = elim (cases_eq a p) [
  | inr differs ↦ inr (λ same _. differs same)
  | inl is ↦ elim (cases_eq b q) [ inl too ↦ inl (is, too) | inr differs ↦ inr (λ _ same. differs same) ]
]

-- what stands in two slots differs, so they do
pub apart-by : (E : ℕ → ℕ → Option Entry) (p q a b : ℕ) → (E a b ≡ E p q → ⊥) → a ≡ p → b ≡ q → ⊥
apart-by E p q a b differs one two = differs (ap (λ n. E n b) one ∙ ap (E p) two)

pub number-apart : (p q a b : ℕ) → 1 ≤ q → q ≤ 16 → 1 ≤ b → b ≤ 16 → number a b ≡ number p q → (a ≡ p) × (b ≡ q)
number-apart p q a b l1 h1 l2 h2 same = ((omega arith), (omega arith))

pub number-within : (p q n : ℕ) → p < n → 1 ≤ q → q ≤ 16 → number p q < 16 * n
number-within p q n within low high = omega arith

pub within-of : {X : Type 0} (xs : List (Option X)) (key : ℕ) (x : X) → get_or xs key None ≡ Some x → key < length xs
within-of xs key x is = grind (arith, get_or_past)

by-later : {one other : ℕ} (timer : Option ℕ) → one ≤ other → IsBy one timer → IsBy other timer
by-later None later by = by
by-later (Some timer) later by = omega arith

pub some-of : {X : Type 0} (o : Option X) → IsSome o → (x : X) × (o ≡ Some x)
some-of None is = absurd (cc)
some-of (Some x) is = (x, refl)

pub leased : (p q : ℕ) (o : Option Lease) → IsLeaseOf p q o → (lease : Lease) × (o ≡ Some lease) × (lease.point ≡ p) × (lease.priority ≡ q)
leased p q None is = absurd is
leased p q (Some lease) is = (lease, refl, is.0, is.1)

pub reverting : (p q : ℕ) (o : Option Pending) → IsPendingOf p q o → (r : Pending) × (o ≡ Some r) × (r.point ≡ p) × (r.priority ≡ q)
reverting p q None is = absurd is
reverting p q (Some r) is = (r, refl, is.0, is.1)

-- ---- what the tables have in a slot

pub lease-there : (t : Tables) (p q key : ℕ) → entry_in t.arrays.items p q ≡ Some (entry.Lease key) → lease_at t p q ≡ get_or t.leases key None
unfolding lease_at
lease-there t p q key is = ap (lease_of t.leases) is

pub no-lease-there : (t : Tables) (p q key : ℕ) → entry_in t.arrays.items p q ≡ Some (entry.Pending key) → lease_at t p q ≡ None
unfolding lease_at
no-lease-there t p q key is = ap (lease_of t.leases) is

pub pending-there : (t : Tables) (p q key : ℕ) → entry_in t.arrays.items p q ≡ Some (entry.Pending key) → pending_at t p q ≡ get_or t.pending.items key None
unfolding pending_at
pending-there t p q key is = ap (pending_of t.pending.items) is

pub no-pending-there : (t : Tables) (p q key : ℕ) → entry_in t.arrays.items p q ≡ Some (entry.Lease key) → pending_at t p q ≡ None
unfolding pending_at
no-pending-there t p q key is = ap (pending_of t.pending.items) is

pub nothing-there : (t : Tables) (p q : ℕ) → entry_in t.arrays.items p q ≡ None → (lease_at t p q ≡ None) × (pending_at t p q ≡ None)
unfolding lease_at pending_at
nothing-there t p q is = ((ap (lease_of t.leases) is), (ap (pending_of t.pending.items) is))

-- what a slot has, seen from it
lease-from : (leases : List (Option Lease)) (to : Option Entry) (lease : Lease) → lease_of leases to ≡ Some lease → (key : ℕ) × (to ≡ Some (entry.Lease key)) × (get_or leases key None ≡ Some lease)
lease-from leases None lease is = cc
lease-from leases (Some (entry.Lease key)) lease is = (key, refl, is)
lease-from leases (Some (entry.Pending key)) lease is = cc

pending-from : (pending : List (Option Pending)) (to : Option Entry) (r : Pending) → pending_of pending to ≡ Some r → (key : ℕ) × (to ≡ Some (entry.Pending key)) × (get_or pending key None ≡ Some r)
pending-from pending None r is = cc
pending-from pending (Some (entry.Lease key)) r is = cc
pending-from pending (Some (entry.Pending key)) r is = (key, refl, is)

pub lease-key : (t : Tables) (p q : ℕ) (lease : Lease) → lease_at t p q ≡ Some lease → (key : ℕ) × (entry_in t.arrays.items p q ≡ Some (entry.Lease key)) × (get_or t.leases key None ≡ Some lease)
unfolding lease_at
lease-key t p q lease is = lease-from t.leases (entry_in t.arrays.items p q) lease is

pub pending-key : (t : Tables) (p q : ℕ) (r : Pending) → pending_at t p q ≡ Some r → (key : ℕ) × (entry_in t.arrays.items p q ≡ Some (entry.Pending key)) × (get_or t.pending.items key None ≡ Some r)
unfolding pending_at
pending-key t p q r is = pending-from t.pending.items (entry_in t.arrays.items p q) r is

module _ (t : Tables) (k : IsKept t) where
  pub lease-placed : (p q : ℕ) (lease : Lease) → lease_at t p q ≡ Some lease → (lease.point ≡ p) × (lease.priority ≡ q)
  lease-placed p q lease is =
      let at = lease-key t p q lease is in
      subst (IsLeaseOf p q) at.2 (k.keyed p q at.0 at.1)

  pub pending-placed : (p q : ℕ) (r : Pending) → pending_at t p q ≡ Some r → (r.point ≡ p) × (r.priority ≡ q)
  pending-placed p q r is =
      let at = pending-key t p q r is in
      subst (IsPendingOf p q) at.2 (k.played p q at.0 at.1)

  pub lease-within : (p q : ℕ) (lease : Lease) → lease_at t p q ≡ Some lease → (p < length t.arrays.items) × (1 ≤ q) × (q ≤ 16)
  lease-within p q lease is = let at = lease-key t p q lease is in k.within p q (entry.Lease at.0) at.1

  pub pending-within : (p q : ℕ) (r : Pending) → pending_at t p q ≡ Some r → (p < length t.arrays.items) × (1 ≤ q) × (q ≤ 16)
  pending-within p q r is = let at = pending-key t p q r is in k.within p q (entry.Pending at.0) at.1

  -- a slot has a lease or a reversion, and never both
  pub not-both : (p q : ℕ) → (pending_at t p q ≡ None) ⊎ (lease_at t p q ≡ None)
  not-both p q = by (entry_in t.arrays.items p q) refl
    where
      by : (to : Option Entry) → entry_in t.arrays.items p q ≡ to → (pending_at t p q ≡ None) ⊎ (lease_at t p q ≡ None)
      by None is = inr (nothing-there t p q is).0
      by (Some (entry.Lease key)) is = inl (no-pending-there t p q key is)
      by (Some (entry.Pending key)) is = inr (no-lease-there t p q key is)

-- ---- how many there are, as one slot changes

module _ (t t' : Tables) (p q : ℕ) (lo : Option Lease) (po : Option Pending) (moved : IsMoved t t' p q lo po) (within : p < length t.arrays.items) (low : 1 ≤ q) (high : q ≤ 16) where
  pub live-moved : length (all (lease_at t') (length t'.arrays.items)) + length (option_to_list (lease_at t p q)) ≡ length (all (lease_at t) (length t.arrays.items)) + length (option_to_list lo)
  live-moved =
      let swapped = all-swapped (lease_at t) (lease_at t') (length t.arrays.items) p q within low high (λ a b differs. (moved.others a b differs).0) in
      let before : length (all (lease_at t) (length t.arrays.items)) ≡ length swapped.front + (length (option_to_list (lease_at t p q)) + length swapped.back) =
      ap length swapped.before ∙ length-append swapped.front (option_to_list (lease_at t p q) ++ swapped.back) ∙ ap (λ n. length swapped.front + n) (length-append (option_to_list (lease_at t p q)) swapped.back) in
      let after : length (all (lease_at t') (length t.arrays.items)) ≡ length swapped.front + (length (option_to_list lo) + length swapped.back) =
      ap length swapped.after ∙ length-append swapped.front (option_to_list (lease_at t' p q) ++ swapped.back) ∙ ap (λ n. length swapped.front + n) (length-append (option_to_list (lease_at t' p q)) swapped.back)
      ∙ ap (λ o. length swapped.front + (length (option_to_list o) + length swapped.back)) moved.lease in
      let here : length (all (lease_at t') (length t'.arrays.items)) ≡ length (all (lease_at t') (length t.arrays.items)) = ap (λ n. length (all (lease_at t') n)) moved.points in
      omega arith

  pub under_way-moved : length (all (pending_at t') (length t'.arrays.items)) + length (option_to_list (pending_at t p q)) ≡ length (all (pending_at t) (length t.arrays.items)) + length (option_to_list po)
  under_way-moved =
      let swapped = all-swapped (pending_at t) (pending_at t') (length t.arrays.items) p q within low high (λ a b differs. (moved.others a b differs).1) in
      let before : length (all (pending_at t) (length t.arrays.items)) ≡ length swapped.front + (length (option_to_list (pending_at t p q)) + length swapped.back) =
      ap length swapped.before ∙ length-append swapped.front (option_to_list (pending_at t p q) ++ swapped.back) ∙ ap (λ n. length swapped.front + n) (length-append (option_to_list (pending_at t p q)) swapped.back) in
      let after : length (all (pending_at t') (length t.arrays.items)) ≡ length swapped.front + (length (option_to_list po) + length swapped.back) =
      ap length swapped.after ∙ length-append swapped.front (option_to_list (pending_at t' p q) ++ swapped.back) ∙ ap (λ n. length swapped.front + n) (length-append (option_to_list (pending_at t' p q)) swapped.back)
      ∙ ap (λ o. length swapped.front + (length (option_to_list o) + length swapped.back)) moved.pending in
      let here : length (all (pending_at t') (length t'.arrays.items)) ≡ length (all (pending_at t') (length t.arrays.items)) = ap (λ n. length (all (pending_at t') n)) moved.points in
      omega arith

-- ---- a lease goes

module _ (t t' : Tables) (key : ℕ) (lease : Lease) (k : IsKept t) (there : get_or t.leases key None ≡ Some lease) (leases : t'.leases ≡ set t.leases key None)
    (arrays : IsEntrySet t.arrays.items t'.arrays.items lease.point lease.priority None) (pending : t'.pending.items ≡ t.pending.items) (timers : t'.timers ≡ set t.timers key None) where
  stood : entry_in t.arrays.items lease.point lease.priority ≡ Some (entry.Lease key)
  stood = k.held key lease there

  key-within : key < length t.leases
  key-within = within-of t.leases key lease there

  none-now : get_or t'.leases key None ≡ None
  none-now = ap (λ xs. get_or xs key None) leases ∙ get_or-set_same t.leases key None None key-within

  other-lease : (j : ℕ) → j ≢ key → get_or t'.leases j None ≡ get_or t.leases j None
  other-lease j differs = ap (λ xs. get_or xs j None) leases ∙ get_or-set_other t.leases key j None None differs

  other-timer : (j : ℕ) → j ≢ key → get_or t'.timers j None ≡ get_or t.timers j None
  other-timer j differs = ap (λ xs. get_or xs j None) timers ∙ get_or-set_other t.timers key j None None differs

  -- what stands in a slot now stood there before, and the slot is not the lease's
  still : (p q : ℕ) (to : Entry) → entry_in t'.arrays.items p q ≡ Some to → (p ≡ lease.point → q ≡ lease.priority → ⊥) × (entry_in t.arrays.items p q ≡ Some to)
  still p q to is = elim (one-or-other lease.point lease.priority p q) [
    | inl (one, two) ↦ let here = arrays.here in let moved : entry_in t'.arrays.items p q ≡ None = ap (λ n. entry_in t'.arrays.items n q) one ∙ ap (entry_in t'.arrays.items lease.point) two ∙ here in absurd (cc)
    | inr differs ↦ (differs, sym (arrays.others p q differs) ∙ is)
  ]

  other-key : (p q j : ℕ) → (p ≡ lease.point → q ≡ lease.priority → ⊥) → entry_in t.arrays.items p q ≡ Some (entry.Lease j) → j ≢ key
  other-key p q j differs is same =
      let at : IsLeaseOf p q (Some lease) = subst (IsLeaseOf p q) (ap (λ n. get_or t.leases n None) same ∙ there) (k.keyed p q j is) in differs (sym at.0) (sym at.1)

  stays : (p q : ℕ) → (p ≡ lease.point → q ≡ lease.priority → ⊥) → (lease_at t' p q ≡ lease_at t p q) × (pending_at t' p q ≡ pending_at t p q)
  unfolding lease_at pending_at
  stays p q differs = by (entry_in t.arrays.items p q) refl
    where
      by : (to : Option Entry) → entry_in t.arrays.items p q ≡ to → (lease_of t'.leases (entry_in t'.arrays.items p q) ≡ lease_of t.leases (entry_in t.arrays.items p q)) × (pending_of t'.pending.items (entry_in t'.arrays.items p q) ≡ pending_of t.pending.items (entry_in t.arrays.items p q))
      by None is = rw (arrays.others p q differs, is) (refl, refl)
      by (Some (entry.Lease j)) is = rw (arrays.others p q differs, is) ((other-lease j (other-key p q j differs is)), refl)
      by (Some (entry.Pending j)) is = rw (arrays.others p q differs, is) (refl, (ap (λ xs. get_or xs j None) pending))

  pub moved-taken_lease : IsMoved t t' lease.point lease.priority None None
  unfolding lease_at pending_at
  moved-taken_lease = record {
    lease = ap (lease_of t'.leases) arrays.here;
    pending = ap (pending_of t'.pending.items) arrays.here;
    others = stays;
    points = arrays.points;
  }

  kept-keyed : (p q j : ℕ) → entry_in t'.arrays.items p q ≡ Some (entry.Lease j) → IsLeaseOf p q (get_or t'.leases j None)
  kept-keyed p q j is = let before = still p q (entry.Lease j) is in
      subst (IsLeaseOf p q) (sym (other-lease j (other-key p q j before.0 before.1))) (k.keyed p q j before.1)

  kept-held : (j : ℕ) (other : Lease) → get_or t'.leases j None ≡ Some other → entry_in t'.arrays.items other.point other.priority ≡ Some (entry.Lease j)
  kept-held j other is = elim (cases_eq j key) [
    | inl same ↦ let gone = none-now in let here : get_or t'.leases j None ≡ None = ap (λ n. get_or t'.leases n None) same ∙ gone in absurd (cc)
    | inr differs ↦ let before : entry_in t.arrays.items other.point other.priority ≡ Some (entry.Lease j) = k.held j other (sym (other-lease j differs) ∙ is) in
        let was = stood in
        arrays.others other.point other.priority (apart-by (entry_in t.arrays.items) lease.point lease.priority other.point other.priority (λ same. differs (cc))) ∙ before
  ]

  kept-kept : (j : ℕ) (r : Pending) → get_or t'.pending.items j None ≡ Some r → (entry_in t'.arrays.items r.point r.priority ≡ Some (entry.Pending j)) × (j ≡ number r.point r.priority)
  kept-kept j r is =
      let before = k.kept j r (ap (λ xs. get_or xs j None) (sym pending) ∙ is) in
      let here : entry_in t.arrays.items r.point r.priority ≡ Some (entry.Pending j) = before.0 in
      let was = stood in
      (arrays.others r.point r.priority (apart-by (entry_in t.arrays.items) lease.point lease.priority r.point r.priority (λ same. cc)) ∙ here, before.1)

  kept-within : (p q : ℕ) (to : Entry) → entry_in t'.arrays.items p q ≡ Some to → (p < length t'.arrays.items) × (1 ≤ q) × (q ≤ 16)
  kept-within p q to is = let at = k.within p q to (still p q to is).1 in let same = arrays.points in ((omega arith), at.1, at.2)

  pub kept-taken_lease : t'.live + 1 ≡ t.live → t'.under_way ≡ t.under_way → IsKept t'
  kept-taken_lease fewer as_many =
      let at = k.within lease.point lease.priority (entry.Lease key) stood in
      let same = arrays.points in
      let was : lease_at t lease.point lease.priority ≡ Some lease = lease-there t lease.point lease.priority key stood ∙ there in
      let wasnt : pending_at t lease.point lease.priority ≡ None = no-pending-there t lease.point lease.priority key stood in
      let one : length (option_to_list (lease_at t lease.point lease.priority)) ≡ 1 = ap (λ o. length (option_to_list o)) was in
      let none : length (option_to_list (pending_at t lease.point lease.priority)) ≡ 0 = ap (λ o. length (option_to_list o)) wasnt in
      record {
        keyed = kept-keyed;
        held = kept-held;
        played = λ p q j is. subst (λ xs. IsPendingOf p q (get_or xs j None)) (sym pending) (k.played p q j (still p q (entry.Pending j) is).1);
        kept = kept-kept;
        within = kept-within;
        keys = ap length leases ∙ length-set t.leases key None ∙ k.keys ∙ ap (λ n. 16 * n) (sym same);
        numbers = ap length pending ∙ k.numbers ∙ ap (λ n. 16 * n) (sym same);
        timers = ap length timers ∙ length-set t.timers key None ∙ k.timers ∙ ap (λ n. 32 * n) (sym same);
        few = omega (arith, k.few);
        counted = omega (arith, k.counted, ap (count_by is_some) leases, sum_by-set (λ (slot : Option Lease). cond (is_some slot) 1 0) t.leases key None None key-within, ap (λ (slot : Option Lease). cond {A = ℕ} (is_some slot) 1 0) there);
        live = omega (arith, k.live, live-moved t t' lease.point lease.priority None None moved-taken_lease at.0 at.1 at.2);
        under_way = omega (arith, k.under_way, under_way-moved t t' lease.point lease.priority None None moved-taken_lease at.0 at.1 at.2);
      }

  pub some-live : 0 < t.live
  some-live =
      let at = k.within lease.point lease.priority (entry.Lease key) stood in
      let was : lease_at t lease.point lease.priority ≡ Some lease = lease-there t lease.point lease.priority key stood ∙ there in
      let one : length (option_to_list (lease_at t lease.point lease.priority)) ≡ 1 = ap (λ o. length (option_to_list o)) was in
      omega (arith, k.live, live-moved t t' lease.point lease.priority None None moved-taken_lease at.0 at.1 at.2)

  pub timed-taken_lease : (last : ℕ) → IsTimed last t → IsTimed last t'
  timed-taken_lease last timed = record {
    until = λ j other is. elim (cases_eq j key) [
      | inl same ↦ let gone = none-now in let here : get_or t'.leases j None ≡ None = ap (λ n. get_or t'.leases n None) same ∙ gone in absurd (cc)
      | inr differs ↦ subst (IsBy other.until) (sym (other-timer j differs)) (timed.until j other (sym (other-lease j differs) ∙ is))
    ];
    turn = λ j r is.
        let few = key-within in let keys = k.keys in
        let away : 16 * length t.arrays.items + j ≢ key = λ same. omega arith in
        subst (IsAwaited last r) (sym (ap (λ n. get_or t'.timers (16 * n + j) None) arrays.points ∙ other-timer (16 * length t.arrays.items + j) away)) (timed.turn j r (ap (λ xs. get_or xs j None) (sym pending) ∙ is));
  }

-- ---- a lease comes

module _ (t t' : Tables) (key : ℕ) (lease : Lease) (k : IsKept t) (free : get_or t.leases key None ≡ None) (key-in : key < length t.leases) (leases : t'.leases ≡ set t.leases key (Some lease))
    (empty : entry_in t.arrays.items lease.point lease.priority ≡ None) (arrays : IsEntrySet t.arrays.items t'.arrays.items lease.point lease.priority (Some (entry.Lease key)))
    (pending : t'.pending.items ≡ t.pending.items) (timers : t'.timers ≡ set t.timers key (Some lease.until)) (point : lease.point < length t.arrays.items) (low : 1 ≤ lease.priority) (high : lease.priority ≤ 16) where
  put-here : get_or t'.leases key None ≡ Some lease
  put-here = ap (λ xs. get_or xs key None) leases ∙ get_or-set_same t.leases key (Some lease) None key-in

  put-other : (j : ℕ) → j ≢ key → get_or t'.leases j None ≡ get_or t.leases j None
  put-other j differs = ap (λ xs. get_or xs j None) leases ∙ get_or-set_other t.leases key j (Some lease) None differs

  put-timer : (j : ℕ) → j ≢ key → get_or t'.timers j None ≡ get_or t.timers j None
  put-timer j differs = ap (λ xs. get_or xs j None) timers ∙ get_or-set_other t.timers key j (Some lease.until) None differs

  put-still : (p q : ℕ) (to : Entry) → entry_in t'.arrays.items p q ≡ Some to →
      ((p ≡ lease.point) × (q ≡ lease.priority) × (to ≡ entry.Lease key)) ⊎ ((p ≡ lease.point → q ≡ lease.priority → ⊥) × (entry_in t.arrays.items p q ≡ Some to))
  put-still p q to is = elim (one-or-other lease.point lease.priority p q) [
    | inl (one, two) ↦ let here = arrays.here in let moved : entry_in t'.arrays.items p q ≡ Some (entry.Lease key) = ap (λ n. entry_in t'.arrays.items n q) one ∙ ap (entry_in t'.arrays.items lease.point) two ∙ here in inl (one, two, (cc))
    | inr differs ↦ inr (differs, sym (arrays.others p q differs) ∙ is)
  ]

  not-free : (p q j : ℕ) → entry_in t.arrays.items p q ≡ Some (entry.Lease j) → j ≢ key
  not-free p q j is same = subst (IsLeaseOf p q) (ap (λ n. get_or t.leases n None) same ∙ free) (k.keyed p q j is)

  put-stays : (p q : ℕ) → (p ≡ lease.point → q ≡ lease.priority → ⊥) → (lease_at t' p q ≡ lease_at t p q) × (pending_at t' p q ≡ pending_at t p q)
  unfolding lease_at pending_at
  put-stays p q differs = by (entry_in t.arrays.items p q) refl
    where
      by : (to : Option Entry) → entry_in t.arrays.items p q ≡ to → (lease_of t'.leases (entry_in t'.arrays.items p q) ≡ lease_of t.leases (entry_in t.arrays.items p q)) × (pending_of t'.pending.items (entry_in t'.arrays.items p q) ≡ pending_of t.pending.items (entry_in t.arrays.items p q))
      by None is = rw (arrays.others p q differs, is) (refl, refl)
      by (Some (entry.Lease j)) is = rw (arrays.others p q differs, is) ((put-other j (not-free p q j is)), refl)
      by (Some (entry.Pending j)) is = rw (arrays.others p q differs, is) (refl, (ap (λ xs. get_or xs j None) pending))

  pub moved-put_lease : IsMoved t t' lease.point lease.priority (Some lease) None
  unfolding lease_at pending_at
  moved-put_lease = record {
    lease = ap (lease_of t'.leases) arrays.here ∙ put-here;
    pending = ap (pending_of t'.pending.items) arrays.here;
    others = put-stays;
    points = arrays.points;
  }

  put-keyed : (p q j : ℕ) → entry_in t'.arrays.items p q ≡ Some (entry.Lease j) → IsLeaseOf p q (get_or t'.leases j None)
  put-keyed p q j is = elim (put-still p q (entry.Lease j) is) [
    | inl (one, two, same) ↦ let it : j ≡ key = cc in subst (IsLeaseOf p q) (sym (ap (λ n. get_or t'.leases n None) it ∙ put-here)) ((sym one), (sym two))
    | inr (differs, before) ↦ subst (IsLeaseOf p q) (sym (put-other j (not-free p q j before))) (k.keyed p q j before)
  ]

  put-held : (j : ℕ) (other : Lease) → get_or t'.leases j None ≡ Some other → entry_in t'.arrays.items other.point other.priority ≡ Some (entry.Lease j)
  put-held j other is = elim (cases_eq j key) [
    | inl same ↦
        let here = put-here in let it : lease ≡ other = let now : get_or t'.leases j None ≡ Some lease = ap (λ n. get_or t'.leases n None) same ∙ here in cc in
        subst (λ (l : Lease). entry_in t'.arrays.items l.point l.priority ≡ Some (entry.Lease j)) it (arrays.here ∙ ap (λ n. Some (entry.Lease n)) (sym same))
    | inr differs ↦
        let before : entry_in t.arrays.items other.point other.priority ≡ Some (entry.Lease j) = k.held j other (sym (put-other j differs) ∙ is) in
        arrays.others other.point other.priority (apart-by (entry_in t.arrays.items) lease.point lease.priority other.point other.priority (λ same. cc)) ∙ before
  ]

  put-played : (p q j : ℕ) → entry_in t'.arrays.items p q ≡ Some (entry.Pending j) → IsPendingOf p q (get_or t'.pending.items j None)
  put-played p q j is = elim (put-still p q (entry.Pending j) is) [
    | inl (_, _, same) ↦ absurd (cc)
    | inr (_, before) ↦ subst (λ xs. IsPendingOf p q (get_or xs j None)) (sym pending) (k.played p q j before)
  ]

  put-kept : (j : ℕ) (r : Pending) → get_or t'.pending.items j None ≡ Some r → (entry_in t'.arrays.items r.point r.priority ≡ Some (entry.Pending j)) × (j ≡ number r.point r.priority)
  put-kept j r is =
      let before = k.kept j r (ap (λ xs. get_or xs j None) (sym pending) ∙ is) in
      let here : entry_in t.arrays.items r.point r.priority ≡ Some (entry.Pending j) = before.0 in
      (arrays.others r.point r.priority (apart-by (entry_in t.arrays.items) lease.point lease.priority r.point r.priority (λ same. cc)) ∙ here, before.1)

  put-within : (p q : ℕ) (to : Entry) → entry_in t'.arrays.items p q ≡ Some to → (p < length t'.arrays.items) × (1 ≤ q) × (q ≤ 16)
  put-within p q to is = let same = arrays.points in elim (put-still p q to is) [
    | inl (one, two, _) ↦ ((omega arith), (omega arith), (omega arith))
    | inr (_, before) ↦ let at = k.within p q to before in ((omega arith), at.1, at.2)
  ]

  pub kept-put_lease : t'.live ≡ t.live + 1 → t'.under_way ≡ t.under_way → IsKept t'
  kept-put_lease more as_many =
      let same = arrays.points in
      let was = nothing-there t lease.point lease.priority empty in
      let none : length (option_to_list (lease_at t lease.point lease.priority)) ≡ 0 = ap (λ o. length (option_to_list o)) was.0 in
      let too : length (option_to_list (pending_at t lease.point lease.priority)) ≡ 0 = ap (λ o. length (option_to_list o)) was.1 in
      record {
        keyed = put-keyed;
        held = put-held;
        played = put-played;
        kept = put-kept;
        within = put-within;
        keys = ap length leases ∙ length-set t.leases key (Some lease) ∙ k.keys ∙ ap (λ n. 16 * n) (sym same);
        numbers = ap length pending ∙ k.numbers ∙ ap (λ n. 16 * n) (sym same);
        timers = ap length timers ∙ length-set t.timers key (Some lease.until) ∙ k.timers ∙ ap (λ n. 32 * n) (sym same);
        few = omega (arith, k.few);
        counted = omega (arith, k.counted, ap (count_by is_some) leases, sum_by-set (λ (slot : Option Lease). cond (is_some slot) 1 0) t.leases key (Some lease) None key-in, ap (λ (slot : Option Lease). cond {A = ℕ} (is_some slot) 1 0) free);
        live = omega (arith, k.live, live-moved t t' lease.point lease.priority (Some lease) None moved-put_lease point low high);
        under_way = omega (arith, k.under_way, under_way-moved t t' lease.point lease.priority (Some lease) None moved-put_lease point low high);
      }

  pub timed-put_lease : (last : ℕ) → IsTimed last t → IsTimed last t'
  timed-put_lease last timed = record {
    until = λ j other is. elim (cases_eq j key) [
      | inl same ↦
          let here = put-here in let it : lease ≡ other = let now : get_or t'.leases j None ≡ Some lease = ap (λ n. get_or t'.leases n None) same ∙ here in cc in
          let keys = k.keys in let all-timers = k.timers in
          let timer : get_or t'.timers j None ≡ Some lease.until = ap (λ n. get_or t'.timers n None) same ∙ ap (λ xs. get_or xs key None) timers ∙ get_or-set_same t.timers key (Some lease.until) None (omega arith) in
          subst (IsBy other.until) (sym timer) (subst (λ (l : Lease). lease.until ≤ l.until) it (omega arith))
      | inr differs ↦ subst (IsBy other.until) (sym (put-timer j differs)) (timed.until j other (sym (put-other j differs) ∙ is))
    ];
    turn = λ j r is.
        let keys = k.keys in
        let away : 16 * length t.arrays.items + j ≢ key = λ same. omega arith in
        subst (IsAwaited last r) (sym (ap (λ n. get_or t'.timers (16 * n + j) None) arrays.points ∙ put-timer (16 * length t.arrays.items + j) away)) (timed.turn j r (ap (λ xs. get_or xs j None) (sym pending) ∙ is));
  }

-- where a slot is empty a key is free, and there are fewer leases than slots
pub key-free : (t : Tables) (lease : Lease) → IsKept t → lease.point < length t.arrays.items → 1 ≤ lease.priority → lease.priority ≤ 16 → entry_in t.arrays.items lease.point lease.priority ≡ None →
    count_by is_some t.leases < length t.leases
key-free t lease k point low high empty =
    omega (arith, k.counted, k.live, k.keys, fewer-all (lease_at t) (length t.arrays.items) lease.point lease.priority lease point low high (nothing-there t lease.point lease.priority empty).0)

-- ---- a reversion goes

module _ (t t' : Tables) (p q : ℕ) (k : IsKept t) (stood : entry_in t.arrays.items p q ≡ Some (entry.Pending (number p q))) (leases : t'.leases ≡ t.leases)
    (arrays : IsEntrySet t.arrays.items t'.arrays.items p q None) (pending : t'.pending.items ≡ set t.pending.items (number p q) None) (timers : t'.timers ≡ set t.timers (16 * length t.arrays.items + number p q) None) where
  out-in : (p < length t.arrays.items) × (1 ≤ q) × (q ≤ 16)
  out-in = k.within p q (entry.Pending (number p q)) stood

  out-number : number p q < length t.pending.items
  out-number = let at = out-in in let a = at.0 in let b = at.1 in let c = at.2 in let n = k.numbers in omega (arith, number-within p q (length t.arrays.items) at.0 at.1 at.2)

  out-none : get_or t'.pending.items (number p q) None ≡ None
  out-none = ap (λ xs. get_or xs (number p q) None) pending ∙ get_or-set_same t.pending.items (number p q) None None out-number

  out-other : (j : ℕ) → j ≢ number p q → get_or t'.pending.items j None ≡ get_or t.pending.items j None
  out-other j differs = ap (λ xs. get_or xs j None) pending ∙ get_or-set_other t.pending.items (number p q) j None None differs

  out-timer : (j : ℕ) → j ≢ 16 * length t.arrays.items + number p q → get_or t'.timers j None ≡ get_or t.timers j None
  out-timer j differs = ap (λ xs. get_or xs j None) timers ∙ get_or-set_other t.timers (16 * length t.arrays.items + number p q) j None None differs

  out-still : (a b : ℕ) (to : Entry) → entry_in t'.arrays.items a b ≡ Some to → (a ≡ p → b ≡ q → ⊥) × (entry_in t.arrays.items a b ≡ Some to)
  out-still a b to is = elim (one-or-other p q a b) [
    | inl (one, two) ↦ let here = arrays.here in let moved : entry_in t'.arrays.items a b ≡ None = ap (λ n. entry_in t'.arrays.items n b) one ∙ ap (entry_in t'.arrays.items p) two ∙ here in absurd (cc)
    | inr differs ↦ (differs, sym (arrays.others a b differs) ∙ is)
  ]

  out-key : (a b j : ℕ) → (a ≡ p → b ≡ q → ⊥) → entry_in t.arrays.items a b ≡ Some (entry.Pending j) → j ≢ number p q
  out-key a b j differs is same =
      let one = reverting a b (get_or t.pending.items j None) (k.played a b j is) in
      let other = reverting p q (get_or t.pending.items (number p q) None) (k.played p q (number p q) stood) in
      let o1 = one.1 in let o2 = one.2 in let o3 = one.3 in let p1 = other.1 in let p2 = other.2 in let p3 = other.3 in
      let there : get_or t.pending.items j None ≡ get_or t.pending.items (number p q) None = ap (λ n. get_or t.pending.items n None) same in
      let it : one.0 ≡ other.0 = cc in
      differs (sym o2 ∙ ap (λ (r : Pending). r.point) it ∙ p2) (sym o3 ∙ ap (λ (r : Pending). r.priority) it ∙ p3)

  out-stays : (a b : ℕ) → (a ≡ p → b ≡ q → ⊥) → (lease_at t' a b ≡ lease_at t a b) × (pending_at t' a b ≡ pending_at t a b)
  unfolding lease_at pending_at
  out-stays a b differs = by (entry_in t.arrays.items a b) refl
    where
      by : (to : Option Entry) → entry_in t.arrays.items a b ≡ to → (lease_of t'.leases (entry_in t'.arrays.items a b) ≡ lease_of t.leases (entry_in t.arrays.items a b)) × (pending_of t'.pending.items (entry_in t'.arrays.items a b) ≡ pending_of t.pending.items (entry_in t.arrays.items a b))
      by None is = rw (arrays.others a b differs, is) (refl, refl)
      by (Some (entry.Lease j)) is = rw (arrays.others a b differs, is) ((ap (λ xs. get_or xs j None) leases), refl)
      by (Some (entry.Pending j)) is = rw (arrays.others a b differs, is) (refl, (out-other j (out-key a b j differs is)))

  pub moved-taken_pending : IsMoved t t' p q None None
  unfolding lease_at pending_at
  moved-taken_pending = record {
    lease = ap (lease_of t'.leases) arrays.here;
    pending = ap (pending_of t'.pending.items) arrays.here;
    others = out-stays;
    points = arrays.points;
  }

  out-held : (j : ℕ) (other : Lease) → get_or t'.leases j None ≡ Some other → entry_in t'.arrays.items other.point other.priority ≡ Some (entry.Lease j)
  out-held j other is =
      let before : entry_in t.arrays.items other.point other.priority ≡ Some (entry.Lease j) = k.held j other (ap (λ xs. get_or xs j None) (sym leases) ∙ is) in
      arrays.others other.point other.priority (apart-by (entry_in t.arrays.items) p q other.point other.priority (λ same. cc)) ∙ before

  out-played : (a b j : ℕ) → entry_in t'.arrays.items a b ≡ Some (entry.Pending j) → IsPendingOf a b (get_or t'.pending.items j None)
  out-played a b j is = let before = out-still a b (entry.Pending j) is in
      subst (IsPendingOf a b) (sym (out-other j (out-key a b j before.0 before.1))) (k.played a b j before.1)

  out-left : (j : ℕ) (r : Pending) → get_or t'.pending.items j None ≡ Some r → (j ≢ number p q) × (get_or t.pending.items j None ≡ Some r)
  out-left j r is = elim (cases_eq j (number p q)) [
    | inl same ↦ let gone = out-none in let here : get_or t'.pending.items j None ≡ None = ap (λ n. get_or t'.pending.items n None) same ∙ gone in absurd (cc)
    | inr differs ↦ (differs, sym (out-other j differs) ∙ is)
  ]

  out-kept : (j : ℕ) (r : Pending) → get_or t'.pending.items j None ≡ Some r → (entry_in t'.arrays.items r.point r.priority ≡ Some (entry.Pending j)) × (j ≡ number r.point r.priority)
  out-kept j r is =
      let left = out-left j r is in
      let before = k.kept j r left.1 in
      let here : entry_in t.arrays.items r.point r.priority ≡ Some (entry.Pending j) = before.0 in
      (arrays.others r.point r.priority (apart-by (entry_in t.arrays.items) p q r.point r.priority (λ same. left.0 (cc))) ∙ here, before.1)

  pub kept-taken_pending : t'.live ≡ t.live → t'.under_way + 1 ≡ t.under_way → IsKept t'
  kept-taken_pending as_many fewer =
      let at = out-in in
      let same = arrays.points in
      let was = reverting p q (get_or t.pending.items (number p q) None) (k.played p q (number p q) stood) in
      let some : pending_at t p q ≡ Some was.0 = pending-there t p q (number p q) stood ∙ was.1 in
      let one : length (option_to_list (pending_at t p q)) ≡ 1 = ap (λ o. length (option_to_list o)) some in
      let none : length (option_to_list (lease_at t p q)) ≡ 0 = ap (λ o. length (option_to_list o)) (no-lease-there t p q (number p q) stood) in
      record {
        keyed = λ a b j is. subst (λ xs. IsLeaseOf a b (get_or xs j None)) (sym leases) (k.keyed a b j (out-still a b (entry.Lease j) is).1);
        held = out-held;
        played = out-played;
        kept = out-kept;
        within = λ a b to is. let in-old = k.within a b to (out-still a b to is).1 in ((omega arith), in-old.1, in-old.2);
        keys = ap length leases ∙ k.keys ∙ ap (λ n. 16 * n) (sym same);
        numbers = ap length pending ∙ length-set t.pending.items (number p q) None ∙ k.numbers ∙ ap (λ n. 16 * n) (sym same);
        timers = ap length timers ∙ length-set t.timers (16 * length t.arrays.items + number p q) None ∙ k.timers ∙ ap (λ n. 32 * n) (sym same);
        few = omega (arith, k.few);
        counted = ap (count_by is_some) leases ∙ k.counted ∙ sym as_many;
        live = omega (arith, k.live, live-moved t t' p q None None moved-taken_pending at.0 at.1 at.2);
        under_way = omega (arith, k.under_way, under_way-moved t t' p q None None moved-taken_pending at.0 at.1 at.2);
      }

  pub some-under_way : 0 < t.under_way
  some-under_way =
      let at = out-in in
      let was = reverting p q (get_or t.pending.items (number p q) None) (k.played p q (number p q) stood) in
      let some : pending_at t p q ≡ Some was.0 = pending-there t p q (number p q) stood ∙ was.1 in
      let one : length (option_to_list (pending_at t p q)) ≡ 1 = ap (λ o. length (option_to_list o)) some in
      omega (arith, k.under_way, under_way-moved t t' p q None None moved-taken_pending at.0 at.1 at.2)

  pub timed-taken_pending : (last : ℕ) → IsTimed last t → IsTimed last t'
  timed-taken_pending last timed = record {
    until = λ j other is.
        let before : get_or t.leases j None ≡ Some other = ap (λ xs. get_or xs j None) (sym leases) ∙ is in
        let few = within-of t.leases j other before in let keys = k.keys in
        let away : j ≢ 16 * length t.arrays.items + number p q = λ same. omega arith in
        subst (IsBy other.until) (sym (out-timer j away)) (timed.until j other before);
    turn = λ j r is.
        let left = out-left j r is in
        let away : 16 * length t.arrays.items + j ≢ 16 * length t.arrays.items + number p q = λ same. left.0 (omega arith) in
        subst (IsAwaited last r) (sym (ap (λ n. get_or t'.timers (16 * n + j) None) arrays.points ∙ out-timer (16 * length t.arrays.items + j) away)) (timed.turn j r left.1);
  }

-- ---- a reversion comes

module _ (t t' : Tables) (r : Pending) (next : ℕ) (k : IsKept t) (empty : entry_in t.arrays.items r.point r.priority ≡ None) (leases : t'.leases ≡ t.leases)
    (arrays : IsEntrySet t.arrays.items t'.arrays.items r.point r.priority (Some (entry.Pending (number r.point r.priority)))) (pending : t'.pending.items ≡ set t.pending.items (number r.point r.priority) (Some r))
    (timers : t'.timers ≡ set t.timers (16 * length t.arrays.items + number r.point r.priority) (Some next)) (point : r.point < length t.arrays.items) (low : 1 ≤ r.priority) (high : r.priority ≤ 16) where
  come-number : number r.point r.priority < length t.pending.items
  come-number = let n = k.numbers in omega (arith, number-within r.point r.priority (length t.arrays.items) point low high)

  come-here : get_or t'.pending.items (number r.point r.priority) None ≡ Some r
  come-here = ap (λ xs. get_or xs (number r.point r.priority) None) pending ∙ get_or-set_same t.pending.items (number r.point r.priority) (Some r) None come-number

  come-other : (j : ℕ) → j ≢ number r.point r.priority → get_or t'.pending.items j None ≡ get_or t.pending.items j None
  come-other j differs = ap (λ xs. get_or xs j None) pending ∙ get_or-set_other t.pending.items (number r.point r.priority) j (Some r) None differs

  come-timer : (j : ℕ) → j ≢ 16 * length t.arrays.items + number r.point r.priority → get_or t'.timers j None ≡ get_or t.timers j None
  come-timer j differs = ap (λ xs. get_or xs j None) timers ∙ get_or-set_other t.timers (16 * length t.arrays.items + number r.point r.priority) j (Some next) None differs

  come-still : (a b : ℕ) (to : Entry) → entry_in t'.arrays.items a b ≡ Some to →
      ((a ≡ r.point) × (b ≡ r.priority) × (to ≡ entry.Pending (number r.point r.priority))) ⊎ ((a ≡ r.point → b ≡ r.priority → ⊥) × (entry_in t.arrays.items a b ≡ Some to))
  come-still a b to is = elim (one-or-other r.point r.priority a b) [
    | inl (one, two) ↦ let here = arrays.here in let moved : entry_in t'.arrays.items a b ≡ Some (entry.Pending (number r.point r.priority)) = ap (λ n. entry_in t'.arrays.items n b) one ∙ ap (entry_in t'.arrays.items r.point) two ∙ here in inl (one, two, (cc))
    | inr differs ↦ inr (differs, sym (arrays.others a b differs) ∙ is)
  ]

  come-key : (a b j : ℕ) → (a ≡ r.point → b ≡ r.priority → ⊥) → entry_in t.arrays.items a b ≡ Some (entry.Pending j) → j ≢ number r.point r.priority
  come-key a b j differs is same =
      let one = reverting a b (get_or t.pending.items j None) (k.played a b j is) in
      let at = k.within a b (entry.Pending j) is in
      let kept = k.kept j one.0 one.1 in
      let its : j ≡ number a b = kept.1 ∙ ap (λ n. number n one.0.priority) one.2 ∙ ap (number a) one.3 in
      let both = number-apart r.point r.priority a b low high at.1 at.2 (sym its ∙ same) in differs both.0 both.1

  come-stays : (a b : ℕ) → (a ≡ r.point → b ≡ r.priority → ⊥) → (lease_at t' a b ≡ lease_at t a b) × (pending_at t' a b ≡ pending_at t a b)
  unfolding lease_at pending_at
  come-stays a b differs = by (entry_in t.arrays.items a b) refl
    where
      by : (to : Option Entry) → entry_in t.arrays.items a b ≡ to → (lease_of t'.leases (entry_in t'.arrays.items a b) ≡ lease_of t.leases (entry_in t.arrays.items a b)) × (pending_of t'.pending.items (entry_in t'.arrays.items a b) ≡ pending_of t.pending.items (entry_in t.arrays.items a b))
      by None is = rw (arrays.others a b differs, is) (refl, refl)
      by (Some (entry.Lease j)) is = rw (arrays.others a b differs, is) ((ap (λ xs. get_or xs j None) leases), refl)
      by (Some (entry.Pending j)) is = rw (arrays.others a b differs, is) (refl, (come-other j (come-key a b j differs is)))

  pub moved-put_pending : IsMoved t t' r.point r.priority None (Some r)
  unfolding lease_at pending_at
  moved-put_pending = record {
    lease = ap (lease_of t'.leases) arrays.here;
    pending = ap (pending_of t'.pending.items) arrays.here ∙ come-here;
    others = come-stays;
    points = arrays.points;
  }

  come-keyed : (a b j : ℕ) → entry_in t'.arrays.items a b ≡ Some (entry.Lease j) → IsLeaseOf a b (get_or t'.leases j None)
  come-keyed a b j is = elim (come-still a b (entry.Lease j) is) [
    | inl (_, _, same) ↦ absurd (cc)
    | inr (_, before) ↦ subst (λ xs. IsLeaseOf a b (get_or xs j None)) (sym leases) (k.keyed a b j before)
  ]

  come-held : (j : ℕ) (other : Lease) → get_or t'.leases j None ≡ Some other → entry_in t'.arrays.items other.point other.priority ≡ Some (entry.Lease j)
  come-held j other is =
      let before : entry_in t.arrays.items other.point other.priority ≡ Some (entry.Lease j) = k.held j other (ap (λ xs. get_or xs j None) (sym leases) ∙ is) in
      arrays.others other.point other.priority (apart-by (entry_in t.arrays.items) r.point r.priority other.point other.priority (λ same. cc)) ∙ before

  come-played : (a b j : ℕ) → entry_in t'.arrays.items a b ≡ Some (entry.Pending j) → IsPendingOf a b (get_or t'.pending.items j None)
  come-played a b j is = elim (come-still a b (entry.Pending j) is) [
    | inl (one, two, same) ↦ let it : j ≡ number r.point r.priority = cc in subst (IsPendingOf a b) (sym (ap (λ n. get_or t'.pending.items n None) it ∙ come-here)) ((sym one), (sym two))
    | inr (differs, before) ↦ subst (IsPendingOf a b) (sym (come-other j (come-key a b j differs before))) (k.played a b j before)
  ]

  come-kept : (j : ℕ) (other : Pending) → get_or t'.pending.items j None ≡ Some other → (entry_in t'.arrays.items other.point other.priority ≡ Some (entry.Pending j)) × (j ≡ number other.point other.priority)
  come-kept j other is = elim (cases_eq j (number r.point r.priority)) [
    | inl same ↦
        let here = come-here in let it : r ≡ other = let now : get_or t'.pending.items j None ≡ Some r = ap (λ n. get_or t'.pending.items n None) same ∙ here in cc in
        subst (λ (x : Pending). (entry_in t'.arrays.items x.point x.priority ≡ Some (entry.Pending j)) × (j ≡ number x.point x.priority)) it (arrays.here ∙ ap (λ n. Some (entry.Pending n)) (sym same), same)
    | inr differs ↦
        let before = k.kept j other (sym (come-other j differs) ∙ is) in
        let there : entry_in t.arrays.items other.point other.priority ≡ Some (entry.Pending j) = before.0 in
        (arrays.others other.point other.priority (apart-by (entry_in t.arrays.items) r.point r.priority other.point other.priority (λ same. cc)) ∙ there, before.1)
  ]

  come-within : (a b : ℕ) (to : Entry) → entry_in t'.arrays.items a b ≡ Some to → (a < length t'.arrays.items) × (1 ≤ b) × (b ≤ 16)
  come-within a b to is = let same = arrays.points in elim (come-still a b to is) [
    | inl (one, two, _) ↦ ((omega arith), (omega arith), (omega arith))
    | inr (_, before) ↦ let at = k.within a b to before in ((omega arith), at.1, at.2)
  ]

  pub kept-put_pending : t'.live ≡ t.live → t'.under_way ≡ t.under_way + 1 → IsKept t'
  kept-put_pending as_many more =
      let same = arrays.points in
      let was = nothing-there t r.point r.priority empty in
      let none : length (option_to_list (lease_at t r.point r.priority)) ≡ 0 = ap (λ o. length (option_to_list o)) was.0 in
      let too : length (option_to_list (pending_at t r.point r.priority)) ≡ 0 = ap (λ o. length (option_to_list o)) was.1 in
      record {
        keyed = come-keyed;
        held = come-held;
        played = come-played;
        kept = come-kept;
        within = come-within;
        keys = ap length leases ∙ k.keys ∙ ap (λ n. 16 * n) (sym same);
        numbers = ap length pending ∙ length-set t.pending.items (number r.point r.priority) (Some r) ∙ k.numbers ∙ ap (λ n. 16 * n) (sym same);
        timers = ap length timers ∙ length-set t.timers (16 * length t.arrays.items + number r.point r.priority) (Some next) ∙ k.timers ∙ ap (λ n. 32 * n) (sym same);
        few = omega (arith, k.few);
        counted = ap (count_by is_some) leases ∙ k.counted ∙ sym as_many;
        live = omega (arith, k.live, live-moved t t' r.point r.priority None (Some r) moved-put_pending point low high);
        under_way = omega (arith, k.under_way, under_way-moved t t' r.point r.priority None (Some r) moved-put_pending point low high);
      }

  pub few-under_way : t.under_way < 65536
  few-under_way =
      omega (arith, k.under_way, k.few, fewer-all (pending_at t) (length t.arrays.items) r.point r.priority r point low high (nothing-there t r.point r.priority empty).1)

  pub timed-put_pending : (last : ℕ) → IsTimed last t → IsAwaited last r (Some next) → IsTimed last t'
  timed-put_pending last timed awaited = record {
    until = λ j other is.
        let before : get_or t.leases j None ≡ Some other = ap (λ xs. get_or xs j None) (sym leases) ∙ is in
        let few = within-of t.leases j other before in let keys = k.keys in
        let away : j ≢ 16 * length t.arrays.items + number r.point r.priority = λ same. omega arith in
        subst (IsBy other.until) (sym (come-timer j away)) (timed.until j other before);
    turn = λ j other is. elim (cases_eq j (number r.point r.priority)) [
      | inl same ↦
          let here = come-here in let it : r ≡ other = let now : get_or t'.pending.items j None ≡ Some r = ap (λ n. get_or t'.pending.items n None) same ∙ here in cc in
          let few = come-number in let numbers = k.numbers in let all-timers = k.timers in
          let place : 16 * length t'.arrays.items + j ≡ 16 * length t.arrays.items + number r.point r.priority = ap (λ n. 16 * n + j) arrays.points ∙ ap (λ n. 16 * length t.arrays.items + n) same in
          let timer : get_or t'.timers (16 * length t'.arrays.items + j) None ≡ Some next = ap (λ n. get_or t'.timers n None) place ∙ ap (λ xs. get_or xs (16 * length t.arrays.items + number r.point r.priority) None) timers
          ∙ get_or-set_same t.timers (16 * length t.arrays.items + number r.point r.priority) (Some next) None (omega arith) in
          subst (IsAwaited last other) (sym timer) (subst (λ (x : Pending). IsAwaited last x (Some next)) it awaited)
      | inr differs ↦
          let away : 16 * length t.arrays.items + j ≢ 16 * length t.arrays.items + number r.point r.priority = λ same. differs (omega arith) in
          subst (IsAwaited last other) (sym (ap (λ n. get_or t'.timers (16 * n + j) None) arrays.points ∙ come-timer (16 * length t.arrays.items + j) away)) (timed.turn j other (sym (come-other j differs) ∙ is))
    ];
  }

-- ---- a lease gets another end

module _ (t t' : Tables) (key until : ℕ) (lease : Lease) (k : IsKept t) (there : get_or t.leases key None ≡ Some lease) (leases : t'.leases ≡ set t.leases key (Some (record lease { until = until })))
    (arrays : t'.arrays.items ≡ t.arrays.items) (pending : t'.pending.items ≡ t.pending.items) (timers : t'.timers ≡ t.timers) where
  longer : Lease
  longer = record lease { until = until }

  again-in : key < length t.leases
  again-in = within-of t.leases key lease there

  again-here : get_or t'.leases key None ≡ Some (record lease { until = until })
  again-here = ap (λ xs. get_or xs key None) leases ∙ get_or-set_same t.leases key (Some (record lease { until = until })) None again-in

  again-other : (j : ℕ) → j ≢ key → get_or t'.leases j None ≡ get_or t.leases j None
  again-other j differs = ap (λ xs. get_or xs j None) leases ∙ get_or-set_other t.leases key j (Some (record lease { until = until })) None differs

  again-entry : (a b : ℕ) → entry_in t'.arrays.items a b ≡ entry_in t.arrays.items a b
  again-entry a b = ap (λ xs. entry_in xs a b) arrays

  again-stays : (a b : ℕ) → (a ≡ lease.point → b ≡ lease.priority → ⊥) → (lease_at t' a b ≡ lease_at t a b) × (pending_at t' a b ≡ pending_at t a b)
  unfolding lease_at pending_at
  again-stays a b differs = by (entry_in t.arrays.items a b) refl
    where
      by : (to : Option Entry) → entry_in t.arrays.items a b ≡ to → (lease_of t'.leases (entry_in t'.arrays.items a b) ≡ lease_of t.leases (entry_in t.arrays.items a b)) × (pending_of t'.pending.items (entry_in t'.arrays.items a b) ≡ pending_of t.pending.items (entry_in t.arrays.items a b))
      by None is = rw (again-entry a b, is) (refl, refl)
      by (Some (entry.Lease j)) is = rw (again-entry a b, is) (
        (again-other j (λ same.
            let at : IsLeaseOf a b (Some lease) = subst (IsLeaseOf a b) (ap (λ n. get_or t.leases n None) same ∙ there) (k.keyed a b j is) in differs (sym at.0) (sym at.1))),
        refl,
      )
      by (Some (entry.Pending j)) is = rw (again-entry a b, is) (refl, (ap (λ xs. get_or xs j None) pending))

  pub moved-extended : IsMoved t t' lease.point lease.priority (Some (record lease { until = until })) None
  unfolding lease_at pending_at
  moved-extended = record {
    lease = ap (lease_of t'.leases) (again-entry lease.point lease.priority ∙ k.held key lease there) ∙ again-here;
    pending = ap (pending_of t'.pending.items) (again-entry lease.point lease.priority ∙ k.held key lease there);
    others = again-stays;
    points = ap length arrays;
  }

  again-keyed : (a b j : ℕ) → entry_in t'.arrays.items a b ≡ Some (entry.Lease j) → IsLeaseOf a b (get_or t'.leases j None)
  again-keyed a b j is =
      let before : IsLeaseOf a b (get_or t.leases j None) = k.keyed a b j (sym (again-entry a b) ∙ is) in
      elim (cases_eq j key) [
        | inl same ↦
            let at : IsLeaseOf a b (Some lease) = subst (IsLeaseOf a b) (ap (λ n. get_or t.leases n None) same ∙ there) before in
            subst (IsLeaseOf a b) (sym (ap (λ n. get_or t'.leases n None) same ∙ again-here)) at
        | inr differs ↦ subst (IsLeaseOf a b) (sym (again-other j differs)) before
      ]

  again-held : (j : ℕ) (other : Lease) → get_or t'.leases j None ≡ Some other → entry_in t'.arrays.items other.point other.priority ≡ Some (entry.Lease j)
  again-held j other is = elim (cases_eq j key) [
    | inl same ↦
        let here = again-here in let it : record lease { until = until } ≡ other = let now : get_or t'.leases j None ≡ Some (record lease { until = until }) = ap (λ n. get_or t'.leases n None) same ∙ here in cc in
        subst (λ (l : Lease). entry_in t'.arrays.items l.point l.priority ≡ Some (entry.Lease j)) it (again-entry lease.point lease.priority ∙ k.held key lease there ∙ ap (λ n. Some (entry.Lease n)) (sym same))
    | inr differs ↦ again-entry other.point other.priority ∙ k.held j other (sym (again-other j differs) ∙ is)
  ]

  pub kept-extended : t'.live ≡ t.live → t'.under_way ≡ t.under_way → IsKept t'
  kept-extended as_many too =
      let stood = k.held key lease there in
      let at = k.within lease.point lease.priority (entry.Lease key) stood in
      let was : lease_at t lease.point lease.priority ≡ Some lease = lease-there t lease.point lease.priority key stood ∙ there in
      let one : length (option_to_list (lease_at t lease.point lease.priority)) ≡ 1 = ap (λ o. length (option_to_list o)) was in
      let none : length (option_to_list (pending_at t lease.point lease.priority)) ≡ 0 = ap (λ o. length (option_to_list o)) (no-pending-there t lease.point lease.priority key stood) in
      record {
        keyed = again-keyed;
        held = again-held;
        played = λ a b j is. subst (λ xs. IsPendingOf a b (get_or xs j None)) (sym pending) (k.played a b j (sym (again-entry a b) ∙ is));
        kept = λ j r is. let before = k.kept j r (ap (λ xs. get_or xs j None) (sym pending) ∙ is) in (again-entry r.point r.priority ∙ before.0, before.1);
        within = λ a b to is. let in-old = k.within a b to (sym (again-entry a b) ∙ is) in let same : length t'.arrays.items ≡ length t.arrays.items = ap length arrays in ((omega arith), in-old.1, in-old.2);
        keys = ap length leases ∙ length-set t.leases key (Some (record lease { until = until })) ∙ k.keys ∙ ap (λ xs. 16 * length xs) (sym arrays);
        numbers = ap length pending ∙ k.numbers ∙ ap (λ xs. 16 * length xs) (sym arrays);
        timers = ap length timers ∙ k.timers ∙ ap (λ xs. 32 * length xs) (sym arrays);
        few = omega (arith, k.few, ap length arrays);
        counted = omega (arith, k.counted, ap (count_by is_some) leases, sum_by-set (λ (slot : Option Lease). cond (is_some slot) 1 0) t.leases key (Some (record lease { until = until })) None again-in, ap (λ (slot : Option Lease). cond {A = ℕ} (is_some slot) 1 0) there);
        live = omega (arith, k.live, live-moved t t' lease.point lease.priority (Some (record lease { until = until })) None moved-extended at.0 at.1 at.2);
        under_way = omega (arith, k.under_way, under_way-moved t t' lease.point lease.priority (Some (record lease { until = until })) None moved-extended at.0 at.1 at.2);
      }

  pub timed-extended : lease.until ≤ until → (last : ℕ) → IsTimed last t → IsTimed last t'
  timed-extended later last timed = record {
    until = λ j other is. elim (cases_eq j key) [
      | inl same ↦
          let here = again-here in let it : record lease { until = until } ≡ other = let now : get_or t'.leases j None ≡ Some (record lease { until = until }) = ap (λ n. get_or t'.leases n None) same ∙ here in cc in
          let before : IsBy lease.until (get_or t.timers j None) = timed.until j lease (ap (λ n. get_or t.leases n None) same ∙ there) in
          subst (λ (l : Lease). IsBy l.until (get_or t'.timers j None)) it (subst (λ xs. IsBy until (get_or xs j None)) (sym timers) (by-later (get_or t.timers j None) later before))
      | inr differs ↦ subst (λ xs. IsBy other.until (get_or xs j None)) (sym timers) (timed.until j other (sym (again-other j differs) ∙ is))
    ];
    turn = λ j r is.
        subst (IsAwaited last r) (sym (ap (λ xs. get_or t'.timers (16 * length xs + j) None) arrays ∙ ap (λ xs. get_or xs (16 * length t.arrays.items + j) None) timers)) (timed.turn j r (ap (λ xs. get_or xs j None) (sym pending) ∙ is));
  }

-- ---- a timer is set or goes

module _ (t : Tables) (timers : List (Option ℕ)) (k : IsKept t) (same : length timers ≡ length t.timers) where
  pub kept-retimed : IsKept (record t { timers = timers })
  unfolding lease_at pending_at
  kept-retimed = record {
    keyed = k.keyed;
    held = k.held;
    played = k.played;
    kept = k.kept;
    within = k.within;
    keys = k.keys;
    numbers = k.numbers;
    timers = same ∙ k.timers;
    few = k.few;
    counted = k.counted;
    live = k.live;
    under_way = k.under_way;
  }

  -- and each slot has what it had
  pub moved-retimed : (p q : ℕ) (lo : Option Lease) (po : Option Pending) → lease_at t p q ≡ lo → pending_at t p q ≡ po → IsMoved t (record t { timers = timers }) p q lo po
  unfolding lease_at pending_at
  moved-retimed p q lo po lease pending = record { lease = lease; pending = pending; others = λ a b _. (refl, refl); points = refl }

pub lease-retimed : (t : Tables) (timers : List (Option ℕ)) (p q : ℕ) → (lease_at (record t { timers = timers }) p q ≡ lease_at t p q) × (pending_at (record t { timers = timers }) p q ≡ pending_at t p q)
unfolding lease_at pending_at
lease-retimed t timers p q = (refl, refl)

module _ (last : ℕ) (t : Tables) (k : IsKept t) (timed : IsTimed last t) (key : ℕ) (to : Option ℕ) where
  pub timed-lease_timer : key < length t.leases → ((lease : Lease) → get_or t.leases key None ≡ Some lease → IsBy lease.until to) → IsTimed last (record t { timers = set t.timers key to })
  timed-lease_timer within by =
      let keys = k.keys in let all-timers = k.timers in
      record {
        until = λ j lease is. elim (cases_eq j key) [
          | inl same ↦
              let there : get_or t.leases key None ≡ Some lease = ap (λ n. get_or t.leases n None) (sym same) ∙ is in
              subst (IsBy lease.until) (sym (ap (λ n. get_or (set t.timers key to) n None) same ∙ get_or-set_same t.timers key to None (omega arith))) (by lease there)
          | inr differs ↦ subst (IsBy lease.until) (sym (get_or-set_other t.timers key j to None differs)) (timed.until j lease is)
        ];
        turn = λ j r is.
            let away : 16 * length t.arrays.items + j ≢ key = λ same. omega arith in
            subst (IsAwaited last r) (sym (get_or-set_other t.timers key (16 * length t.arrays.items + j) to None away)) (timed.turn j r is);
      }

  pub timed-pending_timer : key < length t.pending.items → ((r : Pending) → get_or t.pending.items key None ≡ Some r → IsAwaited last r to) → IsTimed last (record t { timers = set t.timers (16 * length t.arrays.items + key) to })
  timed-pending_timer within by =
      let keys = k.keys in let numbers = k.numbers in let all-timers = k.timers in
      record {
        until = λ j lease is.
            let few = within-of t.leases j lease is in
            let away : j ≢ 16 * length t.arrays.items + key = λ same. omega arith in
            subst (IsBy lease.until) (sym (get_or-set_other t.timers (16 * length t.arrays.items + key) j to None away)) (timed.until j lease is);
        turn = λ j r is. elim (cases_eq j key) [
          | inl same ↦
              let there : get_or t.pending.items key None ≡ Some r = ap (λ n. get_or t.pending.items n None) (sym same) ∙ is in
              subst (IsAwaited last r) (sym (ap (λ n. get_or (set t.timers (16 * length t.arrays.items + key) to) (16 * length t.arrays.items + n) None) same ∙ get_or-set_same t.timers (16 * length t.arrays.items + key) to None (omega arith))) (by r there)
          | inr differs ↦
              let away : 16 * length t.arrays.items + j ≢ 16 * length t.arrays.items + key = λ same. differs (omega arith) in
              subst (IsAwaited last r) (sym (get_or-set_other t.timers (16 * length t.arrays.items + key) (16 * length t.arrays.items + j) to None away)) (timed.turn j r is)
        ];
      }

pub awaits-later : (one other : ℕ) (r : Pending) (timer : Option ℕ) → one ≤ other → IsAwaited one r timer → IsAwaited other r timer
awaits-later one other r None later awaited = awaited
awaits-later one other r (Some timer) later awaited = (awaited.0, each-map (λ turn. one < turn → timer ≤ turn) (λ turn. other < turn → timer ≤ turn) (λ turn early after. early (omega arith)) (turns r.start r.steps) awaited.1)

-- what comes of later moments is no sooner
pub timed-later : (one other : ℕ) (t : Tables) → one ≤ other → IsTimed one t → IsTimed other t
timed-later one other t later timed = record {
  until = timed.until;
  turn = λ key r is. awaits-later one other r (get_or t.timers (16 * length t.arrays.items + key) None) later (timed.turn key r is);
}

-- the lease and the reversion of a key, by its slot
pub lease-of_key : (t : Tables) (key : ℕ) (lease : Lease) → IsKept t → get_or t.leases key None ≡ Some lease → (lease_at t lease.point lease.priority ≡ Some lease) × (pending_at t lease.point lease.priority ≡ None)
lease-of_key t key lease k is = let stood = k.held key lease is in (lease-there t lease.point lease.priority key stood ∙ is, no-pending-there t lease.point lease.priority key stood)

pub pending-of_key : (t : Tables) (key : ℕ) (r : Pending) → IsKept t → get_or t.pending.items key None ≡ Some r → (lease_at t r.point r.priority ≡ None) × (pending_at t r.point r.priority ≡ Some r)
pending-of_key t key r k is = let stood = (k.kept key r is).0 in (no-lease-there t r.point r.priority key stood, pending-there t r.point r.priority key stood ∙ is)

-- the key of a reversion is its slot's number
pub number-key : (t : Tables) (p q : ℕ) (r : Pending) → IsKept t → pending_at t p q ≡ Some r → get_or t.pending.items (number p q) None ≡ Some r
number-key t p q r k is =
    let at = pending-key t p q r is in
    let place = pending-placed t k p q r is in
    let its : at.0 ≡ number p q = (k.kept at.0 r at.2).1 ∙ ap (λ n. number n r.priority) place.0 ∙ ap (number p) place.1 in
    ap (λ n. get_or t.pending.items n None) (sym its) ∙ at.2

-- a slot with nothing has no entry
pub empty-slot : (t : Tables) (p q : ℕ) → IsKept t → lease_at t p q ≡ None → pending_at t p q ≡ None → entry_in t.arrays.items p q ≡ None
empty-slot t p q k lease pending = by (entry_in t.arrays.items p q) refl
  where
    by : (to : Option Entry) → entry_in t.arrays.items p q ≡ to → entry_in t.arrays.items p q ≡ None
    by None is = is
    by (Some (entry.Lease key)) is =
        let there = leased p q (get_or t.leases key None) (k.keyed p q key is) in
        let one = there.1 in let two = lease-there t p q key is in absurd (cc)
    by (Some (entry.Pending key)) is =
        let there = reverting p q (get_or t.pending.items key None) (k.played p q key is) in
        let one = there.1 in let two = pending-there t p q key is in absurd (cc)

pub moved-not : (t : Tables) (p q : ℕ) → entry_in t.arrays.items p q ≡ None → IsMoved t t p q None None
moved-not t p q empty = let none = nothing-there t p q empty in record { lease = none.0; pending = none.1; others = λ a b _. (refl, refl); points = refl }

pub copied-none : {X : Type 0} (o : Option (Bor X)) → is_some o ≡ false → option_copied o ≡ None
copied-none None none = refl
copied-none (Some x) none = absurd (cc)
