-- A transaction has a lease or a reversion exactly where a part of its record has one; which slots are alone; and what is done once.
use Rattle.std.proofs.Common.{◌≡◌, ℕ, ◌==◌, List, [], ◌∷◌, ◌++◌, map, Bool, true, false, not, ◌&&◌, ◌||◌, cond, Some, is_none, refl, ap, sym, ◌∙◌, arith}
use Rattle.std.specs.Prelude.{find, slice_get}
use Rattle.std.specs.List.{list_any, AllByRecursion}
use Rattle.std.specs.Option.{option_map_or}
use Rattle.std.proofs.lemmas.Bool.Decides.{nat_tests}
use Rattle.boss_model.specs.declared.kept.KeptPart.{KeptPart}
use Rattle.boss_model.specs.declared.kept.KeptTxn.{KeptTxn}
use Rattle.boss_model.specs.declared.state.Lease.{Lease}
use Rattle.boss_model.specs.declared.state.Pending.{Pending}
use Rattle.boss_model.specs.Happenings.{lives}
use Rattle.boss_model.specs.Lists.{member}
use Rattle.boss_model.specs.Order.{comes_before}
use Rattle.boss_model.specs.Reversions.{reversion_of, courses}
use Rattle.boss_model.specs.Sound.{Rising, Distinct}
use Rattle.boss_model.specs.State.{lease_slot, pending_slot}
use Rattle.law_time.proofs.Filters.{any-map, each-mapped, each-unmapped, each-always, Apart}
use Rattle.law_time.proofs.Orders.{each-map, each-both}
use Rattle.law_time.proofs.Slots.{lives-courses}
use Rattle.law_time.proofs.TickSound.{Pairs}
use Rattle.law_soundness.proofs.SubmitSound.{apart-turn, Pairs-Rising, Rising-Pairs, Pairs-unordered, Pairs-append, Pairs-cross, Pairs-map, not-broken}
use Rattle.boss_state_check.specs.Searches.{lease_at, pending_at, is_held, is_played, transaction_of, kept_rank}
use Rattle.boss_state_check.specs.Tests.{is_alone, is_start, is_told_lease, is_told_pending, are_distinct, is_living}
use Rattle.boss_state_check.proofs.Tested.{both, not-true, not-false, same-tests, or-true, eq, each-place, any-some, any-implies, some-found, found-passes, self-found}
use Rattle.boss_state_check.proofs.Ranked.{none-found}
use Rattle.boss_state_check.proofs.Alone.{in_slot}
use Rattle.boss_state_check.proofs.Told.{own-found, lease-told, pending-told}

-- ---- each slot has a lease or a reversion alone

free-of : (test : Lease → Bool) (leases : List Lease) → is_none (find test leases) ≡ true → list_any test leases ≡ false
free-of test [] is = refl
free-of test (x ∷ xs) is = by (test x) is (free-of test xs)
  where
    by : (b : Bool) → is_none (cond b (Some x) (find test xs)) ≡ true → (is_none (find test xs) ≡ true → list_any test xs ≡ false) → (b || list_any test xs) ≡ false
    by true none rest = sym none
    by false none rest = rest none

apart-slot : (r : Pending) (l : Lease) → Apart pending_slot r (reversion_of l) → in_slot r.point r.priority l ≡ false
apart-slot r l apart =
    let other : (comes_before (r.point ∷ r.priority ∷ []) (l.point ∷ l.priority ∷ []) && comes_before (l.point ∷ l.priority ∷ []) (r.point ∷ r.priority ∷ [])) ≡ false = apart in
    grind (arith, nat_tests)

module _ (pending : List Pending) (leases : List Lease) where
  pub slots-of : Rising pending_slot pending → Rising lease_slot leases → AllByRecursion (λ r. is_alone leases r ≡ true) pending → Rising pending_slot (courses pending leases)
  slots-of up-pending up-leases alone =
      let R = Apart pending_slot in
      let cross : AllByRecursion (λ r. AllByRecursion (R r) (map reversion_of leases)) pending =
      each-map (λ r. is_alone leases r ≡ true) (λ r. AllByRecursion (R r) (map reversion_of leases))
      (λ r none. each-mapped (R r) reversion_of leases (not-broken r leases (free-of (in_slot r.point r.priority) leases none))) pending alone in
      Pairs-Rising pending_slot (pending ++ map reversion_of leases)
      (Pairs-append R pending (map reversion_of leases) (Rising-Pairs pending_slot pending up-pending)
      (Pairs-map R reversion_of leases (Rising-Pairs lease_slot leases up-leases)) cross)

  pub slots-tests : Rising pending_slot (courses pending leases) → AllByRecursion (λ r. is_alone leases r ≡ true) pending
  slots-tests up =
      let R = Apart pending_slot in
      let pairs : Pairs R (pending ++ map reversion_of leases) = Pairs-unordered R (apart-turn pending_slot) pending_slot (pending ++ map reversion_of leases)
      (Rising-Pairs pending_slot (courses pending leases) up) in
      each-map (λ r. AllByRecursion (R r) (map reversion_of leases)) (λ r. is_alone leases r ≡ true)
      (λ r apart. ap is_none (none-found (in_slot r.point r.priority) leases
      (each-map (λ l. R r (reversion_of l)) (λ l. in_slot r.point r.priority l ≡ false) (apart-slot r) leases (each-unmapped (R r) reversion_of leases apart))))
      pending (Pairs-cross R pending (map reversion_of leases) pairs)

-- ---- what is done once

pub distinct-of : (ns : List ℕ) → are_distinct ns ≡ true → Distinct ns
distinct-of [] is = tt
distinct-of (n ∷ ns) is = let halves = both (not (member n ns)) (are_distinct ns) is in (not-true (member n ns) halves.0, distinct-of ns halves.1)

pub distinct-tests : (ns : List ℕ) → Distinct ns → are_distinct ns ≡ true
distinct-tests [] is = refl
distinct-tests (n ∷ ns) is = λ i. not-false (member n ns) is.0 i && distinct-tests ns is.1 i

-- ---- what lives

abbrev in_place : ℕ → ℕ → Pending → Bool
in_place point priority r = (r.point == point) && (r.priority == priority)

one-place : (point priority : ℕ) (x y : Pending) → in_place point priority x ≡ true → comes_before (pending_slot y) (pending_slot x) ≡ false → in_place point priority y ≡ false
one-place point priority x y here after =
    let later : comes_before (y.point ∷ y.priority ∷ []) (x.point ∷ x.priority ∷ []) ≡ false = after in
    grind (arith, nat_tests)

own-place : (r : Pending) → in_place r.point r.priority r ≡ true
own-place r = grind (arith, nat_tests)

-- each reversion is found in its slot
own-pending : (pending : List Pending) → Rising pending_slot pending → AllByRecursion (λ r. pending_at pending r.point r.priority ≡ Some r) pending
own-pending pending up = each-place (λ r. pending_at pending r.point r.priority ≡ Some r) pending
    (λ place r there. self-found pending_slot (in_place r.point r.priority) (one-place r.point r.priority) pending place r up there (own-place r))

module _ (txns : List KeptTxn) (pending : List Pending) (leases : List Lease)
    (up-txns : Rising kept_rank txns) (up-pending : Rising pending_slot pending)
    (told-leases : AllByRecursion (λ l. is_told_lease txns l ≡ true) leases) (told-pending : AllByRecursion (λ r. is_told_pending txns r ≡ true) pending)
    (place : ℕ) (t : KeptTxn) (there : slice_get txns place ≡ Some t)
    (opens : AllByRecursion (λ part. is_none part.end ≡ is_held leases t.txn part.point part.priority) t.parts) where
  own : transaction_of txns t.txn ≡ Some t
  own = own-found txns place t up-txns there

  abbrev lives_here : KeptPart → Bool
  lives_here part = is_none part.end || is_played pending t.txn part.point part.priority

  by-lease : (part : KeptPart) → is_held leases t.txn part.point part.priority ≡ true → lives t.txn (map reversion_of leases) ≡ true
  by-lease part held =
      let l = some-found (λ lease. lease.txn == t.txn) (lease_at leases part.point part.priority) held in
      any-map (λ r. r.txn == t.txn) reversion_of leases
      ∙ (found-passes (in_slot part.point part.priority) leases l.0 l.1).1 (λ lease. lease.txn == t.txn) l.2

  by-pending : (part : KeptPart) → is_played pending t.txn part.point part.priority ≡ true → lives t.txn pending ≡ true
  by-pending part played =
      let r = some-found (λ reversion. reversion.txn == t.txn) (pending_at pending part.point part.priority) played in
      (found-passes (in_place part.point part.priority) pending r.0 r.1).1 (λ reversion. reversion.txn == t.txn) r.2

  to-lives : is_living pending t ≡ true → (lives t.txn pending || lives t.txn (map reversion_of leases)) ≡ true
  to-lives some =
      let part = any-some (λ part. is_none part.end ≡ is_held leases t.txn part.point part.priority) lives_here t.parts opens some in
      by part.0 (is_none part.0.end) part.2 part.1
    where
      by : (part : KeptPart) (none : Bool) → none ≡ is_held leases t.txn part.point part.priority → (none || is_played pending t.txn part.point part.priority) ≡ true →
          (lives t.txn pending || lives t.txn (map reversion_of leases)) ≡ true
      by part true held passes = or-true (lives t.txn pending) (lives t.txn (map reversion_of leases)) (by-lease part (sym held))
      by part false held passes = ap (λ b. b || lives t.txn (map reversion_of leases)) (by-pending part passes)

  from-pending : lives t.txn pending ≡ true → is_living pending t ≡ true
  from-pending some =
      let r = any-some (λ r. (is_told_pending txns r ≡ true) × (pending_at pending r.point r.priority ≡ Some r)) (λ r. r.txn == t.txn) pending
      (each-both (λ r. is_told_pending txns r ≡ true) (λ r. pending_at pending r.point r.priority ≡ Some r) pending told-pending (own-pending pending up-pending)) some in
      let told = pending-told txns r.0 r.2.0 t own (eq r.0.txn t.txn r.1) in
      any-implies (λ part. Unit {0}) (λ part. (part.point == r.0.point) && (part.priority == r.0.priority) && is_start r.0.start part.end) lives_here
      (λ part _ passes.
      let a = both ((part.point == r.0.point) && (part.priority == r.0.priority)) (is_start r.0.start part.end) passes in
      let b = both (part.point == r.0.point) (part.priority == r.0.priority) a.0 in
      let p = eq part.point r.0.point b.0 in
      let q = eq part.priority r.0.priority b.1 in
      or-true (is_none part.end) (is_played pending t.txn part.point part.priority)
      ((λ i. is_played pending t.txn (p i) (q i)) ∙ ap (λ found. option_map_or (λ reversion. reversion.txn == t.txn) found false) r.2.1 ∙ r.1))
      t.parts (each-always (λ part. Unit {0}) (λ part. tt) t.parts) told.1

  from-lease : lives t.txn (map reversion_of leases) ≡ true → is_living pending t ≡ true
  from-lease some =
      let l = any-some (λ l. is_told_lease txns l ≡ true) (λ l. l.txn == t.txn) leases told-leases (sym (any-map (λ r. r.txn == t.txn) reversion_of leases) ∙ some) in
      let told = lease-told txns l.0 l.2 t own (eq l.0.txn t.txn l.1) in
      any-implies (λ part. Unit {0}) (λ part. (part.point == l.0.point) && (part.priority == l.0.priority) && is_none part.end) lives_here
      (λ part _ passes.
      let a = both ((part.point == l.0.point) && (part.priority == l.0.priority)) (is_none part.end) passes in
      ap (λ b. b || is_played pending t.txn part.point part.priority) a.1)
      t.parts (each-always (λ part. Unit {0}) (λ part. tt) t.parts) told.2

  from-lives : (lives t.txn pending || lives t.txn (map reversion_of leases)) ≡ true → is_living pending t ≡ true
  from-lives some = by (lives t.txn pending) refl some
    where
      by : (b : Bool) → lives t.txn pending ≡ b → (b || lives t.txn (map reversion_of leases)) ≡ true → is_living pending t ≡ true
      by true is passes = from-pending is
      by false is passes = from-lease passes

  -- a part of the record has a lease or a reversion where its transaction has one
  pub living-same : is_living pending t ≡ lives t.txn (courses pending leases)
  living-same = same-tests (is_living pending t) (lives t.txn pending || lives t.txn (map reversion_of leases)) to-lives from-lives
      ∙ sym (lives-courses t.txn pending leases)
