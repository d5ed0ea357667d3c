-- What is found of a point: the first of its slots that has a lease, and the first that has a reversion.
use Rattle.std.proofs.Common.{◌≡◌, ℕ, zero, suc, ◌+◌, ◌*◌, ◌<◌, ◌≤◌, nat_lt, List, [], ◌∷◌, ◌++◌, length, get_or, replicate, false, Option, Some, None, IsSome, is_some, count_by, refl, ap, sym, ◌∙◌, arith}
use Rattle.std.specs.Option.{option_map, option_to_list}
use Rattle.std.specs.List.{AllByRecursion}
use Rattle.std.proofs.lemmas.Bool.Decides.{nat_tests}
use Rattle.boss_array.specs.Array.{first_lease, first_pending}
use Rattle.boss_array.specs.declared.array.Entry.{Entry}
use Rattle.boss_array.specs.declared.array.Entry.TheVariants as entry
use Rattle.boss_model.specs.declared.state.Lease.{Lease}
use Rattle.boss_model.specs.declared.state.Pending.{Pending}
use Rattle.boss_model.specs.Order.{least, lesser}
use Rattle.boss_model.specs.Target.{in_force, playing}
use Rattle.law_time.proofs.Orders.{least-of}
use Rattle.boss_slots.specs.Slots.{key_of, all, gather}
use Rattle.boss_slots.specs.Tables.{IsKept, IsTimed, entry_in, lease_at, lease_of, pending_at, pending_of}
use Rattle.boss_slots.specs.declared.tables.Tables.{Tables}
use Rattle.boss_slots.proofs.BySlot.{all-none, each-one, filter-point}
use Rattle.boss_slots.proofs.Gathers.{each-gather}
use Rattle.boss_slots.proofs.Kept.{lease-placed, leased, pending-placed, reverting}

-- ---- the first of some

least-first : {X : Type 0} (key : X → ℕ) (x : X) (rest : List X) → AllByRecursion (λ y. key x ≤ key y) rest → least key (x ∷ rest) ≡ Some x
least-first {X = X} key x rest above = ap (λ z. Some z) (by (least key rest) refl)
  where
    by : (o : Option X) → least key rest ≡ o → lesser key x o ≡ x
    by None is = refl
    by (Some y) is = let late = least-of (λ z. key x ≤ key z) key rest y above is in let no-less : nat_lt (key y) (key x) ≡ false = grind (arith, nat_tests) in rw no-less refl

module _ (t : Tables) (k : IsKept t) (p : ℕ) where
  first-lease_from : (xs : List (Option Entry)) (level : ℕ) → ((j : ℕ) → entry_in t.arrays.items p (level + j) ≡ get_or xs j None) →
      least (λ (l : Lease). l.priority) (gather (λ q. option_to_list (lease_at t p q)) level (length xs)) ≡ key_of t.leases (first_lease level xs)
  unfolding gather lease_at
  first-lease_from [] level at = refl
  first-lease_from (None ∷ xs) level at =
      let here : entry_in t.arrays.items p level ≡ None = ap (entry_in t.arrays.items p) (omega arith) ∙ at 0 in
      rw here (first-lease_from xs (level + 1) (λ j. ap (entry_in t.arrays.items p) (omega arith) ∙ at (suc j)))
  first-lease_from (Some (entry.Pending key) ∷ xs) level at =
      let here : entry_in t.arrays.items p level ≡ Some (entry.Pending key) = ap (entry_in t.arrays.items p) (omega arith) ∙ at 0 in
      rw here (first-lease_from xs (level + 1) (λ j. ap (entry_in t.arrays.items p) (omega arith) ∙ at (suc j)))
  first-lease_from (Some (entry.Lease key) ∷ xs) level at =
      let here : entry_in t.arrays.items p level ≡ Some (entry.Lease key) = ap (entry_in t.arrays.items p) (omega arith) ∙ at 0 in
      let found = leased p level (get_or t.leases key None) (k.keyed p level key here) in
      let f3 = found.3 in
      rw (here, found.1) (least-first (λ (l : Lease). l.priority) found.0 (gather (λ q. option_to_list (lease_of t.leases (entry_in t.arrays.items p q))) (level + 1) (length xs))
      (each-gather (λ (l : Lease). found.0.priority ≤ l.priority) (λ q. option_to_list (lease_of t.leases (entry_in t.arrays.items p q))) (level + 1) (length xs)
      (λ q low _. each-one (λ (l : Lease). found.0.priority ≤ l.priority) (lease_of t.leases (entry_in t.arrays.items p q)) (λ l is. let place = lease-placed t k p q l is in let p1 = place.1 in omega arith))))

  first-pending_from : (xs : List (Option Entry)) (level : ℕ) → ((j : ℕ) → entry_in t.arrays.items p (level + j) ≡ get_or xs j None) →
      least (λ (r : Pending). r.priority) (gather (λ q. option_to_list (pending_at t p q)) level (length xs)) ≡ key_of t.pending.items (first_pending level xs)
  unfolding gather pending_at
  first-pending_from [] level at = refl
  first-pending_from (None ∷ xs) level at =
      let here : entry_in t.arrays.items p level ≡ None = ap (entry_in t.arrays.items p) (omega arith) ∙ at 0 in
      rw here (first-pending_from xs (level + 1) (λ j. ap (entry_in t.arrays.items p) (omega arith) ∙ at (suc j)))
  first-pending_from (Some (entry.Lease key) ∷ xs) level at =
      let here : entry_in t.arrays.items p level ≡ Some (entry.Lease key) = ap (entry_in t.arrays.items p) (omega arith) ∙ at 0 in
      rw here (first-pending_from xs (level + 1) (λ j. ap (entry_in t.arrays.items p) (omega arith) ∙ at (suc j)))
  first-pending_from (Some (entry.Pending key) ∷ xs) level at =
      let here : entry_in t.arrays.items p level ≡ Some (entry.Pending key) = ap (entry_in t.arrays.items p) (omega arith) ∙ at 0 in
      let found = reverting p level (get_or t.pending.items key None) (k.played p level key here) in
      let f3 = found.3 in
      rw (here, found.1) (least-first (λ (r : Pending). r.priority) found.0 (gather (λ q. option_to_list (pending_of t.pending.items (entry_in t.arrays.items p q))) (level + 1) (length xs))
      (each-gather (λ (r : Pending). found.0.priority ≤ r.priority) (λ q. option_to_list (pending_of t.pending.items (entry_in t.arrays.items p q))) (level + 1) (length xs)
      (λ q low _. each-one (λ (r : Pending). found.0.priority ≤ r.priority) (pending_of t.pending.items (entry_in t.arrays.items p q)) (λ r is. let place = pending-placed t k p q r is in let p1 = place.1 in omega arith))))

  -- the first lease that stands in a slot is there
  first-there : (xs : List (Option Entry)) (level : ℕ) → ((j : ℕ) → entry_in t.arrays.items p (level + j) ≡ get_or xs j None) →
      (found : ℕ × ℕ) → first_lease level xs ≡ Some found → IsSome (get_or t.leases found.1 None)
  first-there [] level at found is = absurd (cc)
  first-there (None ∷ xs) level at found is = first-there xs (level + 1) (λ j. ap (entry_in t.arrays.items p) (omega arith) ∙ at (suc j)) found is
  first-there (Some (entry.Pending key) ∷ xs) level at found is = first-there xs (level + 1) (λ j. ap (entry_in t.arrays.items p) (omega arith) ∙ at (suc j)) found is
  first-there (Some (entry.Lease key) ∷ xs) level at found is =
      let here : entry_in t.arrays.items p level ≡ Some (entry.Lease key) = ap (entry_in t.arrays.items p) (omega arith) ∙ at 0 in
      let same : found.1 ≡ key = cc in
      ap (λ n. is_some (get_or t.leases n None)) same ∙ ap is_some (leased p level (get_or t.leases key None) (k.keyed p level key here)).1

  slots-from : (array : List (Option Entry)) → get_or t.arrays.items p [] ≡ array → (j : ℕ) → entry_in t.arrays.items p (1 + j) ≡ get_or array j None
  slots-from array is j = let one : 1 + j ≡ suc j = omega arith in ap (entry_in t.arrays.items p) one ∙ of-suc j
    where
      of-suc : (i : ℕ) → entry_in t.arrays.items p (suc i) ≡ get_or array i None
      of-suc i = ap (λ xs. get_or xs i None) is

  pub force-first : (array : List (Option Entry)) → get_or t.arrays.items p [] ≡ array → length array ≡ 16 → p < length t.arrays.items → in_force (all (lease_at t) (length t.arrays.items)) p ≡ key_of t.leases (first_lease 1 array)
  force-first array is sixteen within =
      ap (least (λ (l : Lease). l.priority)) (filter-point (λ (l : Lease). l.point) (λ (l : Lease). l.priority) (lease_at t) (length t.arrays.items) p (lease-placed t k) within)
      ∙ ap (λ n. least (λ (l : Lease). l.priority) (gather (λ q. option_to_list (lease_at t p q)) 1 n)) (sym sixteen) ∙ first-lease_from array 1 (slots-from array is)

  pub playing-first : (array : List (Option Entry)) → get_or t.arrays.items p [] ≡ array → length array ≡ 16 → p < length t.arrays.items → playing (all (pending_at t) (length t.arrays.items)) p ≡ key_of t.pending.items (first_pending 1 array)
  playing-first array is sixteen within =
      ap (least (λ (r : Pending). r.priority)) (filter-point (λ (r : Pending). r.point) (λ (r : Pending). r.priority) (pending_at t) (length t.arrays.items) p (pending-placed t k) within)
      ∙ ap (λ n. least (λ (r : Pending). r.priority) (gather (λ q. option_to_list (pending_at t p q)) 1 n)) (sym sixteen) ∙ first-pending_from array 1 (slots-from array is)

  pub force-there : (array : List (Option Entry)) → get_or t.arrays.items p [] ≡ array → (key : ℕ) → option_map (λ found. found.1) (first_lease 1 array) ≡ Some key → IsSome (get_or t.leases key None)
  force-there array is key first = by (first_lease 1 array) refl
    where
      by : (o : Option (ℕ × ℕ)) → first_lease 1 array ≡ o → IsSome (get_or t.leases key None)
      by None none = absurd (cc)
      by (Some found) some = let same : key ≡ found.1 = cc in ap (λ n. is_some (get_or t.leases n None)) same ∙ first-there array 1 (slots-from array is) found some

-- ---- by key

pub key-some : {X : Type 0} (xs : List (Option X)) (o : Option (ℕ × ℕ)) (key : ℕ) → option_map (λ found. found.1) o ≡ Some key → key_of xs o ≡ get_or xs key None
key-some xs None key is = absurd (cc)
key-some xs (Some found) key is = let it : found.1 ≡ key = cc in ap (λ n. get_or xs n None) it

pub key-none : {X : Type 0} (xs : List (Option X)) (o : Option (ℕ × ℕ)) → option_map (λ found. found.1) o ≡ None → key_of xs o ≡ None
key-none xs None is = refl
key-none xs (Some found) is = absurd (cc)

-- ---- nothing at first

pub replicate-push : {X : Type 0} (n : ℕ) (x : X) → replicate n x ++ x ∷ [] ≡ replicate (n + 1) x
replicate-push zero x = refl
replicate-push (suc n) x = let next : suc n + 1 ≡ suc (n + 1) = omega arith in ap (λ xs. x ∷ xs) (replicate-push n x) ∙ ap (λ k. replicate k x) (sym next)

got-none : {X : Type 0} (n k : ℕ) → let none : Option X = None in get_or (replicate n none) k none ≡ none
got-none zero k = refl
got-none (suc n) zero = refl
got-none (suc n) (suc k) = got-none n k

entry-none : (n p q : ℕ) → entry_in (replicate n (replicate 16 None)) p q ≡ None
entry-none n p zero = refl
entry-none zero p (suc q) = refl
entry-none (suc n) zero (suc q) = got-none 16 q
entry-none (suc n) (suc p) (suc q) = entry-none n p (suc q)

count-none : (X : Type 0) (n : ℕ) → let none : Option X = None in count_by is_some (replicate n none) ≡ 0
count-none X zero = refl
count-none X (suc n) = count-none X n

size : {X : Type 0} (n : ℕ) (x : X) → length (replicate n x) ≡ n
size zero x = refl
size (suc n) x = ap suc (size n x)

module _ (t : Tables) (points : ℕ) (few : points ≤ 4096) (arrays : t.arrays.items ≡ replicate points (replicate 16 None)) (leases : t.leases ≡ replicate (16 * points) None) (pending : t.pending.items ≡ replicate (16 * points) None) (timers : t.timers ≡ replicate (32 * points) None)
    (live : t.live ≡ 0) (under_way : t.under_way ≡ 0) where
  no-entry : (p q : ℕ) → entry_in t.arrays.items p q ≡ None
  no-entry p q = ap (λ xs. entry_in xs p q) arrays ∙ entry-none points p q

  no-lease : (key : ℕ) → get_or t.leases key None ≡ None
  no-lease key = ap (λ xs. get_or xs key None) leases ∙ got-none (16 * points) key

  no-reversion : (key : ℕ) → get_or t.pending.items key None ≡ None
  no-reversion key = ap (λ xs. get_or xs key None) pending ∙ got-none (16 * points) key

  pub empty-points : length t.arrays.items ≡ points
  empty-points = ap length arrays ∙ size points (replicate 16 None)

  pub empty-lease : (p q : ℕ) → lease_at t p q ≡ None
  unfolding lease_at
  empty-lease p q = ap (lease_of t.leases) (no-entry p q)

  pub empty-pending : (p q : ℕ) → pending_at t p q ≡ None
  unfolding pending_at
  empty-pending p q = ap (pending_of t.pending.items) (no-entry p q)

  pub empty-kept : IsKept t
  empty-kept = record {
    keyed = λ p q key is. let none = no-entry p q in absurd (cc);
    held = λ key lease is. let none = no-lease key in absurd (cc);
    played = λ p q key is. let none = no-entry p q in absurd (cc);
    kept = λ key r is. let none = no-reversion key in absurd (cc);
    within = λ p q to is. let none = no-entry p q in absurd (cc);
    keys = ap length leases ∙ size (16 * points) None ∙ ap (λ n. 16 * n) (sym empty-points);
    numbers = ap length pending ∙ size (16 * points) None ∙ ap (λ n. 16 * n) (sym empty-points);
    timers = ap length timers ∙ size (32 * points) None ∙ ap (λ n. 32 * n) (sym empty-points);
    few = omega (arith, empty-points);
    counted = ap (count_by is_some) leases ∙ count-none Lease (16 * points) ∙ sym live;
    live = live ∙ sym (ap length (all-none (lease_at t) (length t.arrays.items) empty-lease));
    under_way = under_way ∙ sym (ap length (all-none (pending_at t) (length t.arrays.items) empty-pending));
  }

  pub empty-timed : IsTimed 0 t
  empty-timed = record {
    until = λ key lease is. let none = no-lease key in absurd (cc);
    turn = λ key r is. let none = no-reversion key in absurd (cc);
  }
