-- A submit keeps a sound persistent part sound.
use Rattle.std.proofs.Common.{◌≡◌, ℕ, ◌<◌, ◌≤◌, ◌==◌, List, [], ◌∷◌, ◌++◌, map, Bool, true, false, not, ◌&&◌, ◌||◌, Option, is_none, unsigned_abs, refl, ap, arith}
use Rattle.std.specs.List.{filter, AllByRecursion, list_any}
use Rattle.std.proofs.lemmas.Bool.{cond_both}
use Rattle.std.proofs.lemmas.Bool.Decides.{nat_tests}
use Rattle.boss_model.specs.declared.command.Policy.{Policy}
use Rattle.boss_model.specs.declared.command.Setting.{Setting}
use Rattle.boss_model.specs.declared.state.Actuator.{Actuator}
use Rattle.boss_model.specs.declared.state.Lease.{Lease}
use Rattle.boss_model.specs.declared.state.Pending.{Pending}
use Rattle.boss_model.specs.Ends.{shortened_if}
use Rattle.boss_model.specs.Happenings.{lives}
use Rattle.boss_model.specs.Limits.{longest_lease}
use Rattle.boss_model.specs.Lists.{member}
use Rattle.boss_model.specs.Order.{comes_before, put, in_order}
use Rattle.boss_model.specs.Records.{End, Transaction}
use Rattle.boss_model.specs.Reversions.{reversion_of}
use Rattle.boss_model.specs.Sound.{Rising, Distinct, holds, IsLease, has_part, is_kept}
use Rattle.boss_model.specs.State.{lease_slot, pending_slot}
use Rattle.boss_model.specs.Submit.{lease_of, part_of, is_taken}
use Rattle.boss_model.specs.Time.{live}
use Rattle.law_time.proofs.Filters.{each-mapped, Apart}
use Rattle.law_soundness.proofs.NotRefused.{IsWrite, level-number}
use Rattle.law_time.proofs.Orders.{before-trans, each-map, each-both, each-append, each-put, each-in_order, each-unput, each-unordered, each-front, each-back}
use Rattle.law_soundness.proofs.RenewSound.{positive}
use Rattle.law_time.proofs.Slots.{any-append}
use Rattle.law_time.proofs.TickSound.{Pairs}

-- ---- slots that are each taken once

module _ {X : Type 0} (rank : X → List ℕ) where
  pub apart-turn : (x y : X) → Apart rank x y → Apart rank y x
  apart-turn x y apart = grind (arith)

  Rising-put : (x : X) (ys : List X) → Rising rank ys → AllByRecursion (Apart rank x) ys → Rising rank (put rank x ys)
  Rising-put x [] rising apart = (tt, tt)
  Rising-put x (y ∷ ys) rising apart = cond_both (comes_before (rank x) (rank y)) (x ∷ y ∷ ys) (y ∷ put rank x ys) (Rising rank)
      (λ first. (
        (
          grind (arith, apart.0),
          each-map (λ z. (comes_before (rank z) (rank y) ≡ false) × Apart rank x z) (λ z. comes_before (rank z) (rank x) ≡ false)
              (λ z both. grind (arith, before-trans (rank z) (rank x) (rank y))) ys (each-both (λ z. comes_before (rank z) (rank y) ≡ false) (Apart rank x) ys rising.0 apart.1),
        ),
        rising,
      ))
      (λ behind. (each-put (λ z. comes_before (rank z) (rank y) ≡ false) rank x ys behind rising.0, Rising-put x ys rising.1 apart.1))

  -- items that are apart stand in strict order, and the other way round
  pub Pairs-Rising : (xs : List X) → Pairs (Apart rank) xs → Rising rank (in_order rank xs)
  Pairs-Rising [] all = tt
  Pairs-Rising (x ∷ xs) all = Rising-put x (in_order rank xs) (Pairs-Rising xs all.1) (each-in_order (Apart rank x) rank xs all.0)

  pub Rising-Pairs : (xs : List X) → Rising rank xs → Pairs (Apart rank) xs
  Rising-Pairs [] rising = tt
  Rising-Pairs (x ∷ xs) rising = (each-map (λ y. comes_before (rank y) (rank x) ≡ false) (Apart rank x) (λ y later. grind (arith)) xs rising.0, Rising-Pairs xs rising.1)

module _ {X : Type 0} (R : X → X → Type 0) (turn : (x y : X) → R x y → R y x) (rank : X → List ℕ) where
  Pairs-unput : (x : X) (ys : List X) → Pairs R (put rank x ys) → AllByRecursion (R x) ys × Pairs R ys
  Pairs-unput x [] all = (tt, tt)
  Pairs-unput x (y ∷ ys) all = cond_both (comes_before (rank x) (rank y)) (x ∷ y ∷ ys) (y ∷ put rank x ys) (λ zs. Pairs R zs → AllByRecursion (R x) (y ∷ ys) × Pairs R (y ∷ ys))
      (λ _ pairs. (pairs.0, pairs.1))
      (λ _ pairs. let rest = Pairs-unput x ys pairs.1 in let here = each-unput (R y) rank x ys pairs.0 in ((turn y x here.0, rest.0), (here.1, rest.1))) all

  pub Pairs-unordered : (xs : List X) → Pairs R (in_order rank xs) → Pairs R xs
  Pairs-unordered [] all = tt
  Pairs-unordered (x ∷ xs) all =
      let parts = Pairs-unput x (in_order rank xs) all in
      let rest : Pairs R xs = Pairs-unordered xs parts.1 in
      (each-unordered (R x) rank xs parts.0, rest)

-- two lists, each two of the one and each two of the other and each of the one with each of the other
module _ {X : Type 0} (R : X → X → Type 0) where
  pub Pairs-append : (xs ys : List X) → Pairs R xs → Pairs R ys → AllByRecursion (λ x. AllByRecursion (R x) ys) xs → Pairs R (xs ++ ys)
  Pairs-append [] ys p q cross = q
  Pairs-append (x ∷ xs) ys p q cross = (each-append (R x) xs ys p.0 cross.0, Pairs-append xs ys p.1 q cross.1)

  pub Pairs-front : (xs ys : List X) → Pairs R (xs ++ ys) → Pairs R xs
  Pairs-front [] ys all = tt
  Pairs-front (x ∷ xs) ys all = (each-front (R x) xs ys all.0, Pairs-front xs ys all.1)

  pub Pairs-cross : (xs ys : List X) → Pairs R (xs ++ ys) → AllByRecursion (λ x. AllByRecursion (R x) ys) xs
  Pairs-cross [] ys all = tt
  Pairs-cross (x ∷ xs) ys all = (each-back (R x) xs ys all.0, Pairs-cross xs ys all.1)

pub Pairs-map : {X Y : Type 0} (R : Y → Y → Type 0) (f : X → Y) (xs : List X) → Pairs (λ x y. R (f x) (f y)) xs → Pairs R (map f xs)
Pairs-map R f [] all = tt
Pairs-map R f (x ∷ xs) all = (each-mapped (R (f x)) f xs all.0, Pairs-map R f xs all.1)

-- ---- the new leases

pub not-taken : (lease : Lease) (new : List Lease) → is_taken new lease.point lease.priority ≡ false → AllByRecursion (Apart lease_slot lease) new
not-taken lease [] none = tt
not-taken lease (x ∷ xs) none = (apart lease x (grind (arith)), not-taken lease xs (grind (arith)))
  where
    apart : (a b : Lease) → ((b.point == a.point) && (b.priority == a.priority)) ≡ false → Apart lease_slot a b
    apart a b other = grind (arith, nat_tests)

pub not-broken : (r : Pending) (new : List Lease) → is_taken new r.point r.priority ≡ false → AllByRecursion (λ lease. Apart pending_slot r (reversion_of lease)) new
not-broken r [] none = tt
not-broken r (x ∷ xs) none = (apart x (grind (arith)), not-broken r xs (grind (arith)))
  where
    apart : (b : Lease) → ((b.point == r.point) && (b.priority == r.priority)) ≡ false → Apart pending_slot r (reversion_of b)
    apart b other = grind (arith, nat_tests)

module _ (owner : ℕ) (policy : Policy) (txn n : ℕ) where
  abbrev G : Setting → Lease
  G = lease_of owner policy txn n

  pub new-apart : (writes : List Setting) → Distinct (map (λ w. w.point) writes) → Pairs (Apart lease_slot) (map G writes)
  new-apart [] distinct = tt
  new-apart (w ∷ ws) distinct = (others ws distinct.0, new-apart ws distinct.1)
    where
      others : (vs : List Setting) → member w.point (map (λ v. v.point) vs) ≡ false → AllByRecursion (Apart lease_slot (G w)) (map G vs)
      others [] none = tt
      others (v ∷ vs) none = (grind (arith, nat_tests), others vs (grind (arith, nat_tests)))

  -- each part of the new transaction is a lease, and the new leases are nobody else's
  pub new-held : (writes : List Setting) → AllByRecursion (λ w. holds (map G writes) txn w.point (unsigned_abs w.priority) ≡ true) writes
  new-held [] = tt
  new-held (w ∷ ws) = (
    grind (arith, nat_tests),
    each-map (λ v. holds (map G ws) txn v.point (unsigned_abs v.priority) ≡ true)
        (λ v. holds (map G (w ∷ ws)) txn v.point (unsigned_abs v.priority) ≡ true) (λ v there. grind (arith, nat_tests)) ws (new-held ws),
  )

  pub new-others : (writes : List Setting) (other point priority : ℕ) → (txn == other) ≡ false → holds (map G writes) other point priority ≡ false
  new-others [] other point priority apart = refl
  new-others (w ∷ ws) other point priority apart = grind (arith, nat_tests, new-others ws other point priority apart)

  pub new-lives : (writes : List Setting) (other : ℕ) → (txn == other) ≡ false → lives other (map reversion_of (map G writes)) ≡ false
  new-lives [] other apart = refl
  new-lives (w ∷ ws) other apart = grind (arith, nat_tests, new-lives ws other apart)

  pub new-parts : (writes : List Setting) → AllByRecursion (λ w. list_any (λ part. (part.point == w.point) && ((part.priority == unsigned_abs w.priority) && is_none part.end)) (map part_of writes) ≡ true) writes
  new-parts [] = tt
  new-parts (w ∷ ws) = (
    grind (arith, nat_tests),
    each-map (λ v. list_any (λ part. (part.point == v.point) && ((part.priority == unsigned_abs v.priority) && is_none part.end)) (map part_of ws) ≡ true)
        (λ v. list_any (λ part. (part.point == v.point) && ((part.priority == unsigned_abs v.priority) && is_none part.end)) (map part_of (w ∷ ws)) ≡ true) (λ v there. grind (arith)) ws (new-parts ws),
  )

  pub new-points : (writes : List Setting) → map (λ part. part.point) (map part_of writes) ≡ map (λ w. w.point) writes
  new-points [] = refl
  new-points (w ∷ ws) = ap (λ ps. w.point ∷ ps) (new-points ws)

pub new-lease : (plant : List Actuator) (owner : ℕ) (policy : Policy) (txn n : ℕ) (w : Setting) → IsWrite plant w → IsLease plant n (lease_of owner policy txn n w)
new-lease plant owner policy txn n w is =
    let size = positive w.lease longest_lease is.lasting in
    let least : 1 ≤ unsigned_abs w.lease = size.0 in
    let most : unsigned_abs w.lease ≤ longest_lease = size.1 in
    record { fitting = is.fitting; level = level-number w.priority is.level; reverting = is.reverting; live = omega arith; soon = omega arith }

-- ---- the records

-- those that outlast n and are not taken are those that are not shortened
pub left-live : (which : Lease → Bool) (n : ℕ) (leases : List Lease) → AllByRecursion (λ lease. n < lease.until) leases →
    live n (map (shortened_if which n) leases) ≡ filter (λ lease. not (which lease)) leases
left-live which n [] all = refl
left-live which n (lease ∷ leases) all =
    let rest : live n (map (shortened_if which n) leases) ≡ filter (λ l. not (which l)) leases = left-live which n leases all.1 in
    let more : n < lease.until = all.0 in
    grind (arith, nat_tests)

pub has-append : (test : Option End → Bool) (xs ys : List Transaction) (txn point priority : ℕ) → has_part test (xs ++ ys) txn point priority ≡ (has_part test xs txn point priority || has_part test ys txn point priority)
has-append test xs ys txn point priority =
    any-append (λ t. (t.txn == txn) && list_any (λ part. (part.point == point) && ((part.priority == priority) && test part.end)) t.parts) xs ys

-- a transaction that is kept was numbered
pub kept-number : (next : ℕ) (txns : List Transaction) (txn : ℕ) → AllByRecursion (λ t. t.txn < next) txns → is_kept txns txn ≡ true → txn < next
kept-number next [] txn below has = cc
kept-number next (t ∷ ts) txn below has =
    let here : t.txn < next = below.0 in
    cond_both (t.txn == txn) true false (λ b. (t.txn == txn) ≡ b → txn < next) (λ is _. grind (arith, nat_tests))
    (λ other _. kept-number next ts txn below.1 (grind (arith))) (grind arith)

pub Rising-snoc : {X : Type 0} (rank : X → List ℕ) (xs : List X) (y : X) → Rising rank xs → AllByRecursion (λ x. comes_before (rank y) (rank x) ≡ false) xs → Rising rank (xs ++ y ∷ [])
Rising-snoc rank [] y rising last = (tt, tt)
Rising-snoc rank (x ∷ xs) y rising last = (each-append (λ z. comes_before (rank z) (rank x) ≡ false) xs (y ∷ []) rising.0 (last.0, tt), Rising-snoc rank xs y rising.1 last.1)
