-- Slots of leases and reversions that all stay: they are as distinct as they were, and the same transactions have them.
use Rattle.std.proofs.Common.{◌≡◌, ℕ, ◌==◌, List, [], ◌∷◌, ◌++◌, map, true, false, ◌&&◌, ◌||◌, Option, ap, sym, ◌∙◌, arith}
use Rattle.std.specs.List.{AllByRecursion}
use Rattle.std.proofs.lemmas.Bool.Decides.{nat_tests}
use Rattle.boss_model.specs.declared.state.Lease.{Lease}
use Rattle.boss_model.specs.declared.state.Pending.{Pending}
use Rattle.boss_model.specs.Happenings.{lives}
use Rattle.boss_model.specs.Order.{comes_before, in_order}
use Rattle.boss_model.specs.Reversions.{reversion_of, courses}
use Rattle.boss_model.specs.Sound.{Rising}
use Rattle.boss_model.specs.State.{lease_slot, pending_slot}
use Rattle.law_soundness.proofs.SubmitSound.{apart-turn, Pairs-Rising, Rising-Pairs, Pairs-unordered, Pairs-append, Pairs-cross, Pairs-front, Pairs-map}
use Rattle.law_time.proofs.Filters.{Apart, any-map, each-mapped, each-unmapped}
use Rattle.law_time.proofs.NothingDue.{of-pending, of-leases}
use Rattle.law_time.proofs.Orders.{each-map, each-both, each-in_order}
use Rattle.law_time.proofs.Slots.{any-in_order, lives-courses, to-courses}
use Rattle.law_time.proofs.TickSound.{Pairs, Pairs-in_order}
use Rattle.law_adoption.specs.Adopted.{moved_lease, moved_pending}
use Rattle.law_adoption.specs.Renumber.{stays, at, IsRenumbering}
use Rattle.law_adoption.proofs.Points.{same-place}

-- ---- each two of a list, and of one that comes from it

pub Pairs-moved : {X : Type 0} (Q : X → Type 0) (R S : X → X → Type 0) → ((x y : X) → Q x → Q y → R x y → S x y) → (xs : List X) →
    AllByRecursion Q xs → Pairs R xs → Pairs S xs
Pairs-moved Q R S go [] all pairs = tt
Pairs-moved Q R S go (x ∷ xs) all pairs = (
  each-map (λ y. Q y × R x y) (S x) (λ y both. go x y all.0 both.0 both.1) xs (each-both Q (R x) xs all.1 pairs.0),
  Pairs-moved Q R S go xs all.1 pairs.1,
)

Pairs-back : {X : Type 0} (R : X → X → Type 0) (xs ys : List X) → Pairs R (xs ++ ys) → Pairs R ys
Pairs-back R [] ys all = all
Pairs-back R (x ∷ xs) ys all = Pairs-back R xs ys all.1

-- ---- what holds of all reversions, under way and to come

module _ (to : ℕ → Option ℕ) where
  abbrev pub moved_leases : List Lease → List Lease
  moved_leases leases = in_order lease_slot (map (moved_lease to) leases)

  abbrev pub moved_reversions : List Pending → List Pending
  moved_reversions pending = in_order pending_slot (map (moved_pending to) pending)

  pub lives-moved : (txn : ℕ) (pending : List Pending) (leases : List Lease) → lives txn (courses (moved_reversions pending) (moved_leases leases)) ≡ lives txn (courses pending leases)
  lives-moved txn pending leases =
      let test = λ (reversion : Pending). reversion.txn == txn in
      let first : lives txn (moved_reversions pending) ≡ lives txn pending =
      any-in_order test pending_slot (map (moved_pending to) pending) ∙ any-map test (moved_pending to) pending in
      let second : lives txn (map reversion_of (moved_leases leases)) ≡ lives txn (map reversion_of leases) =
      any-map test reversion_of (moved_leases leases)
      ∙ any-in_order (λ lease. lease.txn == txn) lease_slot (map (moved_lease to) leases)
      ∙ any-map (λ lease. lease.txn == txn) (moved_lease to) leases
      ∙ sym (any-map test reversion_of leases) in
      lives-courses txn (moved_reversions pending) (moved_leases leases)
      ∙ (λ i. first i || second i)
      ∙ sym (lives-courses txn pending leases)

  pub courses-moved : (P : Pending → Type 0) → ((reversion : Pending) → P reversion → P (moved_pending to reversion)) → (pending : List Pending) (leases : List Lease) →
      AllByRecursion P (courses pending leases) → AllByRecursion P (courses (moved_reversions pending) (moved_leases leases))
  courses-moved P go pending leases all = to-courses P (moved_reversions pending) (moved_leases leases)
      (each-in_order P pending_slot (map (moved_pending to) pending) (each-mapped P (moved_pending to) pending
      (each-map P (λ reversion. P (moved_pending to reversion)) go pending (of-pending P pending leases all))))
      (each-in_order (λ lease. P (reversion_of lease)) lease_slot (map (moved_lease to) leases) (each-mapped (λ lease. P (reversion_of lease)) (moved_lease to) leases
      (each-map (λ lease. P (reversion_of lease)) (λ lease. P (reversion_of (moved_lease to lease))) (λ lease is. go (reversion_of lease) is) leases (of-leases P pending leases all))))

  -- ---- slots

  abbrev pub LeasesStay : List Lease → Type 0
  LeasesStay leases = AllByRecursion (λ lease. stays to lease.point ≡ true) leases

  abbrev pub PendingStay : List Pending → Type 0
  PendingStay pending = AllByRecursion (λ reversion. stays to reversion.point ≡ true) pending

  apart-slots : (p a q b : ℕ) → (comes_before (p ∷ a ∷ []) (q ∷ b ∷ []) && comes_before (q ∷ b ∷ []) (p ∷ a ∷ [])) ≡ ((p == q) && (a == b))
  apart-slots p a q b = grind (arith, nat_tests)

  module _ (points : ℕ) (renumbering : IsRenumbering to points) where
    moved-apart : (p a q b : ℕ) → stays to p ≡ true → stays to q ≡ true → (comes_before (p ∷ a ∷ []) (q ∷ b ∷ []) && comes_before (q ∷ b ∷ []) (p ∷ a ∷ [])) ≡ false →
        (comes_before (at to p ∷ a ∷ []) (at to q ∷ b ∷ []) && comes_before (at to q ∷ b ∷ []) (at to p ∷ a ∷ [])) ≡ false
    moved-apart p a q b p-there q-there apart = apart-slots (at to p) a (at to q) b
        ∙ ap (λ same. same && (a == b)) (same-place to points renumbering p q p-there q-there)
        ∙ sym (apart-slots p a q b)
        ∙ apart

    module _ (pending : List Pending) (leases : List Lease) (slots : Rising pending_slot (courses pending leases)) (pending-stay : PendingStay pending) (leases-stay : LeasesStay leases) where
      apart : Pairs (Apart pending_slot) (pending ++ map reversion_of leases)
      apart = Pairs-unordered (Apart pending_slot) (apart-turn pending_slot) pending_slot (pending ++ map reversion_of leases)
          (Rising-Pairs pending_slot (courses pending leases) slots)

      apart-pending : Pairs (Apart pending_slot) (map (moved_pending to) pending)
      apart-pending = Pairs-map (Apart pending_slot) (moved_pending to) pending
          (Pairs-moved (λ r. stays to r.point ≡ true) (Apart pending_slot) (λ r s. Apart pending_slot (moved_pending to r) (moved_pending to s))
          (λ r s r-there s-there other. moved-apart r.point r.priority s.point s.priority r-there s-there other)
          pending pending-stay (Pairs-front (Apart pending_slot) pending (map reversion_of leases) apart))

      unmapped : (xs : List Lease) → Pairs (Apart pending_slot) (map reversion_of xs) → Pairs (Apart lease_slot) xs
      unmapped [] pairs = tt
      unmapped (x ∷ xs) pairs = (each-unmapped (Apart pending_slot (reversion_of x)) reversion_of xs pairs.0, unmapped xs pairs.1)

      pub apart-leases : Pairs (Apart lease_slot) (map (moved_lease to) leases)
      apart-leases = Pairs-map (Apart lease_slot) (moved_lease to) leases
          (Pairs-moved (λ l. stays to l.point ≡ true) (Apart lease_slot) (λ l k. Apart lease_slot (moved_lease to l) (moved_lease to k))
          (λ l k l-there k-there other. moved-apart l.point l.priority k.point k.priority l-there k-there other)
          leases leases-stay (unmapped leases (Pairs-back (Apart pending_slot) pending (map reversion_of leases) apart)))

      pub lease_slots-rise : Rising lease_slot (moved_leases leases)
      lease_slots-rise = Pairs-Rising lease_slot (map (moved_lease to) leases) apart-leases

      pub pending_slots-rise : Rising pending_slot (moved_reversions pending)
      pending_slots-rise = Pairs-Rising pending_slot (map (moved_pending to) pending) apart-pending

      -- a reversion under way and one of a lease
      apart-others : AllByRecursion (λ r. AllByRecursion (Apart pending_slot r) (map reversion_of (moved_leases leases))) (moved_reversions pending)
      apart-others =
          let Others = λ (r : Pending). AllByRecursion (Apart pending_slot r) (map reversion_of (moved_leases leases)) in
          each-in_order Others pending_slot (map (moved_pending to) pending) (each-mapped Others (moved_pending to) pending
          (each-map (λ r. (stays to r.point ≡ true) × AllByRecursion (Apart pending_slot r) (map reversion_of leases)) (λ r. Others (moved_pending to r))
          (λ r both. each-mapped (Apart pending_slot (moved_pending to r)) reversion_of (moved_leases leases)
          (each-in_order (λ l. Apart pending_slot (moved_pending to r) (reversion_of l)) lease_slot (map (moved_lease to) leases)
          (each-mapped (λ l. Apart pending_slot (moved_pending to r) (reversion_of l)) (moved_lease to) leases
          (each-map (λ l. (stays to l.point ≡ true) × Apart pending_slot r (reversion_of l)) (λ l. Apart pending_slot (moved_pending to r) (reversion_of (moved_lease to l)))
          (λ l other. moved-apart r.point r.priority l.point l.priority both.0 other.0 other.1) leases
          (each-both (λ l. stays to l.point ≡ true) (λ l. Apart pending_slot r (reversion_of l)) leases leases-stay (each-unmapped (Apart pending_slot r) reversion_of leases both.1))))))
          pending (each-both (λ r. stays to r.point ≡ true) (λ r. AllByRecursion (Apart pending_slot r) (map reversion_of leases)) pending pending-stay
          (Pairs-cross (Apart pending_slot) pending (map reversion_of leases) apart))))

      pub slots-rise : Rising pending_slot (courses (moved_reversions pending) (moved_leases leases))
      slots-rise = Pairs-Rising pending_slot (moved_reversions pending ++ map reversion_of (moved_leases leases))
          (Pairs-append (Apart pending_slot) (moved_reversions pending) (map reversion_of (moved_leases leases))
          (Pairs-in_order (Apart pending_slot) (apart-turn pending_slot) pending_slot (map (moved_pending to) pending) apart-pending)
          (Pairs-map (Apart pending_slot) reversion_of (moved_leases leases) (Pairs-in_order (Apart lease_slot) (apart-turn lease_slot) lease_slot (map (moved_lease to) leases) apart-leases))
          apart-others)
