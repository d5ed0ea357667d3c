-- In a sound state each transaction has one owner, who is a process, and the next one has none of all that is there.
use Rattle.std.proofs.Common.{◌≡◌, ℕ, ◌<◌, ◌==◌, List, [], ◌∷◌, true, false, Option, Some, None, is_none, refl, ap, sym, ◌∙◌, ⊎_elim, length, arith}
use Rattle.std.specs.List.{AllByRecursion}
use Rattle.std.proofs.lemmas.Bool.{cases_Bool}
use Rattle.std.proofs.lemmas.Bool.Decides.{nat_tests}
use Rattle.boss_model.specs.declared.state.Actuator.{Actuator}
use Rattle.boss_model.specs.declared.state.Lease.{Lease}
use Rattle.boss_model.specs.declared.state.Pending.{Pending}
use Rattle.boss_model.specs.Happenings.{lives}
use Rattle.boss_model.specs.Order.{comes_before}
use Rattle.boss_model.specs.Records.{Transaction}
use Rattle.boss_model.specs.Renew.{transaction_of}
use Rattle.boss_model.specs.Reversions.{courses}
use Rattle.boss_model.specs.Sound.{Rising, number_rank, has_part, is_kept, is_start, IsTransaction, IsSoundPersistent}
use Rattle.boss_model.specs.State.{Persistent}
use Rattle.boss_model.specs.Target.{in_force}
use Rattle.law_time.proofs.NothingDue.{of-pending, of-leases}
use Rattle.law_time.proofs.Orders.{each-map, each-both}
use Rattle.law_time.proofs.Slots.{to-courses}
use Rattle.law_due.proofs.Found.{each-least}

-- ---- the owner of a transaction, by its record

abbrev pub owner_in : Option Transaction → ℕ
owner_in None = 0
owner_in (Some transaction) = transaction.owner

abbrev pub owner_of : List Transaction → ℕ → ℕ
owner_of txns txn = owner_in (transaction_of txns txn)

part-kept : (test : _) (txns : List Transaction) (txn point priority : ℕ) → has_part test txns txn point priority ≡ true → is_kept txns txn ≡ true
part-kept test [] txn point priority has = has
part-kept test (t ∷ ts) txn point priority has = grind (arith, part-kept test ts txn point priority)

each-each : {X Y : Type 0} (R : X → Y → Type 0) (xs : List X) (ys : List Y) → AllByRecursion (λ x. AllByRecursion (R x) ys) xs → AllByRecursion (λ y. AllByRecursion (λ x. R x y) xs) ys
each-each R [] [] all = tt
each-each R [] (y ∷ ys) all = (tt, each-each R [] ys tt)
each-each R (x ∷ xs) ys all = each-both (R x) (λ y. AllByRecursion (λ z. R z y) xs) ys all.0 (each-each R xs ys all.1)

own-records : (txns : List Transaction) → Rising number_rank txns → AllByRecursion (λ transaction. transaction.owner ≡ owner_of txns transaction.txn) txns
own-records [] rising = tt
own-records (t ∷ ts) rising = (
  grind (arith, nat_tests),
  each-map (λ other. (comes_before (number_rank other) (number_rank t) ≡ false) × (other.owner ≡ owner_of ts other.txn)) (λ other. other.owner ≡ owner_of (t ∷ ts) other.txn)
      (λ other both. let later : comes_before (other.txn ∷ []) (t.txn ∷ []) ≡ false = both.0 in
      let apart : (t.txn == other.txn) ≡ false = grind (arith, nat_tests) in rw apart both.1)
      ts (each-both (λ other. comes_before (number_rank other) (number_rank t) ≡ false) (λ other. other.owner ≡ owner_of ts other.txn) ts rising.0 (own-records ts rising.1)),
)

-- what each record of a transaction says holds, if one is kept
kept-says : (P : Type 0) (txns : List Transaction) (txn : ℕ) → AllByRecursion (λ t. txn ≡ t.txn → P) txns → is_kept txns txn ≡ true → P
kept-says P [] txn says kept = absurd (cc)
kept-says P (t ∷ ts) txn says kept = ⊎_elim
    (λ own. says.0 (grind (arith, nat_tests)))
    (λ other. kept-says P ts txn says.1 (grind (arith)))
    (cases_Bool (t.txn == txn))

none-lives : (next : ℕ) (reversions : List Pending) → AllByRecursion (λ reversion. reversion.txn < next) reversions → lives next reversions ≡ false
none-lives next [] all = refl
none-lives next (r ∷ rs) all = grind (arith, nat_tests, all.0, none-lives next rs all.1)

-- ---- in a sound state

module _ (plant : List Actuator) (d : Persistent) (sound : IsSoundPersistent plant d) where
  abbrev IsKept : Pending → Type 0
  IsKept reversion = is_kept d.txns reversion.txn ≡ true

  kept-courses : AllByRecursion IsKept (courses d.pending d.leases)
  kept-courses = to-courses IsKept d.pending d.leases
      (each-map (λ r. has_part (is_start r.start) d.txns r.txn r.point r.priority ≡ true) IsKept
      (λ r has. part-kept (is_start r.start) d.txns r.txn r.point r.priority has) d.pending sound.ended_parts)
      (each-map (λ l. has_part is_none d.txns l.txn l.point l.priority ≡ true) (λ l. is_kept d.txns l.txn ≡ true)
      (λ l has. part-kept is_none d.txns l.txn l.point l.priority has) d.leases sound.open_parts)

  -- what its transaction's record says of a lease or a reversion
  by-record : (P : Pending → Type 0) → AllByRecursion (λ t. (r : Pending) → r.txn ≡ t.txn → r.owner ≡ t.owner → P r) d.txns → AllByRecursion P (courses d.pending d.leases)
  by-record P says =
      let cs = courses d.pending d.leases in
      let Says = λ (t : Transaction) (r : Pending). r.txn ≡ t.txn → P r in
      let each : AllByRecursion (λ t. AllByRecursion (Says t) cs) d.txns =
      each-map (λ t. IsTransaction plant d t × ((r : Pending) → r.txn ≡ t.txn → r.owner ≡ t.owner → P r)) (λ t. AllByRecursion (Says t) cs)
      (λ t both. each-map (λ r. r.txn ≡ t.txn → r.owner ≡ t.owner) (Says t) (λ r owned is. both.1 r is (owned is)) cs both.0.owned)
      d.txns (each-both (IsTransaction plant d) (λ t. (r : Pending) → r.txn ≡ t.txn → r.owner ≡ t.owner → P r) d.txns sound.txns says) in
      each-map (λ r. AllByRecursion (λ t. Says t r) d.txns × IsKept r) P (λ r both. kept-says (P r) d.txns r.txn both.0 both.1) cs
      (each-both (λ r. AllByRecursion (λ t. Says t r) d.txns) IsKept cs (each-each Says d.txns cs each) kept-courses)

  -- ---- a transaction has one owner

  abbrev IsOwned : Pending → Type 0
  IsOwned reversion = reversion.owner ≡ owner_of d.txns reversion.txn

  pub txns-owned : AllByRecursion (λ t. t.owner ≡ owner_of d.txns t.txn) d.txns
  txns-owned = own-records d.txns sound.numbers

  courses-owned : AllByRecursion IsOwned (courses d.pending d.leases)
  courses-owned = by-record IsOwned (each-map (λ t. t.owner ≡ owner_of d.txns t.txn) (λ t. (r : Pending) → r.txn ≡ t.txn → r.owner ≡ t.owner → IsOwned r)
      (λ t owned r is same. same ∙ owned ∙ ap (owner_of d.txns) (sym is)) d.txns txns-owned)

  pub pending-owned : AllByRecursion IsOwned d.pending
  pending-owned = of-pending IsOwned d.pending d.leases courses-owned

  pub leases-owned : AllByRecursion (λ l. l.owner ≡ owner_of d.txns l.txn) d.leases
  leases-owned = of-leases IsOwned d.pending d.leases courses-owned

  -- ---- its number is below the next one

  abbrev IsGiven : Pending → Type 0
  IsGiven reversion = reversion.txn < d.next

  pub txns-given : AllByRecursion (λ t. t.txn < d.next) d.txns
  txns-given = each-map (IsTransaction plant d) (λ t. t.txn < d.next) (λ t is. is.given) d.txns sound.txns

  courses-given : AllByRecursion IsGiven (courses d.pending d.leases)
  courses-given = by-record IsGiven (each-map (λ t. t.txn < d.next) (λ t. (r : Pending) → r.txn ≡ t.txn → r.owner ≡ t.owner → IsGiven r)
      (λ t given r is _. omega (arith, is)) d.txns txns-given)

  -- the next transaction has nothing yet
  pub next-lives-not : lives d.next (courses d.pending d.leases) ≡ false
  next-lives-not = none-lives d.next (courses d.pending d.leases) courses-given

  -- ---- its owner is a process

  abbrev IsKnown : Pending → Type 0
  IsKnown reversion = reversion.owner < length d.processes

  pub txns-known : AllByRecursion (λ t. t.owner < length d.processes) d.txns
  txns-known = each-map (IsTransaction plant d) (λ t. t.owner < length d.processes) (λ t is. is.owner) d.txns sound.txns

  courses-known : AllByRecursion IsKnown (courses d.pending d.leases)
  courses-known = by-record IsKnown (each-map (λ t. t.owner < length d.processes) (λ t. (r : Pending) → r.txn ≡ t.txn → r.owner ≡ t.owner → IsKnown r)
      (λ t known r _ same. omega (arith, same)) d.txns txns-known)

  pub pending-known : AllByRecursion IsKnown d.pending
  pending-known = of-pending IsKnown d.pending d.leases courses-known

  pub leases-known : AllByRecursion (λ l. l.owner < length d.processes) d.leases
  leases-known = of-leases IsKnown d.pending d.leases courses-known

  pub in-force-known : (point : ℕ) (lease : Lease) → in_force d.leases point ≡ Some lease → lease.owner < length d.processes
  in-force-known point lease found = each-least (λ l. l.owner < length d.processes) (λ l. l.priority) (λ l. l.point == point) d.leases lease leases-known found
