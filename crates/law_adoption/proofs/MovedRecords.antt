-- Records of transactions whose points all stay: their parts stand in the slots to which leases and reversions go.
use Rattle.std.proofs.Common.{◌≡◌, ℕ, ◌==◌, List, [], ◌∷◌, map, Bool, true, false, not, ◌&&◌, ◌||◌, Option, is_none, refl, ap, ◌∙◌, subst, arith}
use Rattle.std.specs.List.{list_any, list_all, AllByRecursion}
use Rattle.std.proofs.lemmas.Bool.{cond_both}
use Rattle.std.proofs.lemmas.Bool.Decides.{nat_tests}
use Rattle.boss_model.specs.declared.state.Actuator.{Actuator}
use Rattle.boss_model.specs.declared.state.Lease.{Lease}
use Rattle.boss_model.specs.declared.state.Pending.{Pending}
use Rattle.boss_model.specs.Happenings.{lives}
use Rattle.boss_model.specs.Lists.{member}
use Rattle.boss_model.specs.Records.{End, Part, Transaction}
use Rattle.boss_model.specs.Reversions.{courses}
use Rattle.boss_model.specs.Sound.{Distinct, holds, has_part, is_start, is_kept, IsSoundPersistent}
use Rattle.boss_model.specs.State.{lease_slot, Persistent}
use Rattle.law_time.proofs.Filters.{any-map}
use Rattle.law_time.proofs.NothingDue.{of-pending, of-leases}
use Rattle.law_time.proofs.Orders.{each-map, each-both}
use Rattle.law_time.proofs.Slots.{any-in_order}
use Rattle.law_adoption.specs.Adopted.{moved_lease, moved_part, moved_txn, all_stay, staying}
use Rattle.law_adoption.specs.MayMove.{MayMove}
use Rattle.law_adoption.specs.Renumber.{stays, at, IsRenumbering}
use Rattle.law_adoption.proofs.MovedSlots.{moved_leases, LeasesStay, PendingStay}
use Rattle.law_adoption.proofs.Points.{same-place}

-- a part of this slot whose end passes
abbrev has : (Option End → Bool) → ℕ → ℕ → List Part → Bool
has test point priority parts = list_any (λ part. (part.point == point) && ((part.priority == priority) && test part.end)) parts

-- ---- a slot that a record names stays, if all points of the record do

module _ (to : ℕ → Option ℕ) (test : Option End → Bool) where
  part-stays : (point priority : ℕ) (parts : List Part) → has test point priority parts ≡ true → list_all (λ part. stays to part.point) parts ≡ true → stays to point ≡ true
  part-stays point priority [] there all = cc
  part-stays point priority (part ∷ parts) there all =
      cond_both (part.point == point) true false (λ b. (part.point == point) ≡ b → stays to point ≡ true)
      (λ is _. let same : part.point ≡ point = grind (arith, nat_tests) in subst (λ p. stays to p ≡ true) same (grind (arith)))
      (λ other _. part-stays point priority parts (grind (arith)) (grind (arith))) (grind arith)

  -- the records of one transaction have only points that stay
  abbrev pub Stay : ℕ → List Transaction → Type 0
  Stay txn txns = AllByRecursion (λ t. t.txn ≡ txn → all_stay to t ≡ true) txns

  pub slot-stays : (txn point priority : ℕ) (txns : List Transaction) → Stay txn txns → has_part test txns txn point priority ≡ true → stays to point ≡ true
  slot-stays txn point priority [] all there = cc
  slot-stays txn point priority (t ∷ ts) all there =
      cond_both ((t.txn == txn) && has test point priority t.parts) true false (λ b. ((t.txn == txn) && has test point priority t.parts) ≡ b → stays to point ≡ true)
      (λ is _. let same : t.txn ≡ txn = grind (arith, nat_tests) in part-stays point priority t.parts (grind (arith)) (all.0 same))
      (λ other _. slot-stays txn point priority ts all.1 (grind (arith))) (grind arith)

-- ---- what has a lease or a reversion stays

each-lives : (reversions : List Pending) → AllByRecursion (λ r. lives r.txn reversions ≡ true) reversions
each-lives [] = tt
each-lives (r ∷ rs) =
    (grind (arith, nat_tests), each-map (λ s. lives s.txn rs ≡ true) (λ s. lives s.txn (r ∷ rs) ≡ true) (λ s there. grind (arith)) rs (each-lives rs))

module _ (plant new : List Actuator) (to : ℕ → Option ℕ) (d : Persistent) (sound : IsSoundPersistent plant d) (may : MayMove new to d) where
  living-stays : (test : Option End → Bool) (txn : ℕ) → lives txn (courses d.pending d.leases) ≡ true → Stay to test txn d.txns
  living-stays test txn alive =
      each-map (λ t. (member t.txn d.done ≡ not (lives t.txn (courses d.pending d.leases))) × (member t.txn d.done ≡ false → all_stay to t ≡ true)) (λ t. t.txn ≡ txn → all_stay to t ≡ true)
      (λ t both same. both.1 (both.0 ∙ ap (λ n. not (lives n (courses d.pending d.leases))) same ∙ ap not alive)) d.txns
      (each-both (λ t. member t.txn d.done ≡ not (lives t.txn (courses d.pending d.leases))) (λ t. member t.txn d.done ≡ false → all_stay to t ≡ true) d.txns sound.done may.named)

  pub leases-records-stay : AllByRecursion (λ l. Stay to is_none l.txn d.txns) d.leases
  leases-records-stay = each-map (λ l. lives l.txn (courses d.pending d.leases) ≡ true) (λ l. Stay to is_none l.txn d.txns) (λ l alive. living-stays is_none l.txn alive) d.leases
      (of-leases (λ r. lives r.txn (courses d.pending d.leases) ≡ true) d.pending d.leases (each-lives (courses d.pending d.leases)))

  pub pending-records-stay : AllByRecursion (λ r. Stay to (is_start r.start) r.txn d.txns) d.pending
  pending-records-stay = each-map (λ r. lives r.txn (courses d.pending d.leases) ≡ true) (λ r. Stay to (is_start r.start) r.txn d.txns) (λ r alive. living-stays (is_start r.start) r.txn alive) d.pending
      (of-pending (λ r. lives r.txn (courses d.pending d.leases) ≡ true) d.pending d.leases (each-lives (courses d.pending d.leases)))

  pub leases-stay : LeasesStay to d.leases
  leases-stay = each-map (λ l. Stay to is_none l.txn d.txns × (has_part is_none d.txns l.txn l.point l.priority ≡ true)) (λ l. stays to l.point ≡ true)
      (λ l both. slot-stays to is_none l.txn l.point l.priority d.txns both.0 both.1) d.leases
      (each-both (λ l. Stay to is_none l.txn d.txns) (λ l. has_part is_none d.txns l.txn l.point l.priority ≡ true) d.leases leases-records-stay sound.open_parts)

  pub pending-stay : PendingStay to d.pending
  pending-stay = each-map (λ r. Stay to (is_start r.start) r.txn d.txns × (has_part (is_start r.start) d.txns r.txn r.point r.priority ≡ true)) (λ r. stays to r.point ≡ true)
      (λ r both. slot-stays to (is_start r.start) r.txn r.point r.priority d.txns both.0 both.1) d.pending
      (each-both (λ r. Stay to (is_start r.start) r.txn d.txns) (λ r. has_part (is_start r.start) d.txns r.txn r.point r.priority ≡ true) d.pending pending-records-stay sound.ended_parts)

-- ---- slots and parts that have moved

module _ (to : ℕ → Option ℕ) (points : ℕ) (renumbering : IsRenumbering to points) where
  has-moved : (test : Option End → Bool) (point priority : ℕ) (parts : List Part) → stays to point ≡ true → list_all (λ part. stays to part.point) parts ≡ true →
      has test (at to point) priority (map (moved_part to) parts) ≡ has test point priority parts
  has-moved test point priority [] there all = refl
  has-moved test point priority (part ∷ parts) there all =
      let here : (at to part.point == at to point) ≡ (part.point == point) = same-place to points renumbering part.point point (grind (arith)) there in
      let rest = has-moved test point priority parts there (grind (arith)) in
      λ i. (here i && ((part.priority == priority) && test part.end)) || rest i

  pub has_part-moved : (test : Option End → Bool) (txn point priority : ℕ) (txns : List Transaction) → stays to point ≡ true → Stay to test txn txns →
      has_part test (map (moved_txn to) (staying to txns)) txn (at to point) priority ≡ has_part test txns txn point priority
  has_part-moved test txn point priority [] there all = refl
  has_part-moved test txn point priority (t ∷ ts) there all =
      let rest : has_part test (map (moved_txn to) (staying to ts)) txn (at to point) priority ≡ has_part test ts txn point priority = has_part-moved test txn point priority ts there all.1 in
      cond_both (all_stay to t) (t ∷ staying to ts) (staying to ts)
      (λ left. has_part test (map (moved_txn to) left) txn (at to point) priority ≡ has_part test (t ∷ ts) txn point priority)
      (λ stay. λ i. ((t.txn == txn) && has-moved test point priority t.parts there stay i) || rest i)
      (λ goes.
      let here : t.txn ≡ txn → all_stay to t ≡ true = all.0 in
      let other : (t.txn == txn) ≡ false = grind (arith, nat_tests, here) in
      rest ∙ grind (arith, other))

  -- a lease holds the slot to which its part goes
  pub holds-moved : (txn point priority : ℕ) (leases : List Lease) → stays to point ≡ true → LeasesStay to leases →
      holds (moved_leases to leases) txn (at to point) priority ≡ holds leases txn point priority
  holds-moved txn point priority leases there all =
      let test = λ (l : Lease). (l.txn == txn) && ((l.point == at to point) && (l.priority == priority)) in
      any-in_order test lease_slot (map (moved_lease to) leases) ∙ one-by-one leases all
    where
      one-by-one : (ls : List Lease) → LeasesStay to ls → holds (map (moved_lease to) ls) txn (at to point) priority ≡ holds ls txn point priority
      one-by-one [] stay = refl
      one-by-one (l ∷ ls) stay =
          let here : (at to l.point == at to point) ≡ (l.point == point) = same-place to points renumbering l.point point stay.0 there in
          λ i. ((l.txn == txn) && (here i && (l.priority == priority))) || one-by-one ls stay.1 i

  -- points of a record's parts, each once
  pub points-once : (parts : List Part) → list_all (λ part. stays to part.point) parts ≡ true → Distinct (map (λ part. part.point) parts) → Distinct (map (λ part. part.point) (map (moved_part to) parts))
  points-once [] all once = tt
  points-once (part ∷ parts) all once = (others parts (grind (arith)) once.0, points-once parts (grind (arith)) once.1)
    where
      here : stays to part.point ≡ true
      here = grind (arith)

      others : (ps : List Part) → list_all (λ p. stays to p.point) ps ≡ true → member part.point (map (λ p. p.point) ps) ≡ false → member (at to part.point) (map (λ p. p.point) (map (moved_part to) ps)) ≡ false
      others [] stay away = refl
      others (p ∷ ps) stay away =
          let apart : (at to p.point == at to part.point) ≡ (p.point == part.point) = same-place to points renumbering p.point part.point (grind (arith)) here in
          let rest : member (at to part.point) (map (λ q. q.point) (map (moved_part to) ps)) ≡ false = others ps (grind (arith)) (grind (arith)) in
          grind (arith, apart, rest)

-- the records that are kept have their numbers
pub is_kept-moved : (to : ℕ → Option ℕ) (txns : List Transaction) (txn : ℕ) → is_kept (map (moved_txn to) txns) txn ≡ is_kept txns txn
is_kept-moved to txns txn = any-map (λ t. t.txn == txn) (moved_txn to) txns
