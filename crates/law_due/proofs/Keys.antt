-- A transaction has one lease or one pending reversion on a point, or none: that of its part there.
use Rattle.std.proofs.Common.{◌≡◌, ℕ, ◌==◌, List, [], ◌∷◌, ◌++◌, Bool, true, false, not, ◌&&◌, ◌||◌, cond, map, Option, Some, None, is_none, refl, ap, sym, ◌∙◌, subst, ⊎_elim, arith}
use Rattle.std.specs.List.{filter, find, flat_map, list_any, AllByRecursion}
use Rattle.std.proofs.lemmas.Bool.{cases_Bool}
use Rattle.std.proofs.lemmas.Bool.Decides.{nat_tests}
use Rattle.boss_model.specs.declared.state.Actuator.{Actuator}
use Rattle.boss_model.specs.declared.state.Lease.{Lease}
use Rattle.boss_model.specs.declared.state.Pending.{Pending}
use Rattle.boss_model.specs.Lists.{member}
use Rattle.boss_model.specs.Order.{comes_before}
use Rattle.boss_model.specs.Records.{End, Part, Transaction}
use Rattle.boss_model.specs.Reversions.{reversion_of}
use Rattle.boss_model.specs.Sound.{Rising, Distinct, has_part, is_start, number_rank, IsTransaction, IsSoundPersistent}
use Rattle.boss_model.specs.State.{pending_slot, Persistent}
use Rattle.boss_model.specs.Time.{lease_of_part}
use Rattle.law_time.proofs.Filters.{filter-append}
use Rattle.law_time.proofs.Orders.{before-self, each-map, each-both}

-- ---- an item of a list that is told by a test

module _ {X : Type 0} (key : X → Bool) where
  -- at most one item passes
  abbrev pub Once : List X → Type 0
  Once [] = Unit {0}
  Once (x ∷ xs) = (key x ≡ true → list_any key xs ≡ false) × Once xs

  pub found-any : (xs : List X) → find key xs ≡ None → list_any key xs ≡ false
  found-any [] none = refl
  found-any (x ∷ xs) none = ⊎_elim
      (λ is. absurd (let e : Some x ≡ None = sym (ap (λ b. cond b (Some x) (find key xs)) is) ∙ none in cc))
      (λ out. ap (λ b. b || list_any key xs) out ∙ found-any xs (sym (ap (λ b. cond b (Some x) (find key xs)) out) ∙ none))
      (cases_Bool (key x))

  -- what the found one has, and that it passes
  pub found-has : (P : X → Type 0) (xs : List X) (x : X) → AllByRecursion P xs → find key xs ≡ Some x → P x × (key x ≡ true)
  found-has P [] x all is = absurd (cc)
  found-has P (y ∷ ys) x all is = ⊎_elim
      (λ passed. let same : y ≡ x = (let e : Some y ≡ Some x = sym (ap (λ b. cond b (Some y) (find key ys)) passed) ∙ is in cc) in (subst P same all.0, ap key (sym same) ∙ passed))
      (λ out. found-has P ys x all.1 (sym (ap (λ b. cond b (Some y) (find key ys)) out) ∙ is))
      (cases_Bool (key y))

  abbrev pub some_items : {Y : Type 0} → (X → List Y) → Option X → List Y
  some_items f None = []
  some_items f (Some x) = f x

  abbrev pub some_test : (X → Bool) → Option X → Bool
  some_test test None = false
  some_test test (Some x) = test x

  -- of what the items give, that which the test leaves of the one that passes
  none-filtered : {Y : Type 0} (q : Y → Bool) (f : X → List Y) (xs : List X) → AllByRecursion (λ x. filter q (f x) ≡ cond (key x) (f x) []) xs → list_any key xs ≡ false →
      filter q (flat_map f xs) ≡ []
  none-filtered q f [] all none = refl
  none-filtered q f (x ∷ xs) all none =
      let out : key x ≡ false = grind (arith) in
      let rest : list_any key xs ≡ false = grind (arith) in
      filter-append q (f x) (flat_map f xs) ∙ (λ i. (all.0 ∙ ap (λ b. cond b (f x) []) out) i ++ none-filtered q f xs all.1 rest i)

  pub one-filtered : {Y : Type 0} (q : Y → Bool) (f : X → List Y) (xs : List X) → Once xs → AllByRecursion (λ x. filter q (f x) ≡ cond (key x) (f x) []) xs →
      filter q (flat_map f xs) ≡ some_items f (find key xs)
  one-filtered q f [] once all = refl
  one-filtered {Y} q f (x ∷ xs) once all = ⊎_elim
      (λ is. filter-append q (f x) (flat_map f xs) ∙ (λ i. (all.0 ∙ ap (λ b. cond b (f x) []) is) i ++ none-filtered q f xs all.1 (once.0 is) i)
      ∙ ends (f x) ∙ sym (ap (λ b. some_items f (cond b (Some x) (find key xs))) is))
      (λ out. filter-append q (f x) (flat_map f xs) ∙ (λ i. (all.0 ∙ ap (λ b. cond b (f x) []) out) i ++ one-filtered q f xs once.1 all.1 i)
      ∙ sym (ap (λ b. some_items f (cond b (Some x) (find key xs))) out))
      (cases_Bool (key x))
    where
      ends : (ys : List Y) → ys ++ [] ≡ ys
      ends [] = refl
      ends (y ∷ ys) = ap (λ zs. y ∷ zs) (ends ys)

  none-tested : (test : X → Bool) (xs : List X) → list_any key xs ≡ false → list_any (λ x. key x && test x) xs ≡ false
  none-tested test [] none = refl
  none-tested test (x ∷ xs) none = grind (arith, none-tested test xs)

  pub one-tested : (test : X → Bool) (xs : List X) → Once xs → list_any (λ x. key x && test x) xs ≡ some_test test (find key xs)
  one-tested test [] once = refl
  one-tested test (x ∷ xs) once = ⊎_elim
      (λ is. (λ i. (is i && test x) || none-tested test xs (once.0 is) i) ∙ or_false (test x) ∙ sym (ap (λ b. some_test test (cond b (Some x) (find key xs))) is))
      (λ out. ap (λ b. (b && test x) || list_any (λ y. key y && test y) xs) out ∙ one-tested test xs once.1 ∙ sym (ap (λ b. some_test test (cond b (Some x) (find key xs))) out))
      (cases_Bool (key x))
    where
      or_false : (b : Bool) → (b || false) ≡ b
      or_false true = refl
      or_false false = refl

pub find-alike : {X : Type 0} (p q : X → Bool) (xs : List X) → AllByRecursion (λ x. p x ≡ q x) xs → find p xs ≡ find q xs
find-alike p q [] same = refl
find-alike p q (x ∷ xs) same = λ i. cond (same.0 i) (Some x) (find-alike p q xs same.1 i)

-- ---- the part of a transaction on a point

abbrev pub part_at : ℕ → List Part → Option Part
part_at point parts = find (λ part. part.point == point) parts

abbrev pub found_part : List Transaction → ℕ → ℕ → Option Part
found_part [] txn point = None
found_part (t ∷ ts) txn point = cond (t.txn == txn) (part_at point t.parts) (found_part ts txn point)

abbrev pub in_parts : (Option End → Bool) → List Part → ℕ → ℕ → Bool
in_parts test parts point priority = list_any (λ part. (part.point == point) && ((part.priority == priority) && test part.end)) parts

-- the part is there, has this priority, and its end passes
pub record IsPartAt (test : Option End → Bool) (priority : ℕ) (found : Option Part) : Type 0 where
  pub part : Part
  pub is : found ≡ Some part
  pub level : part.priority ≡ priority
  pub passes : test part.end ≡ true

no-points : (test : Option End → Bool) (parts : List Part) (point priority : ℕ) → member point (map (λ part. part.point) parts) ≡ false → in_parts test parts point priority ≡ false
no-points test [] point priority away = refl
no-points test (part ∷ parts) point priority away = grind (arith, no-points test parts point priority)

part-has : (test : Option End → Bool) (parts : List Part) (point priority : ℕ) → Distinct (map (λ part. part.point) parts) → in_parts test parts point priority ≡ true →
    IsPartAt test priority (part_at point parts)
part-has test [] point priority once has = absurd (cc)
part-has test (part ∷ parts) point priority once has = ⊎_elim
    (λ is.
    let same : part.point ≡ point = grind (arith, nat_tests) in
    let none : in_parts test parts point priority ≡ false = no-points test parts point priority (subst (λ k. member k (map (λ part. part.point) parts) ≡ false) same once.0) in
    let level : (part.priority == priority) ≡ true = grind (arith) in
    record { part = part; is = ap (λ b. cond b (Some part) (part_at point parts)) is; level = (grind (arith, nat_tests)); passes = (grind (arith)) })
    (λ other.
    let later : in_parts test parts point priority ≡ true = grind (arith) in
    subst (IsPartAt test priority) (sym (ap (λ b. cond b (Some part) (part_at point parts)) other)) (part-has test parts point priority once.1 later))
    (cases_Bool (part.point == point))

other-numbers : (t : Transaction) (ts : List Transaction) → AllByRecursion (λ u. comes_before (number_rank u) (number_rank t) ≡ false) ts → AllByRecursion (λ u. (u.txn == t.txn) ≡ false) ts
other-numbers t [] later = tt
other-numbers t (u ∷ us) later = ((let unlike : comes_before (u.txn ∷ []) (t.txn ∷ []) ≡ false = later.0 in grind (arith, nat_tests)), other-numbers t us later.1)

no-numbers : (test : Option End → Bool) (ts : List Transaction) (txn point priority : ℕ) → AllByRecursion (λ u. (u.txn == txn) ≡ false) ts → has_part test ts txn point priority ≡ false
no-numbers test [] txn point priority away = refl
no-numbers test (t ∷ ts) txn point priority away =
    (λ i. (away.0 i && in_parts test t.parts point priority) || no-numbers test ts txn point priority away.1 i)

abbrev pub PointsOnce : Transaction → Type 0
PointsOnce t = Distinct (map (λ part. part.point) t.parts)

-- the part that a slot's test passes
pub part-found : (test : Option End → Bool) (ts : List Transaction) (txn point priority : ℕ) → Rising number_rank ts → AllByRecursion PointsOnce ts →
    has_part test ts txn point priority ≡ true → IsPartAt test priority (found_part ts txn point)
part-found test [] txn point priority rising once has = absurd (cc)
part-found test (t ∷ ts) txn point priority rising once has = ⊎_elim
    (λ is.
    let same : t.txn ≡ txn = grind (arith, nat_tests) in
    let none : has_part test ts txn point priority ≡ false =
    no-numbers test ts txn point priority (subst (λ k. AllByRecursion (λ u. (u.txn == k) ≡ false) ts) same (other-numbers t ts rising.0)) in
    let here : in_parts test t.parts point priority ≡ true = grind (arith) in
    subst (IsPartAt test priority) (sym (ap (λ b. cond b (part_at point t.parts) (found_part ts txn point)) is)) (part-has test t.parts point priority once.0 here))
    (λ other.
    let later : has_part test ts txn point priority ≡ true = grind (arith) in
    subst (IsPartAt test priority) (sym (ap (λ b. cond b (part_at point t.parts) (found_part ts txn point)) other)) (part-found test ts txn point priority rising.1 once.1 later))
    (cases_Bool (t.txn == txn))

self-number : (n : ℕ) → (n == n) ≡ true
self-number n = grind (arith, nat_tests)

-- the parts of a record are those that are found by its number
pub own-parts : (ts : List Transaction) → Rising number_rank ts → AllByRecursion (λ t. (point : ℕ) → found_part ts t.txn point ≡ part_at point t.parts) ts
own-parts [] rising = tt
own-parts (t ∷ ts) rising = (
  (λ point. ap (λ b. cond b (part_at point t.parts) (found_part ts t.txn point)) (self-number t.txn)),
  each-map (λ u. ((u.txn == t.txn) ≡ false) × ((point : ℕ) → found_part ts u.txn point ≡ part_at point u.parts)) (λ u. (point : ℕ) → found_part (t ∷ ts) u.txn point ≡ part_at point u.parts)
      (λ u both point. let apart : (t.txn == u.txn) ≡ false = grind (arith, nat_tests, both.0) in
      ap (λ b. cond b (part_at point t.parts) (found_part ts u.txn point)) apart ∙ both.1 point)
      ts (each-both (λ u. (u.txn == t.txn) ≡ false) (λ u. (point : ℕ) → found_part ts u.txn point ≡ part_at point u.parts) ts (other-numbers t ts rising.0) (own-parts ts rising.1)),
)

other-points : (part : Part) (parts : List Part) → member part.point (map (λ p. p.point) parts) ≡ false → AllByRecursion (λ p. (part.point == p.point) ≡ false) parts
other-points part [] away = tt
other-points part (p ∷ ps) away = (grind (arith, nat_tests), other-points part ps (grind (arith)))

pub own-points : (parts : List Part) → Distinct (map (λ part. part.point) parts) → AllByRecursion (λ part. part_at part.point parts ≡ Some part) parts
own-points [] once = tt
own-points (part ∷ parts) once = (
  ap (λ b. cond b (Some part) (part_at part.point parts)) (self-number part.point),
  each-map (λ p. ((part.point == p.point) ≡ false) × (part_at p.point parts ≡ Some p)) (λ p. part_at p.point (part ∷ parts) ≡ Some p)
      (λ p both. ap (λ b. cond b (Some part) (part_at p.point parts)) both.0 ∙ both.1)
      parts (each-both (λ p. (part.point == p.point) ≡ false) (λ p. part_at p.point parts ≡ Some p) parts (other-points part parts once.0) (own-points parts once.1)),
)

-- ---- leases and reversions by transaction and point

abbrev pub lease_key : ℕ → ℕ → Lease → Bool
lease_key txn point lease = (lease.txn == txn) && (lease.point == point)

abbrev pub pending_key : ℕ → ℕ → Pending → Bool
pending_key txn point reversion = (reversion.txn == txn) && (reversion.point == point)

abbrev pub is_some : Option End → Bool
is_some end = not (is_none end)

start-some : (start : ℕ) (end : Option End) → is_start start end ≡ true → is_some end ≡ true
start-some start None is = absurd (cc)
start-some start (Some end) is = refl

-- two of one part have one priority
same-level : (test other : Option End → Bool) (a b : ℕ) (found : Option Part) → IsPartAt test a found → IsPartAt other b found → a ≡ b
same-level test other a b found p q =
    let same : Some p.part ≡ Some q.part = sym p.is ∙ q.is in
    let parts : p.part ≡ q.part = cc in
    sym p.level ∙ ap (λ x. x.priority) parts ∙ q.level

-- of leases, each seen as its reversion, and of reversions
module _ {X : Type 0} (reversion : X → Pending) (test : Option End → Bool) (txns : List Transaction) where
  abbrev IsOfPart : X → Type 0
  IsOfPart x = let r = reversion x in IsPartAt test r.priority (found_part txns r.txn r.point)

  abbrev key_of : ℕ → ℕ → X → Bool
  key_of txn point x = pending_key txn point (reversion x)

  part-of : (txn point : ℕ) (x : X) → key_of txn point x ≡ true → IsOfPart x → IsPartAt test (reversion x).priority (found_part txns txn point)
  part-of txn point x own is =
      let r = reversion x in
      let a : r.txn ≡ txn = grind (arith, nat_tests) in
      let b : r.point ≡ point = grind (arith, nat_tests) in
      subst (λ k. IsPartAt test r.priority (found_part txns txn k)) b (subst (λ k. IsPartAt test r.priority (found_part txns k r.point)) a is)

  -- two of one key would have one slot
  others-apart : (txn point : ℕ) (x : X) (xs : List X) → key_of txn point x ≡ true → IsOfPart x →
      AllByRecursion (λ y. comes_before (pending_slot (reversion y)) (pending_slot (reversion x)) ≡ false) xs → AllByRecursion IsOfPart xs → list_any (key_of txn point) xs ≡ false
  others-apart txn point x [] own part later parts = refl
  others-apart txn point x (y ∷ ys) own part later parts = ⊎_elim
      (λ same.
      let points : (reversion y).point ≡ (reversion x).point = grind (arith, nat_tests) in
      let levels : (reversion y).priority ≡ (reversion x).priority =
      same-level test test (reversion y).priority (reversion x).priority (found_part txns txn point) (part-of txn point y same parts.0) (part-of txn point x own part) in
      let before : comes_before (pending_slot (reversion y)) (pending_slot (reversion x)) ≡ true =
      (λ i. comes_before (points i ∷ levels i ∷ []) (pending_slot (reversion x))) ∙ before-self (pending_slot (reversion x)) in
      absurd (let no_way : comes_before (pending_slot (reversion y)) (pending_slot (reversion x)) ≡ false = later.0 in cc))
      (λ other. ap (λ b. b || list_any (key_of txn point) ys) other ∙ others-apart txn point x ys own part later.1 parts.1)
      (cases_Bool (key_of txn point y))

  slots-once : (txn point : ℕ) (xs : List X) → Rising (λ x. pending_slot (reversion x)) xs → AllByRecursion IsOfPart xs → Once (key_of txn point) xs
  slots-once txn point [] rising parts = tt
  slots-once txn point (x ∷ xs) rising parts = ((λ own. others-apart txn point x xs own parts.0 rising.0 parts.1), slots-once txn point xs rising.1 parts.1)

  part-of-found : (txn point : ℕ) (xs : List X) (x : X) → AllByRecursion IsOfPart xs → find (key_of txn point) xs ≡ Some x → IsPartAt test (reversion x).priority (found_part txns txn point)
  part-of-found txn point xs x parts found = let has = found-has (key_of txn point) IsOfPart xs x parts found in part-of txn point x has.1 has.0

module _ (plant : List Actuator) (d : Persistent) (sound : IsSoundPersistent plant d) where
  points-once : AllByRecursion PointsOnce d.txns
  points-once = each-map (IsTransaction plant d) PointsOnce (λ t is. is.points) d.txns sound.txns

  pub lease-part : AllByRecursion (λ l. IsPartAt is_none l.priority (found_part d.txns l.txn l.point)) d.leases
  lease-part = each-map (λ l. has_part is_none d.txns l.txn l.point l.priority ≡ true) (λ l. IsPartAt is_none l.priority (found_part d.txns l.txn l.point))
      (λ l has. part-found is_none d.txns l.txn l.point l.priority sound.numbers points-once has) d.leases sound.open_parts

  pub pending-part : AllByRecursion (λ r. IsPartAt is_some r.priority (found_part d.txns r.txn r.point)) d.pending
  pending-part = each-map (λ r. has_part (is_start r.start) d.txns r.txn r.point r.priority ≡ true) (λ r. IsPartAt is_some r.priority (found_part d.txns r.txn r.point))
      (λ r has. let p = part-found (is_start r.start) d.txns r.txn r.point r.priority sound.numbers points-once has in
      record { part = p.part; is = p.is; level = p.level; passes = start-some r.start p.part.end p.passes }) d.pending sound.ended_parts

  pub lease-once : (txn point : ℕ) → Once (lease_key txn point) d.leases
  lease-once txn point = slots-once reversion_of is_none d.txns txn point d.leases sound.lease_slots lease-part

  pub pending-once : (txn point : ℕ) → Once (pending_key txn point) d.pending
  pending-once txn point = slots-once (λ r. r) is_some d.txns txn point d.pending sound.pending_slots pending-part

  -- the part of a found lease, and of a found reversion
  pub lease-found : (txn point : ℕ) (l : Lease) → find (lease_key txn point) d.leases ≡ Some l → IsPartAt is_none l.priority (found_part d.txns txn point)
  lease-found txn point l found = part-of-found reversion_of is_none d.txns txn point d.leases l lease-part found

  pub pending-found : (txn point : ℕ) (r : Pending) → find (pending_key txn point) d.pending ≡ Some r → IsPartAt is_some r.priority (found_part d.txns txn point)
  pending-found txn point r found = part-of-found (λ r. r) is_some d.txns txn point d.pending r pending-part found

  -- not both
  pub not-both : (txn point : ℕ) (l : Lease) (r : Pending) → find (lease_key txn point) d.leases ≡ Some l → find (pending_key txn point) d.pending ≡ Some r → ⊥
  not-both txn point l r p q =
      let a = lease-found txn point l p in
      let b = pending-found txn point r q in
      let same : Some a.part ≡ Some b.part = sym a.is ∙ b.is in
      let parts : a.part ≡ b.part = cc in
      let ended : is_some a.part.end ≡ true = ap (λ x. is_some x.end) parts ∙ b.passes in
      let live : is_none a.part.end ≡ true = a.passes in
      grind (arith)

  -- the lease of a part is found by its point
  pub found-alike : (txn point priority : ℕ) (part : Part) → found_part d.txns txn point ≡ Some part → part.priority ≡ priority →
      lease_of_part d.leases txn point priority ≡ find (lease_key txn point) d.leases
  found-alike txn point priority part at level = find-alike (λ l. (l.txn == txn) && ((l.point == point) && (l.priority == priority))) (lease_key txn point) d.leases
      (each-map (λ l. IsPartAt is_none l.priority (found_part d.txns l.txn l.point)) (λ l. ((l.txn == txn) && ((l.point == point) && (l.priority == priority))) ≡ lease_key txn point l)
      (λ l is. ⊎_elim
      (λ key.
      let here : IsPartAt is_none l.priority (found_part d.txns txn point) = part-of reversion_of is_none d.txns txn point l key is in
      let same : Some here.part ≡ Some part = sym here.is ∙ at in
      let parts : here.part ≡ part = cc in
      let levels : l.priority ≡ priority = sym here.level ∙ ap (λ x. x.priority) parts ∙ level in
      grind (arith, nat_tests))
      (λ other. grind (arith))
      (cases_Bool (lease_key txn point l)))
      d.leases lease-part)
