-- Lists in order of rank whose items are told apart by rank: their order does not depend on that of the list they come from.
use Rattle.std.proofs.Common.{◌≡◌, ℕ, zero, suc, ◌+◌, ◌<◌, List, [], ◌∷◌, ◌++◌, length, get_or, set, Bool, true, false, not, ◌&&◌, cond, refl, ap, sym, ◌∙◌, subst, arith}
use Rattle.std.proofs.Math.ListN.{length-set}
use Rattle.std.specs.Cmp.{IsStrictWeakOrder}
use Rattle.std.specs.List.{flat_map, swap, AllByRecursion}
use Rattle.std.specs.List.Sorted.{IsPermutation, IsSortedBy}
use Rattle.std.proofs.lemmas.Bool.{cond_both}
use Rattle.std.proofs.lemmas.List.Sorted.{IsPermutation-keeps, IsPermutation-append_comm}
use Rattle.boss_model.specs.Order.{comes_before, put, in_order}
use Rattle.law_time.proofs.Filters.{put-put}
use Rattle.law_time.proofs.Orders.{before-total, before-self, before-trans, before-both, each-map, each-in_order, Ordered, in_order-Ordered}
use Rattle.law_due.specs.Telling.{AreApart}

-- ---- members

-- x is an item of the list
abbrev pub IsItem : {X : Type 0} → List X → X → Type 0
IsItem xs x = (k : ℕ) × (k < length xs) × (get_or xs k x ≡ x)

each-item : {X : Type 0} (P : X → Type 0) (xs : List X) (x : X) → AllByRecursion P xs → IsItem xs x → P x
each-item P [] x all (k, within, is) = absurd (omega arith)
each-item P (y ∷ ys) x all (zero, within, is) = subst P is all.0
each-item P (y ∷ ys) x all (suc k, within, is) = each-item P ys x all.1 (k, (omega arith), is)

item-behind : {X : Type 0} (y : X) (ys : List X) (x : X) → IsItem ys x → IsItem (y ∷ ys) x
item-behind y ys x (k, within, is) = (suc k, (omega arith), is)

each-in : {X : Type 0} (xs : List X) → AllByRecursion (IsItem xs) xs
each-in [] = tt
each-in (x ∷ xs) = ((zero, (omega arith), refl), each-map (IsItem xs) (IsItem (x ∷ xs)) (λ y. item-behind x xs y) xs (each-in xs))

pub each-at : {X : Type 0} (P : X → Type 0) (xs : List X) (k : ℕ) (d : X) → AllByRecursion P xs → k < length xs → P (get_or xs k d)
each-at P [] k d all within = absurd (omega arith)
each-at P (x ∷ xs) zero d all within = all.0
each-at P (x ∷ xs) (suc k) d all within = each-at P xs k d all.1 (omega arith)

each-set : {X : Type 0} (P : X → Type 0) (xs : List X) (k : ℕ) (x : X) → AllByRecursion P xs → P x → AllByRecursion P (set xs k x)
each-set P [] k x all here = tt
each-set P (y ∷ ys) zero x all here = (here, all.1)
each-set P (y ∷ ys) (suc k) x all here = (all.0, each-set P ys k x all.1 here)

-- an item that is written elsewhere too
get-copied : {X : Type 0} (xs : List X) (i j : ℕ) (d : X) → get_or (set xs i (get_or xs j d)) j d ≡ get_or xs j d
get-copied [] i j d = refl
get-copied (x ∷ xs) zero zero d = refl
get-copied (x ∷ xs) zero (suc j) d = refl
get-copied (x ∷ xs) (suc i) zero d = refl
get-copied (x ∷ xs) (suc i) (suc j) d = get-copied xs i j d

-- ---- an item that is put in

module _ {X : Type 0} (rank : X → List ℕ) where
  length-put : (x : X) (ys : List X) → length (put rank x ys) ≡ length ys + 1
  length-put x [] = refl
  length-put x (y ∷ ys) = cond_both (comes_before (rank x) (rank y)) (x ∷ y ∷ ys) (y ∷ put rank x ys) (λ zs. length zs ≡ length (y ∷ ys) + 1)
      (λ _. omega arith) (λ _. omega (arith, length-put x ys))

  injective-at : (x y z : X) (ys zs : List X) (b c : Bool) → comes_before (rank x) (rank y) ≡ b → comes_before (rank x) (rank z) ≡ c →
      cond b (x ∷ y ∷ ys) (y ∷ put rank x ys) ≡ cond c (x ∷ z ∷ zs) (z ∷ put rank x zs) → (put rank x ys ≡ put rank x zs → ys ≡ zs) → y ∷ ys ≡ z ∷ zs
  injective-at x y z ys zs true true first second same rest = cc
  injective-at x y z ys zs true false first second same rest =
      let at : x ≡ z = cc in
      let own : comes_before (rank x) (rank z) ≡ true = subst (λ w. comes_before (rank x) (rank w) ≡ true) at (before-self (rank x)) in cc
  injective-at x y z ys zs false true first second same rest =
      let at : x ≡ y = cc in
      let own : comes_before (rank x) (rank y) ≡ true = subst (λ w. comes_before (rank x) (rank w) ≡ true) at (before-self (rank x)) in cc
  injective-at x y z ys zs false false first second same rest =
      let tails : put rank x ys ≡ put rank x zs = cc in
      let behind : ys ≡ zs = rest tails in cc

  -- what an item was put into is seen from the outcome
  pub put-injective : (x : X) (ys zs : List X) → put rank x ys ≡ put rank x zs → ys ≡ zs
  put-injective x [] [] same = refl
  put-injective x [] (z ∷ zs) same = absurd (omega (arith, length-put x [], length-put x (z ∷ zs), ap length same))
  put-injective x (y ∷ ys) [] same = absurd (omega (arith, length-put x [], length-put x (y ∷ ys), ap length same))
  put-injective x (y ∷ ys) (z ∷ zs) same =
      injective-at x y z ys zs (comes_before (rank x) (rank y)) (comes_before (rank x) (rank z)) refl refl same (put-injective x ys zs)

  -- items in order after a front depend on those behind it by their order alone
  pub in_order-front : (us xs ys : List X) → in_order rank xs ≡ in_order rank ys → in_order rank (us ++ xs) ≡ in_order rank (us ++ ys)
  in_order-front [] xs ys same = same
  in_order-front (u ∷ us) xs ys same = ap (put rank u) (in_order-front us xs ys same)

  -- ---- order as a sort tells it

  -- one stands strictly before the other
  abbrev pub is_before : X → X → Bool
  is_before x y = not (comes_before (rank y) (rank x))

  pub is_before-orders : IsStrictWeakOrder is_before
  is_before-orders = record {
    one_way = λ x y first. grind (arith, before-total (rank y) (rank x));
    chain = λ x y z first second. grind (arith, before-trans (rank z) (rank y) (rank x));
  }

  next-first : (x : X) (ys : List X) → Ordered rank ys → ((d : X) → 0 < length ys → comes_before (rank x) (rank (get_or ys 0 d)) ≡ true) →
      AllByRecursion (λ y. comes_before (rank x) (rank y) ≡ true) ys
  next-first x [] o next = tt
  next-first x (y ∷ ys) o next = (
    next y (omega arith),
    each-map (λ z. comes_before (rank y) (rank z) ≡ true) (λ z. comes_before (rank x) (rank z) ≡ true)
        (λ z later. before-trans (rank x) (rank y) (rank z) (next y (omega arith)) later) ys o.0,
  )

  pub sorted-Ordered : (xs : List X) → IsSortedBy is_before xs → Ordered rank xs
  sorted-Ordered [] sorted = tt
  sorted-Ordered (x ∷ xs) sorted =
      let rest : Ordered rank xs = sorted-Ordered xs (λ k d low high.
      let next : suc k + 1 ≡ suc (k + 1) = omega arith in
      subst (λ n. is_before (get_or (x ∷ xs) n d) (get_or xs k d) ≡ false) next (sorted (suc k) d (omega arith) (omega arith))) in
      (next-first x xs rest (λ d some. let first : not (comes_before (rank x) (rank (get_or xs 0 d))) ≡ false = sorted 0 d (omega arith) (omega arith) in grind arith), rest)

-- ---- items with Q are told apart by rank

-- two items may be put in either first, if they are one and the same where their ranks are
pub put-commutes : {X : Type 0} (rank : X → List ℕ) (x y : X) (zs : List X) → (rank x ≡ rank y → x ≡ y) → put rank x (put rank y zs) ≡ put rank y (put rank x zs)
put-commutes rank x y zs apart = cond_both (comes_before (rank x) (rank y) && comes_before (rank y) (rank x)) true false
    (λ b. (comes_before (rank x) (rank y) && comes_before (rank y) (rank x)) ≡ b → put rank x (put rank y zs) ≡ put rank y (put rank x zs))
    (λ both _.
    let same : x ≡ y = apart (before-both (rank x) (rank y) (grind arith) (grind arith)) in
    subst (λ z. put rank x (put rank z zs) ≡ put rank z (put rank x zs)) same refl)
    (λ one _. put-put rank x y zs one) (grind arith)

module _ {X : Type 0} (rank : X → List ℕ) (Q : X → Type 0) (apart : (x y : X) → Q x → Q y → rank x ≡ rank y → x ≡ y) where
  put-either : (x y : X) (zs : List X) → Q x → Q y → put rank x (put rank y zs) ≡ put rank y (put rank x zs)
  put-either x y zs p q = put-commutes rank x y zs (apart x y p q)

  -- an item in the middle might as well be the first
  pub in_order-middle : (x : X) (us xs : List X) → Q x → AllByRecursion Q us → in_order rank (us ++ x ∷ xs) ≡ put rank x (in_order rank (us ++ xs))
  in_order-middle x [] xs here all = refl
  in_order-middle x (u ∷ us) xs here all = ap (put rank u) (in_order-middle x us xs here all.1) ∙ put-either u x (in_order rank (us ++ xs)) all.0 here

  -- two parts might as well stand the other way round
  pub in_order-either : (us vs xs : List X) → AllByRecursion Q us → AllByRecursion Q vs → in_order rank (us ++ (vs ++ xs)) ≡ in_order rank (vs ++ (us ++ xs))
  in_order-either us [] xs p q = refl
  in_order-either us (v ∷ vs) xs p q = in_order-middle v us (vs ++ xs) q.0 p ∙ ap (put rank v) (in_order-either us vs xs p q.1)

  -- one item is written over another
  in_order-set : (xs : List X) (k : ℕ) (x d : X) → AllByRecursion Q xs → Q x → k < length xs →
      put rank (get_or xs k d) (in_order rank (set xs k x)) ≡ put rank x (in_order rank xs)
  in_order-set [] k x d all here within = absurd (omega arith)
  in_order-set (y ∷ ys) zero x d all here within = put-either y x (in_order rank ys) all.0 here
  in_order-set (y ∷ ys) (suc k) x d all here within =
      put-either (get_or ys k d) y (in_order rank (set ys k x)) (each-at Q ys k d all.1 (omega arith)) all.0
      ∙ ap (put rank y) (in_order-set ys k x d all.1 here (omega arith))
      ∙ put-either y x (in_order rank ys) all.0 here

  -- two items change places
  in_order-swap : (xs : List X) (i j : ℕ) (d : X) → AllByRecursion Q xs → i < length xs → j < length xs →
      in_order rank (set (set xs i (get_or xs j d)) j (get_or xs i d)) ≡ in_order rank xs
  in_order-swap xs i j d all p q =
      let w : List X = set xs i (get_or xs j d) in
      let long : length w ≡ length xs = length-set xs i (get_or xs j d) in
      let there : get_or w j d ≡ get_or xs j d = get-copied xs i j d in
      let written : AllByRecursion Q w = each-set Q xs i (get_or xs j d) all (each-at Q xs j d all q) in
      put-injective rank (get_or xs j d) (in_order rank (set w j (get_or xs i d))) (in_order rank xs)
      (ap (λ x. put rank x (in_order rank (set w j (get_or xs i d)))) (sym there)
      ∙ in_order-set w j (get_or xs i d) d written (each-at Q xs i d all p) (omega arith)
      ∙ in_order-set xs i (get_or xs j d) d all (each-at Q xs j d all q) p)

  all-swap : (xs : List X) (i j : ℕ) (d : X) → AllByRecursion Q xs → i < length xs → j < length xs → AllByRecursion Q (set (set xs i (get_or xs j d)) j (get_or xs i d))
  all-swap xs i j d all p q = each-set Q (set xs i (get_or xs j d)) j (get_or xs i d) (each-set Q xs i (get_or xs j d) all (each-at Q xs j d all q)) (each-at Q xs i d all p)

  swapped : (zs xs : List X) (i j : ℕ) → i < length xs → j < length xs → AllByRecursion Q xs × (in_order rank xs ≡ in_order rank zs) →
      AllByRecursion Q (swap xs i j) × (in_order rank (swap xs i j) ≡ in_order rank zs)
  swapped zs [] i j p q h = absurd (omega arith)
  swapped zs (d ∷ ys) i j p q h = (all-swap (d ∷ ys) i j d h.0 p q, in_order-swap (d ∷ ys) i j d h.0 p q ∙ h.1)

  -- the same items in another order
  moved-both : (xs ys : List X) → AllByRecursion Q xs → IsPermutation xs ys → AllByRecursion Q ys × (in_order rank ys ≡ in_order rank xs)
  moved-both xs ys all moved = IsPermutation-keeps xs (λ l. AllByRecursion Q l × (in_order rank l ≡ in_order rank xs)) (all, refl) (swapped xs) ys moved

  pub in_order-moved : (xs ys : List X) → AllByRecursion Q xs → IsPermutation xs ys → in_order rank ys ≡ in_order rank xs
  in_order-moved xs ys all moved = (moved-both xs ys all moved).1

  -- what each of some things gives, where the things are put in order first
  flat_map-put : {Y : Type 0} (slot : Y → List ℕ) (f : Y → List X) (y : Y) (ys : List Y) → AllByRecursion Q (f y) → AllByRecursion (λ z. AllByRecursion Q (f z)) ys →
      in_order rank (flat_map f (put slot y ys)) ≡ in_order rank (f y ++ flat_map f ys)
  flat_map-put slot f y [] here all = refl
  flat_map-put slot f y (z ∷ zs) here all = cond_both (comes_before (slot y) (slot z)) (y ∷ z ∷ zs) (z ∷ put slot y zs)
      (λ ws. in_order rank (flat_map f ws) ≡ in_order rank (f y ++ (f z ++ flat_map f zs)))
      (λ _. refl)
      (λ _. in_order-front rank (f z) (flat_map f (put slot y zs)) (f y ++ flat_map f zs) (flat_map-put slot f y zs here all.1)
      ∙ in_order-either (f z) (f y) (flat_map f zs) all.0 here)

  pub flat_map-moved : {Y : Type 0} (slot : Y → List ℕ) (f : Y → List X) (ys : List Y) → AllByRecursion (λ z. AllByRecursion Q (f z)) ys →
      in_order rank (flat_map f (in_order slot ys)) ≡ in_order rank (flat_map f ys)
  flat_map-moved slot f [] all = refl
  flat_map-moved slot f (y ∷ ys) all =
      flat_map-put slot f y (in_order slot ys) all.0 (each-in_order (λ z. AllByRecursion Q (f z)) slot ys all.1)
      ∙ in_order-front rank (f y) (flat_map f (in_order slot ys)) (flat_map f ys) (flat_map-moved slot f ys all.1)

  pub all-apart : (xs : List X) → AllByRecursion Q xs → AreApart rank xs
  all-apart xs all = each-map Q (λ one. AllByRecursion (λ other. rank one ≡ rank other → one ≡ other) xs)
      (λ one p. each-map Q (λ other. rank one ≡ rank other → one ≡ other) (λ other q. apart one other p q) xs all) xs all

-- ---- items that are told apart

module _ {X : Type 0} (rank : X → List ℕ) (xs : List X) (apart : AreApart rank xs) where
  pub apart-items : (x y : X) → IsItem xs x → IsItem xs y → rank x ≡ rank y → x ≡ y
  apart-items x y p q = each-item (λ other. rank x ≡ rank other → x ≡ other) xs y
      (each-item (λ one. AllByRecursion (λ other. rank one ≡ rank other → one ≡ other) xs) xs x apart p) q

  -- the same items in another order have the same order of rank
  pub in_order-permutation : (ys : List X) → IsPermutation xs ys → in_order rank ys ≡ in_order rank xs
  in_order-permutation ys moved = in_order-moved rank (IsItem xs) apart-items xs ys (each-in xs) moved

  -- a sort puts them in order of rank
  pub sorted-in_order : (ys : List X) → IsPermutation xs ys → IsSortedBy (is_before rank) ys → ys ≡ in_order rank xs
  sorted-in_order ys moved sorted = sym (in_order-Ordered rank ys (sorted-Ordered rank ys sorted)) ∙ in_order-permutation ys moved

-- two parts might as well stand the other way round
pub in_order-append : {X : Type 0} (rank : X → List ℕ) (xs ys : List X) → AreApart rank (xs ++ ys) → in_order rank (xs ++ ys) ≡ in_order rank (ys ++ xs)
in_order-append rank xs ys apart =
    sym (in_order-permutation rank (xs ++ ys) apart (ys ++ xs) (IsPermutation-append_comm xs ys))
