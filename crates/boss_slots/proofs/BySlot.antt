-- Lists in order of slots, told by what stands in each slot.
use Rattle.std.proofs.Common.{◌≡◌, ◌⊎◌, ℕ, ◌+◌, ◌*◌, ◌<◌, ◌≤◌, ◌==◌, List, [], ◌∷◌, ◌++◌, length, map, Bool, true, false, ◌&&◌, cond, Option, Some, None, refl, ap, sym, ◌∙◌, subst, inl, inr, arith}
use Rattle.std.specs.Option.{option_to_list, option_map, option_or}
use Rattle.std.specs.List.{filter, find, list_any, AllByRecursion}
use Rattle.std.specs.List.Sorted.{IsPermutation}
use Rattle.std.proofs.lemmas.Bool.{cond_both, cases_eq}
use Rattle.std.proofs.lemmas.Bool.Decides.{nat_tests}
use Rattle.std.proofs.lemmas.List.{length-append}
use Rattle.std.proofs.lemmas.List.Sorted.{IsPermutation-refl, IsPermutation-trans, IsPermutation-cons, IsPermutation-middle, length_permutation}
use Rattle.boss_model.specs.Order.{in_order}
use Rattle.boss_model.specs.Sound.{Rising}
use Rattle.law_time.proofs.Filters.{filter-none, filter-all}
use Rattle.law_time.proofs.Orders.{each-map, in_order-Rising}
use Rattle.law_due.proofs.Ordering.{in_order-moved}
use Rattle.boss_slots.specs.Slots.{gather, row, all, keep}
use Rattle.boss_slots.proofs.Gathers.{gather-same, gather-none, gather-one, gather-both, gather-permuted, gather-swapped, filter-gather, map-gather, each-gather, each-ungather, length-gather, length-gather_one, Rising-gather, IsSwapped, swapped-within}

-- ---- one slot

pub each-one : {X : Type 0} (P : X → Type 0) (o : Option X) → ((x : X) → o ≡ Some x → P x) → AllByRecursion P (option_to_list o)
each-one P None go = tt
each-one P (Some x) go = (go x refl, tt)

of-one : {X : Type 0} (P : X → Type 0) (o : Option X) (x : X) → AllByRecursion P (option_to_list o) → o ≡ Some x → P x
of-one P None x every is = cc
of-one P (Some y) x every is = let same : y ≡ x = cc in subst P same every.0

few-one : {X : Type 0} (o : Option X) → length (option_to_list o) ≤ 1
few-one None = omega arith
few-one (Some x) = omega arith

filter-one : {X : Type 0} (test : X → Bool) (o : Option X) → filter test (option_to_list o) ≡ option_to_list (keep test o)
filter-one test None = refl
filter-one test (Some x) = cond_both (test x) (Some x) None (λ r. cond (test x) (x ∷ []) [] ≡ option_to_list r) (λ yes. rw yes refl) (λ none. rw none refl)

map-one : {X Y : Type 0} (f : X → Y) (o : Option X) → map f (option_to_list o) ≡ option_to_list (option_map f o)
map-one f None = refl
map-one f (Some x) = refl

head : {X : Type 0} → List X → Option X
head [] = None
head (x ∷ xs) = Some x

find-head : {X : Type 0} (test : X → Bool) (xs : List X) → find test xs ≡ head (filter test xs)
unfolding head
find-head test [] = refl
find-head test (x ∷ xs) = cond_both (test x) (x ∷ filter test xs) (filter test xs) (λ ys. cond (test x) (Some x) (find test xs) ≡ head ys)
    (λ yes. rw yes refl) (λ other. rw other (find-head test xs))

head-one : {X : Type 0} (o : Option X) → head (option_to_list o) ≡ o
unfolding head
head-one None = refl
head-one (Some x) = refl

pub keep-other : {X : Type 0} (test : X → Bool) (o : Option X) → ((x : X) → o ≡ Some x → test x ≡ false) → keep test o ≡ None
keep-other test None fails = refl
keep-other test (Some x) fails = rw (fails x refl) refl

pub keep-all : {X : Type 0} (test : X → Bool) (o : Option X) → ((x : X) → o ≡ Some x → test x ≡ true) → keep test o ≡ o
keep-all test None passes = refl
keep-all test (Some x) passes = rw (passes x refl) refl

-- ---- all slots

module _ {X : Type 0} where
  pub all-same : (f f' : ℕ → ℕ → Option X) (points : ℕ) → ((p q : ℕ) → p < points → 1 ≤ q → q ≤ 16 → f p q ≡ f' p q) → all f points ≡ all f' points
  all-same f f' points same = gather-same (row f) (row f') 0 points (λ p _ within.
      gather-same (λ q. option_to_list (f p q)) (λ q. option_to_list (f' p q)) 1 16 (λ q low high. ap option_to_list (same p q (omega arith) low (omega arith))))

  pub each-all : (P : X → Type 0) (f : ℕ → ℕ → Option X) (points : ℕ) → ((p q : ℕ) (x : X) → p < points → 1 ≤ q → q ≤ 16 → f p q ≡ Some x → P x) → AllByRecursion P (all f points)
  each-all P f points go = each-gather P (row f) 0 points (λ p _ within.
      each-gather P (λ q. option_to_list (f p q)) 1 16 (λ q low high. each-one P (f p q) (λ x is. go p q x (omega arith) low (omega arith) is)))

  pub each-unall : (P : X → Type 0) (f : ℕ → ℕ → Option X) (points : ℕ) → AllByRecursion P (all f points) → (p q : ℕ) (x : X) → p < points → 1 ≤ q → q ≤ 16 → f p q ≡ Some x → P x
  each-unall P f points every p q x within low high is =
      of-one P (f p q) x (each-ungather P (λ j. option_to_list (f p j)) 1 16 (each-ungather P (row f) 0 points every p (omega arith) (omega arith)) q low (omega arith)) is

  pub filter-all_slots : (test : X → Bool) (f : ℕ → ℕ → Option X) (points : ℕ) → filter test (all f points) ≡ all (λ p q. keep test (f p q)) points
  filter-all_slots test f points = filter-gather test (row f) 0 points ∙ gather-same (λ p. filter test (row f p)) (row (λ p q. keep test (f p q))) 0 points
      (λ p _ _. filter-gather test (λ q. option_to_list (f p q)) 1 16
      ∙ gather-same (λ q. filter test (option_to_list (f p q))) (λ q. option_to_list (keep test (f p q))) 1 16 (λ q _ _. filter-one test (f p q)))

  pub map-all : {Y : Type 0} (t : X → Y) (f : ℕ → ℕ → Option X) (points : ℕ) → map t (all f points) ≡ all (λ p q. option_map t (f p q)) points
  map-all t f points = map-gather t (row f) 0 points ∙ gather-same (λ p. map t (row f p)) (row (λ p q. option_map t (f p q))) 0 points
      (λ p _ _. map-gather t (λ q. option_to_list (f p q)) 1 16
      ∙ gather-same (λ q. map t (option_to_list (f p q))) (λ q. option_to_list (option_map t (f p q))) 1 16 (λ q _ _. map-one t (f p q)))

  pub few-all : (f : ℕ → ℕ → Option X) (points : ℕ) → length (all f points) ≤ 16 * points
  few-all f points = length-gather (row f) 0 0 points (λ p. length-gather_one (λ q. option_to_list (f p q)) 1 16 (λ q. few-one (f p q)))

  -- where nothing stands in any slot
  pub all-none : (f : ℕ → ℕ → Option X) (points : ℕ) → ((p q : ℕ) → f p q ≡ None) → all f points ≡ []
  all-none f points none = gather-none (row f) 0 points (λ p _ _. gather-none (λ q. option_to_list (f p q)) 1 16 (λ q _ _. ap option_to_list (none p q)))

  -- where one slot alone is another
  pub all-swapped : (f f' : ℕ → ℕ → Option X) (points p q : ℕ) → p < points → 1 ≤ q → q ≤ 16 → ((a b : ℕ) → (a ≡ p → b ≡ q → ⊥) → f' a b ≡ f a b)
      → IsSwapped (option_to_list (f p q)) (option_to_list (f' p q)) (all f points) (all f' points)
  all-swapped f f' points p q within low high others =
      swapped-within (option_to_list (f p q)) (option_to_list (f' p q)) (row f p) (row f' p) (all f points) (all f' points)
      (gather-swapped (λ j. option_to_list (f p j)) (λ j. option_to_list (f' p j)) 1 16 q low (omega arith) (λ j differs. ap option_to_list (others p j (λ _ same. differs same))))
      (gather-swapped (row f) (row f') 0 points p (omega arith) (omega arith) (λ a differs.
      gather-same (λ j. option_to_list (f' a j)) (λ j. option_to_list (f a j)) 1 16 (λ j _ _. ap option_to_list (others a j (λ same _. differs same)))))

  -- this item, put into a slot
  abbrev pub with_one : (ℕ → ℕ → Option X) → ℕ → ℕ → X → ℕ → ℕ → Option X
  with_one f p q x a b = cond ((a == p) && (b == q)) (Some x) (f a b)

  -- where a slot is empty there is room for one more
  pub fewer-all : (f : ℕ → ℕ → Option X) (points p q : ℕ) (x : X) → p < points → 1 ≤ q → q ≤ 16 → f p q ≡ None → length (all f points) < 16 * points
  fewer-all f points p q x within low high empty =
      let there : with_one f p q x p q ≡ Some x = grind (arith, nat_tests) in
      let swapped = all-swapped f (with_one f p q x) points p q within low high (λ a b apart. grind (arith, nat_tests)) in
      let before : length (all f points) ≡ length swapped.front + length swapped.back = ap length (swapped.before ∙ ap (λ o. swapped.front ++ (option_to_list o ++ swapped.back)) empty) ∙ length-append swapped.front swapped.back in
      let after : length (all (with_one f p q x) points) ≡ length swapped.front + (1 + length swapped.back) =
      ap length (swapped.after ∙ ap (λ o. swapped.front ++ (option_to_list o ++ swapped.back)) there) ∙ length-append swapped.front (x ∷ swapped.back) ∙ ap (λ n. length swapped.front + n) (omega arith) in
      omega (arith, few-all (with_one f p q x) points)

  -- two that have no slot both
  pub all-both : (g f h : ℕ → ℕ → Option X) (points : ℕ) → ((p q : ℕ) → h p q ≡ option_or (g p q) (f p q)) → ((p q : ℕ) → (g p q ≡ None) ⊎ (f p q ≡ None)) → IsPermutation (all g points ++ all f points) (all h points)
  all-both g f h points either apart =
      IsPermutation-trans (all g points ++ all f points) (gather (λ p. row g p ++ row f p) 0 points) (all h points) (gather-both (row g) (row f) 0 points)
      (gather-permuted (λ p. row g p ++ row f p) (row h) 0 points (λ p.
      subst (λ zs. IsPermutation (row g p ++ row f p) zs)
      (gather-same (λ q. option_to_list (g p q) ++ option_to_list (f p q)) (λ q. option_to_list (h p q)) 1 16 (λ q _ _. joined (g p q) (f p q) (h p q) (either p q) (apart p q)))
      (gather-both (λ q. option_to_list (g p q)) (λ q. option_to_list (f p q)) 1 16)))
    where
      joined : (x y z : Option X) → z ≡ option_or x y → (x ≡ None) ⊎ (y ≡ None) → option_to_list x ++ option_to_list y ≡ option_to_list z
      joined None y z is apart' = ap option_to_list (sym is)
      joined (Some x) None z is apart' = ap option_to_list (sym is)
      joined (Some x) (Some y) z is apart' = elim apart' [ inl wrong ↦ cc | inr wrong ↦ cc ]

  pub few-both : (g f h : ℕ → ℕ → Option X) (points : ℕ) → ((p q : ℕ) → h p q ≡ option_or (g p q) (f p q)) → ((p q : ℕ) → (g p q ≡ None) ⊎ (f p q ≡ None)) → length (all g points) + length (all f points) ≤ 16 * points
  few-both g f h points either apart = omega (arith, few-all h points, length_permutation (all g points ++ all f points) (all h points) (all-both g f h points either apart), length-append (all g points) (all f points))

-- ---- where each item stands in its own slot

module _ {X : Type 0} (pt pr : X → ℕ) where
  abbrev pub IsPlaced : (ℕ → ℕ → Option X) → Type 0
  IsPlaced f = (p q : ℕ) (x : X) → f p q ≡ Some x → (pt x ≡ p) × (pr x ≡ q)

  abbrev pub slot : X → List ℕ
  slot x = pt x ∷ pr x ∷ []

  abbrev pub is_at : ℕ → ℕ → X → Bool
  is_at p q x = (pt x == p) && (pr x == q)

  row-keyed : (f : ℕ → ℕ → Option X) → IsPlaced f → (p : ℕ) → AllByRecursion (λ x. pt x ≡ p) (row f p)
  row-keyed f placed p = each-gather (λ x. pt x ≡ p) (λ q. option_to_list (f p q)) 1 16 (λ q _ _. each-one (λ x. pt x ≡ p) (f p q) (λ x is. (placed p q x is).0))

  pub row-Rising : (f : ℕ → ℕ → Option X) → IsPlaced f → (p : ℕ) → Rising slot (row f p)
  row-Rising f placed p = Rising-gather slot (λ q x. (pt x ≡ p) × (pr x ≡ q)) (λ q. option_to_list (f p q)) 1 16 (λ q. alone (f p q))
      (λ q. each-one (λ x. (pt x ≡ p) × (pr x ≡ q)) (f p q) (λ x is. placed p q x is))
      (λ i j x y less here there. let h1 = here.0 in let h2 = here.1 in let t1 = there.0 in let t2 = there.1 in grind (arith, nat_tests))
    where
      alone : (o : Option X) → Rising slot (option_to_list o)
      alone None = tt
      alone (Some x) = (tt, tt)

  pub all-Rising : (f : ℕ → ℕ → Option X) (points : ℕ) → IsPlaced f → Rising slot (all f points)
  all-Rising f points placed = Rising-gather slot (λ p x. pt x ≡ p) (row f) 0 points (row-Rising f placed) (row-keyed f placed)
      (λ i j x y less here there. grind (arith, nat_tests))

  -- the same items in any order, put in order
  pub all-in_order : (f : ℕ → ℕ → Option X) (points : ℕ) (ys : List X) → IsPlaced f → IsPermutation (all f points) ys → in_order slot ys ≡ all f points
  all-in_order f points ys placed moved =
      in_order-moved slot (λ x. f (pt x) (pr x) ≡ Some x)
      (λ x y here there same. let p : pt x ≡ pt y = cc in let q : pr x ≡ pr y = cc in cc)
      (all f points) ys
      (each-all (λ x. f (pt x) (pr x) ≡ Some x) f points (λ p q x _ _ _ is. let at = placed p q x is in let ap1 = at.0 in let ap2 = at.1 in cc)) moved
      ∙ in_order-Rising slot (all f points) (all-Rising f points placed)

  filter-other : (test : X → Bool) (f : ℕ → ℕ → Option X) (p q : ℕ) → ((x : X) → f p q ≡ Some x → test x ≡ false) → filter test (option_to_list (f p q)) ≡ []
  filter-other test f p q fails = filter-one test (f p q) ∙ ap option_to_list (keep-other test (f p q) fails)

  filter-row_other : (test : X → Bool) (f : ℕ → ℕ → Option X) (p : ℕ) → ((q : ℕ) (x : X) → f p q ≡ Some x → test x ≡ false) → filter test (row f p) ≡ []
  filter-row_other test f p fails = filter-none test (row f p) (each-gather (λ x. test x ≡ false) (λ q. option_to_list (f p q)) 1 16 (λ q _ _. each-one (λ x. test x ≡ false) (f p q) (fails q)))

  pub filter-slot : (f : ℕ → ℕ → Option X) (points p q : ℕ) → IsPlaced f → p < points → 1 ≤ q → q ≤ 16 → filter (is_at p q) (all f points) ≡ option_to_list (f p q)
  filter-slot f points p q placed within low high =
      filter-gather (is_at p q) (row f) 0 points
      ∙ gather-one (λ a. filter (is_at p q) (row f a)) 0 points p (omega arith) (omega arith)
      (λ a differs. filter-row_other (is_at p q) f a (λ b x is. let at = (placed a b x is).0 in grind (arith, nat_tests)))
      ∙ filter-gather (is_at p q) (λ b. option_to_list (f p b)) 1 16
      ∙ gather-one (λ b. filter (is_at p q) (option_to_list (f p b))) 1 16 q low (omega arith)
      (λ b differs. filter-other (is_at p q) f p b (λ x is. let at = (placed p b x is).1 in grind (arith, nat_tests)))
      ∙ filter-one (is_at p q) (f p q) ∙ ap option_to_list (keep-all (is_at p q) (f p q) (λ x is. let at = placed p q x is in let here = at.0 in let there = at.1 in grind (arith, nat_tests)))

  pub at-whole : (f : ℕ → ℕ → Option X) (points p q : ℕ) → IsPlaced f → p < points → 1 ≤ q → q ≤ 16 → find (is_at p q) (all f points) ≡ f p q
  at-whole f points p q placed within low high = find-head (is_at p q) (all f points) ∙ ap head (filter-slot f points p q placed within low high) ∙ head-one (f p q)

  pub filter-point : (f : ℕ → ℕ → Option X) (points p : ℕ) → IsPlaced f → p < points → filter (λ x. pt x == p) (all f points) ≡ row f p
  filter-point f points p placed within =
      filter-gather (λ x. pt x == p) (row f) 0 points
      ∙ gather-one (λ a. filter (λ x. pt x == p) (row f a)) 0 points p (omega arith) (omega arith)
      (λ a differs. filter-row_other (λ x. pt x == p) f a (λ b x is. let at = (placed a b x is).0 in grind (arith, nat_tests)))
      ∙ filter-all (λ x. pt x == p) (row f p) (each-map (λ x. pt x ≡ p) (λ x. (pt x == p) ≡ true) (λ x at. grind (arith, nat_tests)) (row f p) (row-keyed f placed p))

  -- points that have the same in their slots
  pub filter-point_same : (f f' : ℕ → ℕ → Option X) (points p : ℕ) → IsPlaced f → IsPlaced f' → ((q : ℕ) → f' p q ≡ f p q) → filter (λ x. pt x == p) (all f' points) ≡ filter (λ x. pt x == p) (all f points)
  filter-point_same f f' points p placed placed' same =
      filter-all_slots (λ x. pt x == p) f' points
      ∙ all-same (λ a b. keep (λ x. pt x == p) (f' a b)) (λ a b. keep (λ x. pt x == p) (f a b)) points
      (λ a b _ _ _. elim (cases_eq a p) [
        | inl is ↦ ap (keep (λ x. pt x == p)) (rw is (same b))
        | inr differs ↦ keep-other (λ x. pt x == p) (f' a b) (λ x is. let at = (placed' a b x is).0 in grind (arith, nat_tests))
            ∙ sym (keep-other (λ x. pt x == p) (f a b) (λ x is. let at = (placed a b x is).0 in grind (arith, nat_tests)))
      ])
      ∙ sym (filter-all_slots (λ x. pt x == p) f points)

  -- ---- new items, each of another slot

  abbrev pub Apart : List X → Type 0
  Apart [] = Unit {0}
  Apart (x ∷ xs) = (list_any (is_at (pt x) (pr x)) xs ≡ false) × Apart xs

  abbrev pub IsWithin : ℕ → X → Type 0
  IsWithin points x = (pt x < points) × (1 ≤ pr x) × (pr x ≤ 16)

  any-find : (test : X → Bool) (xs : List X) → list_any test xs ≡ false → find test xs ≡ None
  any-find test [] none = refl
  any-find test (x ∷ xs) none = grind (arith, any-find test xs)

  pub found-at : (p q : ℕ) (xs : List X) (x : X) → find (is_at p q) xs ≡ Some x → (pt x ≡ p) × (pr x ≡ q)
  found-at p q [] x is = cc
  found-at p q (y ∷ ys) x is = cond_both (is_at p q y) (Some y) (find (is_at p q) ys) (λ o. o ≡ Some x → (pt x ≡ p) × (pr x ≡ q))
      (λ here same. let it : y ≡ x = cc in subst (λ z. (pt z ≡ p) × (pr z ≡ q)) it ((grind (arith, nat_tests)), (grind (arith, nat_tests)))) (λ _ there. found-at p q ys x there) is

  pub found-new : (points : ℕ) (new : List X) → Apart new → AllByRecursion (IsWithin points) new → IsPermutation (all (λ p q. find (is_at p q) new) points) new
  found-new points [] apart within = subst (λ zs. IsPermutation zs []) (sym (all-none (λ p q. None) points (λ p q. refl))) (IsPermutation-refl [])
  found-new points (x ∷ xs) apart within =
      let here : find (is_at (pt x) (pr x)) (x ∷ xs) ≡ Some x = grind (arith, nat_tests) in
      let before : find (is_at (pt x) (pr x)) xs ≡ None = any-find (is_at (pt x) (pr x)) xs apart.0 in
      let swapped = all-swapped (λ p q. find (is_at p q) xs) (λ p q. find (is_at p q) (x ∷ xs)) points (pt x) (pr x) within.0.0 within.0.1 within.0.2
      (λ a b differs. grind (arith, nat_tests)) in
      let old : all (λ p q. find (is_at p q) xs) points ≡ swapped.front ++ swapped.back = swapped.before ∙ ap (λ o. swapped.front ++ (option_to_list o ++ swapped.back)) before in
      let now : all (λ p q. find (is_at p q) (x ∷ xs)) points ≡ swapped.front ++ (x ∷ swapped.back) = swapped.after ∙ ap (λ o. swapped.front ++ (option_to_list o ++ swapped.back)) here in
      subst (λ zs. IsPermutation zs (x ∷ xs)) (sym now)
      (IsPermutation-trans (swapped.front ++ (x ∷ swapped.back)) (x ∷ (swapped.front ++ swapped.back)) (x ∷ xs) (IsPermutation-middle swapped.front x swapped.back)
      (IsPermutation-cons x (swapped.front ++ swapped.back) xs (subst (λ zs. IsPermutation zs xs) old (found-new points xs apart.1 within.1))))
