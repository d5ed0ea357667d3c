-- Lists that come item by item from others: their orders, and the least of them.
use Rattle.std.proofs.Common.{◌≡◌, ℕ, ◌+◌, nat_lt, List, [], ◌∷◌, length, map, Bool, true, cond, Option, Some, None, refl, ap, sym, ◌∙◌, arith}
use Rattle.std.specs.List.{filter, AllByRecursion}
use Rattle.std.specs.Option.{option_map}
use Rattle.std.proofs.lemmas.Bool.{cond_both}
use Rattle.std.proofs.lemmas.List.{length-map}
use Rattle.boss_model.specs.Order.{comes_before, put, in_order, lesser, least}
use Rattle.law_time.proofs.Filters.{filter-same, filter-map}
use Rattle.law_time.proofs.Orders.{each-passed, each-in_order, filter-in_order}

-- ---- items whose ranks stay in order

module _ {X Y : Type 0} (rank : X → List ℕ) (rank-after : Y → List ℕ) (f : X → Y) (Q : X → Type 0)
    (alike : (x y : X) → Q x → Q y → comes_before (rank-after (f x)) (rank-after (f y)) ≡ comes_before (rank x) (rank y)) where
  put-alike : (x : X) (ys : List X) → Q x → AllByRecursion Q ys → put rank-after (f x) (map f ys) ≡ map f (put rank x ys)
  put-alike x [] here all = refl
  put-alike x (y ∷ ys) here all =
      let same : comes_before (rank-after (f x)) (rank-after (f y)) ≡ comes_before (rank x) (rank y) = alike x y here all.0 in
      let rest : put rank-after (f x) (map f ys) ≡ map f (put rank x ys) = put-alike x ys here all.1 in
      cond_both (comes_before (rank x) (rank y)) (x ∷ y ∷ ys) (y ∷ put rank x ys) (λ zs. put rank-after (f x) (map f (y ∷ ys)) ≡ map f zs)
      (λ first. let is : comes_before (rank-after (f x)) (rank-after (f y)) ≡ true = same ∙ first in rw is refl)
      (λ behind. rw (same ∙ behind) (ap (λ zs. f y ∷ zs) rest))

  pub in_order-alike : (xs : List X) → AllByRecursion Q xs → in_order rank-after (map f xs) ≡ map f (in_order rank xs)
  in_order-alike [] all = refl
  in_order-alike (x ∷ xs) all = ap (put rank-after (f x)) (in_order-alike xs all.1) ∙ put-alike x (in_order rank xs) all.0 (each-in_order Q rank xs all.1)

-- those that pass a test, of items that move and are put in order again, if the test says the same of each before and after
pub filter-moved : {X : Type 0} (rank : X → List ℕ) (f : X → X) (test after : X → Bool) →
    ((x y : X) → test x ≡ true → test y ≡ true → comes_before (rank (f x)) (rank (f y)) ≡ comes_before (rank x) (rank y)) →
    (xs : List X) → AllByRecursion (λ x. after (f x) ≡ test x) xs → filter after (in_order rank (map f xs)) ≡ map f (filter test (in_order rank xs))
filter-moved rank f test after alike xs same =
    filter-in_order rank after (map f xs)
    ∙ ap (in_order rank) (filter-map after f xs ∙ ap (map f) (filter-same (λ x. after (f x)) test xs same))
    ∙ in_order-alike rank rank f (λ x. test x ≡ true) alike (filter test xs) (each-passed (λ x. test x ≡ true) test (λ x passed. passed) xs)
    ∙ ap (map f) (sym (filter-in_order rank test xs))

-- ---- the least of some

module _ {X Y : Type 0} (key : X → ℕ) (key-after : Y → ℕ) (f : X → Y) (same : (x : X) → key-after (f x) ≡ key x) where
  lesser-mapped : (x : X) (rest : Option X) → lesser key-after (f x) (option_map f rest) ≡ f (lesser key x rest)
  lesser-mapped x None = refl
  lesser-mapped x (Some y) = (λ i. cond (nat_lt (same y i) (same x i)) (f y) (f x))
      ∙ cond_both (nat_lt (key y) (key x)) y x (λ z. cond (nat_lt (key y) (key x)) (f y) (f x) ≡ f z) (λ less. rw less refl) (λ not_less. rw not_less refl)

  pub least-mapped : (xs : List X) → least key-after (map f xs) ≡ option_map f (least key xs)
  least-mapped [] = refl
  least-mapped (x ∷ xs) = ap (λ rest. Some (lesser key-after (f x) rest)) (least-mapped xs) ∙ ap Some (lesser-mapped x (least key xs))

-- ---- how many

length-put : {X : Type 0} (rank : X → List ℕ) (x : X) (ys : List X) → length (put rank x ys) ≡ length ys + 1
length-put rank x [] = refl
length-put rank x (y ∷ ys) = cond_both (comes_before (rank x) (rank y)) (x ∷ y ∷ ys) (y ∷ put rank x ys) (λ zs. length zs ≡ length (y ∷ ys) + 1)
    (λ _. omega arith) (λ _. omega (arith, length-put rank x ys))

length-in_order : {X : Type 0} (rank : X → List ℕ) (xs : List X) → length (in_order rank xs) ≡ length xs
length-in_order rank [] = refl
length-in_order rank (x ∷ xs) = omega (arith, length-put rank x (in_order rank xs), length-in_order rank xs)

-- of items that move and are put in order as many pass a test as before, if it says the same of each
pub as-many-pass : {X : Type 0} (rank : X → List ℕ) (f : X → X) (test : X → Bool) → ((x : X) → test (f x) ≡ test x) → (xs : List X) →
    length (filter test (in_order rank (map f xs))) ≡ length (filter test xs)
as-many-pass rank f test same xs =
    ap length (filter-in_order rank test (map f xs))
    ∙ length-in_order rank (filter test (map f xs))
    ∙ ap length (filter-map test f xs)
    ∙ length-map (filter (λ x. test (f x)) xs) f
    ∙ (λ i. length (filter (λ x. same x i) xs))
