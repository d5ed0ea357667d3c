-- What tests make of lists, of lists of lists, and of lists in order.
use Rattle.std.proofs.Common.{◌≡◌, ℕ, ◌<◌, ◌≤◌, nat_lt, List, [], ◌∷◌, ◌++◌, length, Bool, true, false, ◌&&◌, ◌||◌, map, Some, None, refl, ap, sym, ◌∙◌, subst, arith}
use Rattle.std.specs.List.{filter, find, flat_map, list_any, position, position_or_len, AllByRecursion}
use Rattle.std.proofs.lemmas.Bool.{cond_both}
use Rattle.std.proofs.lemmas.Bool.Decides.{nat_tests}
use Rattle.boss_model.specs.Order.{comes_before, put, in_order}
use Rattle.boss_model.specs.Sound.{Rising}
use Rattle.law_time.proofs.Orders.{before-total, before-trans, each-map, each-filter, each-append, put-first, Ordered}

-- ---- tests

pub filter-filter : {X : Type 0} (p q r : X → Bool) → ((x : X) → r x ≡ (q x && p x)) → (xs : List X) → filter p (filter q xs) ≡ filter r xs
filter-filter p q r both [] = refl
filter-filter p q r both (x ∷ xs) = grind (arith, both x, filter-filter p q r both xs)

pub filter-same : {X : Type 0} (p q : X → Bool) (xs : List X) → AllByRecursion (λ x. p x ≡ q x) xs → filter p xs ≡ filter q xs
filter-same p q [] same = refl
filter-same p q (x ∷ xs) same = grind (arith, same.0, filter-same p q xs same.1)

pub filter-alike : {X : Type 0} (p q : X → Bool) → ((x : X) → p x ≡ q x) → (xs : List X) → filter p xs ≡ filter q xs
filter-alike p q same [] = refl
filter-alike p q same (x ∷ xs) = grind (arith, same x, filter-alike p q same xs)

pub filter-append : {X : Type 0} (p : X → Bool) (xs ys : List X) → filter p (xs ++ ys) ≡ filter p xs ++ filter p ys
filter-append p [] ys = refl
filter-append p (x ∷ xs) ys = grind (arith, filter-append p xs ys)

pub filter-none : {X : Type 0} (p : X → Bool) (xs : List X) → AllByRecursion (λ x. p x ≡ false) xs → filter p xs ≡ []
filter-none p [] none = refl
filter-none p (x ∷ xs) none = grind (arith, none.0, filter-none p xs none.1)

pub filter-all : {X : Type 0} (p : X → Bool) (xs : List X) → AllByRecursion (λ x. p x ≡ true) xs → filter p xs ≡ xs
filter-all p [] all = refl
filter-all p (x ∷ xs) all = grind (arith, all.0, filter-all p xs all.1)

pub filter-map : {X Y : Type 0} (q : Y → Bool) (f : X → Y) (xs : List X) → filter q (map f xs) ≡ map f (filter (λ x. q (f x)) xs)
filter-map q f [] = refl
filter-map q f (x ∷ xs) = grind (arith, filter-map q f xs)

-- what does not pass has P anyway
pub each-unfilter : {X : Type 0} (P : X → Type 0) (test : X → Bool) → ((x : X) → test x ≡ false → P x) → (xs : List X) →
    AllByRecursion P (filter test xs) → AllByRecursion P xs
each-unfilter P test other [] all = tt
each-unfilter P test other (x ∷ xs) all = cond_both (test x) (x ∷ filter test xs) (filter test xs) (λ zs. AllByRecursion P zs → P x × AllByRecursion P xs)
    (λ _ every. (every.0, each-unfilter P test other xs every.1)) (λ failed every. (other x failed, each-unfilter P test other xs every)) all

pub each-mapped : {X Y : Type 0} (Q : Y → Type 0) (f : X → Y) (xs : List X) → AllByRecursion (λ x. Q (f x)) xs → AllByRecursion Q (map f xs)
each-mapped Q f [] all = tt
each-mapped Q f (x ∷ xs) all = (all.0, each-mapped Q f xs all.1)

pub each-unmapped : {X Y : Type 0} (Q : Y → Type 0) (f : X → Y) (xs : List X) → AllByRecursion Q (map f xs) → AllByRecursion (λ x. Q (f x)) xs
each-unmapped Q f [] all = tt
each-unmapped Q f (x ∷ xs) all = (all.0, each-unmapped Q f xs all.1)

pub each-flat_map : {X Y : Type 0} (P : Y → Type 0) (f : X → List Y) (xs : List X) → AllByRecursion (λ x. AllByRecursion P (f x)) xs → AllByRecursion P (flat_map f xs)
each-flat_map P f [] all = tt
each-flat_map P f (x ∷ xs) all = each-append P (f x) (flat_map f xs) all.0 (each-flat_map P f xs all.1)

pub each-always : {X : Type 0} (P : X → Type 0) → ((x : X) → P x) → (xs : List X) → AllByRecursion P xs
each-always P go [] = tt
each-always P go (x ∷ xs) = (go x, each-always P go xs)

-- ---- what a test finds

pub few-filter : {X : Type 0} (test : X → Bool) (xs : List X) → length (filter test xs) ≤ length xs
few-filter test [] = omega arith
few-filter test (x ∷ xs) = cond_both (test x) (x ∷ filter test xs) (filter test xs) (λ ys. length ys ≤ length (x ∷ xs))
    (λ _. omega (arith, few-filter test xs)) (λ _. omega (arith, few-filter test xs))

pub any-map : {X Y : Type 0} (test : Y → Bool) (f : X → Y) (xs : List X) → list_any test (map f xs) ≡ list_any (λ x. test (f x)) xs
any-map test f [] = refl
any-map test f (x ∷ xs) = ap (λ b. test (f x) || b) (any-map test f xs)

-- what holds of all items holds of the one that is found
pub each-found : {X : Type 0} (P : X → Type 0) (test : X → Bool) (xs : List X) (x : X) → AllByRecursion P xs → find test xs ≡ Some x → P x
each-found P test [] x all found = cc
each-found P test (y ∷ ys) x all found = cond_both (test y) (Some y) (find test ys) (λ f. f ≡ Some x → P x)
    (λ _ e. let same : y ≡ x = cc in subst P same all.0) (λ _ e. each-found P test ys x all.1 e) found

-- where no place is found, no item passes
none-before : {X : Type 0} (test : X → Bool) (xs : List X) → length xs ≤ position_or_len test xs → AllByRecursion (λ x. test x ≡ false) xs
none-before test [] far = tt
none-before test (x ∷ xs) far = (grind arith, none-before test xs (grind arith))

pub none-found : {X : Type 0} (test : X → Bool) (xs : List X) → position test xs ≡ None → AllByRecursion (λ x. test x ≡ false) xs
none-found test xs none = none-before test xs (grind (arith, nat_tests))

-- a place that is found is one of the list
pub position-within : {X : Type 0} (test : X → Bool) (xs : List X) (place : ℕ) → position test xs ≡ Some place → place < length xs
position-within test xs place found = cond_both (nat_lt (position_or_len test xs) (length xs)) (Some (position_or_len test xs)) None
    (λ f. f ≡ Some place → place < length xs) (λ within e. let same : position_or_len test xs ≡ place = cc in grind (arith, nat_tests)) (λ _ e. cc) found

-- ---- a list in order that is taken apart and put together again

module _ {X : Type 0} (rank : X → List ℕ) where
  -- neither has the rank of the other
  abbrev pub Apart : X → X → Type 0
  Apart x y = (comes_before (rank x) (rank y) && comes_before (rank y) (rank x)) ≡ false

  pub put-put : (x y : X) (zs : List X) → Apart x y → put rank x (put rank y zs) ≡ put rank y (put rank x zs)
  put-put x y [] apart = grind (arith, apart, before-total (rank x) (rank y), before-total (rank y) (rank x))
  put-put x y (z ∷ zs) apart = grind (
    arith,
    apart,
    before-total (rank x) (rank y),
    before-total (rank y) (rank x),
    before-trans (rank x) (rank y) (rank z),
    before-trans (rank y) (rank x) (rank z),
    put-put x y zs apart,
  )

  pub in_order-middle : (x : X) (xs ys : List X) → AllByRecursion (Apart x) xs → in_order rank (xs ++ x ∷ ys) ≡ put rank x (in_order rank (xs ++ ys))
  in_order-middle x [] ys apart = refl
  in_order-middle x (z ∷ zs) ys apart = ap (put rank z) (in_order-middle x zs ys apart.1) ∙ sym (put-put x z (in_order rank (zs ++ ys)) apart.0)

  module _ (p q r : X → Bool) (whole : (x : X) → r x ≡ (p x || q x)) (one : (x : X) → (p x && q x) ≡ false) where
    pub rejoin : (xs : List X) → Rising rank xs → in_order rank (filter p xs ++ filter q xs) ≡ filter r xs
    rejoin [] rising = refl
    rejoin (x ∷ xs) rising =
        let first : AllByRecursion (λ y. comes_before (rank x) (rank y) ≡ true) xs =
        each-map (λ y. comes_before (rank y) (rank x) ≡ false) (λ y. comes_before (rank x) (rank y) ≡ true) (λ y later. before-total (rank y) (rank x) later) xs rising.0 in
        let here : put rank x (filter r xs) ≡ x ∷ filter r xs = put-first rank x (filter r xs) (each-filter (λ y. comes_before (rank x) (rank y) ≡ true) r xs first) in
        let apart : AllByRecursion (Apart x) (filter p xs) =
        each-filter (Apart x) p xs (each-map (λ y. comes_before (rank y) (rank x) ≡ false) (Apart x) (λ y later. grind (arith, nat_tests)) xs rising.0) in
        let again : in_order rank (filter p xs ++ filter q xs) ≡ filter r xs = rejoin xs rising.1 in
        let middle : in_order rank (filter p xs ++ x ∷ filter q xs) ≡ put rank x (in_order rank (filter p xs ++ filter q xs)) = in_order-middle x (filter p xs) (filter q xs) apart in
        grind (arith, whole x, one x, here, again, middle)

    -- where p fails it fails from there on
    pub split : ((x y : X) → comes_before (rank x) (rank y) ≡ true → p x ≡ false → p y ≡ false) → (xs : List X) → Ordered rank xs →
        filter r xs ≡ filter p xs ++ filter q xs
    split falls [] o = refl
    split falls (x ∷ xs) o =
        let again : filter r xs ≡ filter p xs ++ filter q xs = split falls xs o.1 in
        let none : p x ≡ false → filter p xs ≡ [] = λ failed. filter-none p xs
        (each-map (λ y. comes_before (rank x) (rank y) ≡ true) (λ y. p y ≡ false) (λ y next. falls x y next failed) xs o.0) in
        grind (arith, whole x, one x, again, none)
