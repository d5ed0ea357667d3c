-- Lists in order of rank: what a test, an append and a second sorting make of them.
use Rattle.std.proofs.Common.{◌≡◌, ℕ, ◌≤◌, nat_lt, List, [], ◌∷◌, ◌++◌, Bool, true, false, cond, Option, Some, None, refl, ap, sym, ◌∙◌, subst, arith}
use Rattle.std.specs.List.{filter, AllByRecursion}
use Rattle.std.proofs.lemmas.Bool.{cond_both}
use Rattle.std.proofs.lemmas.Bool.Decides.{nat_tests}
use Rattle.boss_model.specs.Order.{comes_before, put, in_order, lesser, least}
use Rattle.boss_model.specs.Sound.{Rising}

-- ---- ranks

-- of two ranks one comes before the other, or they are alike
pub before-total : (xs ys : List ℕ) → comes_before xs ys ≡ false → comes_before ys xs ≡ true
before-total [] ys unlike = cc
before-total (x ∷ xs) [] unlike = refl
before-total (x ∷ xs) (y ∷ ys) unlike = grind (arith, nat_tests, before-total xs ys)

pub before-self : (xs : List ℕ) → comes_before xs xs ≡ true
before-self [] = refl
before-self (x ∷ xs) = grind (arith, nat_tests, before-self xs)

pub before-trans : (xs ys zs : List ℕ) → comes_before xs ys ≡ true → comes_before ys zs ≡ true → comes_before xs zs ≡ true
before-trans [] ys zs p q = refl
before-trans (x ∷ xs) [] zs p q = cc
before-trans (x ∷ xs) (y ∷ ys) [] p q = cc
before-trans (x ∷ xs) (y ∷ ys) (z ∷ zs) p q = grind (arith, nat_tests, before-trans xs ys zs)

pub before-head : (x y : ℕ) (xs ys : List ℕ) → comes_before (x ∷ xs) (y ∷ ys) ≡ true → x ≤ y
before-head x y xs ys first = grind (arith, nat_tests)

pub before-both : (xs ys : List ℕ) → comes_before xs ys ≡ true → comes_before ys xs ≡ true → xs ≡ ys
before-both [] [] p q = refl
before-both [] (y ∷ ys) p q = cc
before-both (x ∷ xs) [] p q = cc
before-both (x ∷ xs) (y ∷ ys) p q =
    let same : x ≡ y = grind (arith, nat_tests) in
    let rest : xs ≡ ys = before-both xs ys (grind (arith, nat_tests)) (grind (arith, nat_tests)) in cc

-- ---- what holds of all items

pub each-map : {X : Type 0} (P Q : X → Type 0) → ((x : X) → P x → Q x) → (xs : List X) → AllByRecursion P xs → AllByRecursion Q xs
each-map P Q go [] all = tt
each-map P Q go (x ∷ xs) all = (go x all.0, each-map P Q go xs all.1)

pub each-filter : {X : Type 0} (P : X → Type 0) (test : X → Bool) (xs : List X) → AllByRecursion P xs → AllByRecursion P (filter test xs)
each-filter P test [] all = tt
each-filter P test (x ∷ xs) all = cond_both (test x) (x ∷ filter test xs) (filter test xs) (AllByRecursion P) (λ _. (all.0, each-filter P test xs all.1)) (λ _. each-filter P test xs all.1)

pub each-append : {X : Type 0} (P : X → Type 0) (xs ys : List X) → AllByRecursion P xs → AllByRecursion P ys → AllByRecursion P (xs ++ ys)
each-append P [] ys p q = q
each-append P (x ∷ xs) ys p q = (p.0, each-append P xs ys p.1 q)

pub each-passed : {X : Type 0} (P : X → Type 0) (test : X → Bool) → ((x : X) → test x ≡ true → P x) → (xs : List X) → AllByRecursion P (filter test xs)
each-passed P test go [] = tt
each-passed P test go (x ∷ xs) = cond_both (test x) (x ∷ filter test xs) (filter test xs) (AllByRecursion P)
    (λ passed. (go x passed, each-passed P test go xs)) (λ _. each-passed P test go xs)

pub each-both : {X : Type 0} (P Q : X → Type 0) (xs : List X) → AllByRecursion P xs → AllByRecursion Q xs → AllByRecursion (λ x. P x × Q x) xs
each-both P Q [] p q = tt
each-both P Q (x ∷ xs) p q = ((p.0, q.0), each-both P Q xs p.1 q.1)

pub each-put : {X : Type 0} (P : X → Type 0) (rank : X → List ℕ) (x : X) (ys : List X) → P x → AllByRecursion P ys → AllByRecursion P (put rank x ys)
each-put P rank x [] here all = (here, tt)
each-put P rank x (y ∷ ys) here all = cond_both (comes_before (rank x) (rank y)) (x ∷ y ∷ ys) (y ∷ put rank x ys) (AllByRecursion P)
    (λ _. (here, all)) (λ _. (all.0, each-put P rank x ys here all.1))

pub each-in_order : {X : Type 0} (P : X → Type 0) (rank : X → List ℕ) (xs : List X) → AllByRecursion P xs → AllByRecursion P (in_order rank xs)
each-in_order P rank [] all = tt
each-in_order P rank (x ∷ xs) all = each-put P rank x (in_order rank xs) all.0 (each-in_order P rank xs all.1)

pub each-unput : {X : Type 0} (P : X → Type 0) (rank : X → List ℕ) (x : X) (ys : List X) → AllByRecursion P (put rank x ys) → P x × AllByRecursion P ys
each-unput P rank x [] all = (all.0, tt)
each-unput P rank x (y ∷ ys) all = cond_both (comes_before (rank x) (rank y)) (x ∷ y ∷ ys) (y ∷ put rank x ys) (λ zs. AllByRecursion P zs → P x × AllByRecursion P (y ∷ ys))
    (λ _ every. (every.0, every.1)) (λ _ every. let rest = each-unput P rank x ys every.1 in (rest.0, (every.0, rest.1))) all

pub each-unordered : {X : Type 0} (P : X → Type 0) (rank : X → List ℕ) (xs : List X) → AllByRecursion P (in_order rank xs) → AllByRecursion P xs
each-unordered P rank [] all = tt
each-unordered P rank (x ∷ xs) all = let parts = each-unput P rank x (in_order rank xs) all in (parts.0, each-unordered P rank xs parts.1)

pub each-front : {X : Type 0} (P : X → Type 0) (xs ys : List X) → AllByRecursion P (xs ++ ys) → AllByRecursion P xs
each-front P [] ys all = tt
each-front P (x ∷ xs) ys all = (all.0, each-front P xs ys all.1)

pub each-back : {X : Type 0} (P : X → Type 0) (xs ys : List X) → AllByRecursion P (xs ++ ys) → AllByRecursion P ys
each-back P [] ys all = all
each-back P (x ∷ xs) ys all = each-back P xs ys all.1

-- ---- order

module _ {X : Type 0} (rank : X → List ℕ) where
  -- each item stands at or before all that follow it
  abbrev pub Ordered : List X → Type 0
  Ordered [] = Unit {0}
  Ordered (x ∷ xs) = AllByRecursion (λ y. comes_before (rank x) (rank y) ≡ true) xs × Ordered xs

  pub put-first : (x : X) (ys : List X) → AllByRecursion (λ y. comes_before (rank x) (rank y) ≡ true) ys → put rank x ys ≡ x ∷ ys
  put-first x [] first = refl
  put-first x (y ∷ ys) first = rw first.0 refl

  after-both : (x y : X) (ys : List X) → comes_before (rank x) (rank y) ≡ true → AllByRecursion (λ z. comes_before (rank y) (rank z) ≡ true) ys →
      AllByRecursion (λ z. comes_before (rank x) (rank z) ≡ true) ys
  after-both x y ys first all = each-map (λ z. comes_before (rank y) (rank z) ≡ true) (λ z. comes_before (rank x) (rank z) ≡ true)
      (λ z next. before-trans (rank x) (rank y) (rank z) first next) ys all

  Ordered-put : (x : X) (ys : List X) → Ordered ys → Ordered (put rank x ys)
  Ordered-put x [] o = (tt, tt)
  Ordered-put x (y ∷ ys) o = cond_both (comes_before (rank x) (rank y)) (x ∷ y ∷ ys) (y ∷ put rank x ys) Ordered
      (λ first. ((first, after-both x y ys first o.0), o))
      (λ behind. (each-put (λ z. comes_before (rank y) (rank z) ≡ true) rank x ys (before-total (rank x) (rank y) behind) o.0, Ordered-put x ys o.1))

  pub Ordered-in_order : (xs : List X) → Ordered (in_order rank xs)
  Ordered-in_order [] = tt
  Ordered-in_order (x ∷ xs) = Ordered-put x (in_order rank xs) (Ordered-in_order xs)

  pub in_order-Ordered : (xs : List X) → Ordered xs → in_order rank xs ≡ xs
  in_order-Ordered [] o = refl
  in_order-Ordered (x ∷ xs) o = ap (put rank x) (in_order-Ordered xs o.1) ∙ put-first x xs o.0

  pub Ordered-filter : (test : X → Bool) (xs : List X) → Ordered xs → Ordered (filter test xs)
  Ordered-filter test [] o = tt
  Ordered-filter test (x ∷ xs) o = cond_both (test x) (x ∷ filter test xs) (filter test xs) Ordered
      (λ _. (each-filter (λ y. comes_before (rank x) (rank y) ≡ true) test xs o.0, Ordered-filter test xs o.1)) (λ _. Ordered-filter test xs o.1)

  -- a test, before and after an item is put in
  filter-put : (test : X → Bool) (x : X) (ys : List X) → Ordered ys → filter test (put rank x ys) ≡ cond (test x) (put rank x (filter test ys)) (filter test ys)
  filter-put test x [] o = refl
  filter-put test x (y ∷ ys) o = cond_both (comes_before (rank x) (rank y)) (x ∷ y ∷ ys) (y ∷ put rank x ys)
      (λ zs. filter test zs ≡ cond (test x) (put rank x (filter test (y ∷ ys))) (filter test (y ∷ ys)))
      (λ first. ap (λ zs. cond (test x) zs (filter test (y ∷ ys))) (sym (put-first x (filter test (y ∷ ys))
      (each-filter (λ z. comes_before (rank x) (rank z) ≡ true) test (y ∷ ys) (first, after-both x y ys first o.0)))))
      (λ behind. grind (arith, filter-put test x ys o.1))

  pub filter-in_order : (test : X → Bool) (xs : List X) → filter test (in_order rank xs) ≡ in_order rank (filter test xs)
  filter-in_order test [] = refl
  filter-in_order test (x ∷ xs) = filter-put test x (in_order rank xs) (Ordered-in_order xs)
      ∙ ap (λ zs. cond (test x) (put rank x zs) zs) (filter-in_order test xs) ∙ grind arith

-- ---- strict order

module _ {X : Type 0} (rank : X → List ℕ) where
  pub Rising-filter : (test : X → Bool) (xs : List X) → Rising rank xs → Rising rank (filter test xs)
  Rising-filter test [] rising = tt
  Rising-filter test (x ∷ xs) rising = cond_both (test x) (x ∷ filter test xs) (filter test xs) (Rising rank)
      (λ _. (each-filter (λ y. comes_before (rank y) (rank x) ≡ false) test xs rising.0, Rising-filter test xs rising.1))
      (λ _. Rising-filter test xs rising.1)

  pub Rising-Ordered : (xs : List X) → Rising rank xs → Ordered rank xs
  Rising-Ordered [] rising = tt
  Rising-Ordered (x ∷ xs) rising = (
    each-map (λ y. comes_before (rank y) (rank x) ≡ false) (λ y. comes_before (rank x) (rank y) ≡ true)
        (λ y later. before-total (rank y) (rank x) later) xs rising.0,
    Rising-Ordered xs rising.1,
  )

  pub in_order-Rising : (xs : List X) → Rising rank xs → in_order rank xs ≡ xs
  in_order-Rising xs rising = in_order-Ordered rank xs (Rising-Ordered xs rising)

-- ---- the least of some

pub chosen : {X : Type 0} (P : X → Type 0) (key : X → ℕ) (x : X) (rest : Option X) → P x → ((y : X) → rest ≡ Some y → P y) → P (lesser key x rest)
chosen P key x None here there = here
chosen P key x (Some y) here there = cond_both (nat_lt (key y) (key x)) y x P (λ _. there y refl) (λ _. here)

-- the least of some is one of them
pub least-of : {X : Type 0} (P : X → Type 0) (key : X → ℕ) (xs : List X) (x : X) → AllByRecursion P xs → least key xs ≡ Some x → P x
least-of P key [] x all found = cc
least-of P key (y ∷ ys) x all found =
    let same : lesser key y (least key ys) ≡ x = cc in subst P same (chosen P key y (least key ys) all.0 (λ z is. least-of P key ys z all.1 is))
