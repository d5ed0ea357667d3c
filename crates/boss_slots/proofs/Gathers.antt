-- Lists that are gathered number by number: what tests, functions and single changes make of them.
use Rattle.std.proofs.Common.{◌≡◌, ◌≢◌, ℕ, zero, suc, ◌+◌, ◌*◌, ◌<◌, ◌≤◌, List, [], ◌∷◌, ◌++◌, length, map, Bool, false, refl, ap, sym, ◌∙◌, subst, inl, inr, append_assoc, append-nil, arith}
use Rattle.std.specs.List.{filter, flat_map, AllByRecursion}
use Rattle.std.specs.List.Sorted.{IsPermutation}
use Rattle.std.proofs.lemmas.Bool.{cases_eq}
use Rattle.std.proofs.lemmas.List.{map-append, length-append}
use Rattle.std.proofs.lemmas.List.Sorted.{IsPermutation-refl, IsPermutation-trans, IsPermutation-append, IsPermutation-append_right, IsPermutation-append_left, IsPermutation-append_comm}
use Rattle.boss_model.specs.Order.{comes_before}
use Rattle.boss_model.specs.Sound.{Rising}
use Rattle.law_time.proofs.Filters.{filter-append}
use Rattle.law_time.proofs.Orders.{each-map, each-append, each-front, each-back}
use Rattle.boss_slots.specs.Slots.{gather}

pub flat_map-append : {X Y : Type 0} (t : X → List Y) (xs ys : List X) → flat_map t (xs ++ ys) ≡ flat_map t xs ++ flat_map t ys
flat_map-append t [] ys = refl
flat_map-append t (x ∷ xs) ys = ap (λ zs. t x ++ zs) (flat_map-append t xs ys) ∙ sym (append_assoc (t x) (flat_map t xs) (flat_map t ys))

module _ {Y : Type 0} where
  pub gather-same : (h h' : ℕ → List Y) (k n : ℕ) → ((j : ℕ) → k ≤ j → j < k + n → h j ≡ h' j) → gather h k n ≡ gather h' k n
  unfolding gather
  gather-same h h' k zero same = refl
  gather-same h h' k (suc n) same =
      let here : h k ≡ h' k = same k (omega arith) (omega arith) in
      let rest : gather h (k + 1) n ≡ gather h' (k + 1) n = gather-same h h' (k + 1) n (λ j low high. same j (omega arith) (omega arith)) in cc

  pub gather-none : (h : ℕ → List Y) (k n : ℕ) → ((j : ℕ) → k ≤ j → j < k + n → h j ≡ []) → gather h k n ≡ []
  unfolding gather
  gather-none h k zero none = refl
  gather-none h k (suc n) none =
      let here : h k ≡ [] = none k (omega arith) (omega arith) in
      rw here (gather-none h (k + 1) n (λ j low high. none j (omega arith) (omega arith)))

  -- where one number alone gives something
  pub gather-one : (h : ℕ → List Y) (k n p : ℕ) → k ≤ p → p < k + n → ((j : ℕ) → j ≢ p → h j ≡ []) → gather h k n ≡ h p
  unfolding gather
  gather-one h k zero p low high others = absurd (omega arith)
  gather-one h k (suc n) p low high others = elim (cases_eq p k) [
    | inl is ↦ rw (is, gather-none h (k + 1) n (λ j above _. others j (λ same. omega arith))) (append-nil (h k))
    | inr differs ↦ rw (others k (λ same. differs (sym same))) (gather-one h (k + 1) n p (omega arith) (omega arith) others)
  ]

  pub filter-gather : (test : Y → Bool) (h : ℕ → List Y) (k n : ℕ) → filter test (gather h k n) ≡ gather (λ j. filter test (h j)) k n
  unfolding gather
  filter-gather test h k zero = refl
  filter-gather test h k (suc n) = filter-append test (h k) (gather h (k + 1) n) ∙ ap (λ ys. filter test (h k) ++ ys) (filter-gather test h (k + 1) n)

  pub map-gather : {Z : Type 0} (f : Y → Z) (h : ℕ → List Y) (k n : ℕ) → map f (gather h k n) ≡ gather (λ j. map f (h j)) k n
  unfolding gather
  map-gather f h k zero = refl
  map-gather f h k (suc n) = map-append f (h k) (gather h (k + 1) n) ∙ ap (λ ys. map f (h k) ++ ys) (map-gather f h (k + 1) n)

  pub each-gather : (P : Y → Type 0) (h : ℕ → List Y) (k n : ℕ) → ((j : ℕ) → k ≤ j → j < k + n → AllByRecursion P (h j)) → AllByRecursion P (gather h k n)
  unfolding gather
  each-gather P h k zero every = tt
  each-gather P h k (suc n) every =
      each-append P (h k) (gather h (k + 1) n) (every k (omega arith) (omega arith)) (each-gather P h (k + 1) n (λ j low high. every j (omega arith) (omega arith)))

  pub each-ungather : (P : Y → Type 0) (h : ℕ → List Y) (k n : ℕ) → AllByRecursion P (gather h k n) → (j : ℕ) → k ≤ j → j < k + n → AllByRecursion P (h j)
  unfolding gather
  each-ungather P h k zero every j low high = absurd (omega arith)
  each-ungather P h k (suc n) every j low high = elim (cases_eq j k) [
    | inl is ↦ subst (λ i. AllByRecursion P (h i)) (sym is) (each-front P (h k) (gather h (k + 1) n) every)
    | inr differs ↦ each-ungather P h (k + 1) n (each-back P (h k) (gather h (k + 1) n) every) j (omega arith) (omega arith)
  ]

  pub length-gather : (h : ℕ → List Y) (c k n : ℕ) → ((j : ℕ) → length (h j) ≤ 16) → length (gather h k n) ≤ 16 * n
  unfolding gather
  length-gather h c k zero few = omega arith
  length-gather h c k (suc n) few = omega (arith, few k, length-gather h c (k + 1) n few, length-append (h k) (gather h (k + 1) n))

  pub length-gather_one : (h : ℕ → List Y) (k n : ℕ) → ((j : ℕ) → length (h j) ≤ 1) → length (gather h k n) ≤ n
  unfolding gather
  length-gather_one h k zero few = omega arith
  length-gather_one h k (suc n) few = omega (arith, few k, length-gather_one h (k + 1) n few, length-append (h k) (gather h (k + 1) n))

  -- ---- one part of a list is another's

  pub record IsSwapped (x y xs ys : List Y) : Type 0 where
    pub front : List Y
    pub back : List Y
    pub before : xs ≡ front ++ (x ++ back)
    pub after : ys ≡ front ++ (y ++ back)

  pub gather-swapped : (h h' : ℕ → List Y) (k n p : ℕ) → k ≤ p → p < k + n → ((j : ℕ) → j ≢ p → h' j ≡ h j) → IsSwapped (h p) (h' p) (gather h k n) (gather h' k n)
  unfolding gather
  gather-swapped h h' k zero p low high others = absurd (omega arith)
  gather-swapped h h' k (suc n) p low high others = elim (cases_eq p k) [
    | inl is ↦ record {
      front = [];
      back = gather h (k + 1) n;
      before = rw is refl;
      after = rw (is, gather-same h' h (k + 1) n (λ j above _. others j (λ same. omega arith))) refl;
    }
    | inr differs ↦
        let inner = gather-swapped h h' (k + 1) n p (omega arith) (omega arith) others in record {
          front = h k ++ inner.front;
          back = inner.back;
          before = ap (λ ys. h k ++ ys) inner.before ∙ sym (append_assoc (h k) inner.front (h p ++ inner.back));
          after = rw (others k (λ same. differs (sym same))) (ap (λ ys. h k ++ ys) inner.after ∙ sym (append_assoc (h k) inner.front (h' p ++ inner.back)));
        }
  ]

  around : (F f x b B : List Y) → F ++ ((f ++ (x ++ b)) ++ B) ≡ (F ++ f) ++ (x ++ (b ++ B))
  around F f x b B = simp append_assoc

  pub swapped-within : (x y xs ys us vs : List Y) → IsSwapped x y xs ys → IsSwapped xs ys us vs → IsSwapped x y us vs
  swapped-within x y xs ys us vs inner outer = record {
    front = outer.front ++ inner.front;
    back = inner.back ++ outer.back;
    before = outer.before ∙ ap (λ zs. outer.front ++ (zs ++ outer.back)) inner.before ∙ around outer.front inner.front x inner.back outer.back;
    after = outer.after ∙ ap (λ zs. outer.front ++ (zs ++ outer.back)) inner.after ∙ around outer.front inner.front y inner.back outer.back;
  }

  -- ---- in strict order

  pub Rising-append : (rank : Y → List ℕ) (xs ys : List Y) → Rising rank xs → Rising rank ys → AllByRecursion (λ x. AllByRecursion (λ y. comes_before (rank y) (rank x) ≡ false) ys) xs → Rising rank (xs ++ ys)
  Rising-append rank [] ys p q apart = q
  Rising-append rank (x ∷ xs) ys p q apart = (each-append (λ y. comes_before (rank y) (rank x) ≡ false) xs ys p.0 apart.0, Rising-append rank xs ys p.1 q apart.1)

  -- where what each number gives is in order, and has a lesser key than what later ones give
  pub Rising-gather : (rank : Y → List ℕ) (P : ℕ → Y → Type 0) (h : ℕ → List Y) (k n : ℕ) → ((j : ℕ) → Rising rank (h j)) → ((j : ℕ) → AllByRecursion (P j) (h j))
      → ((i j : ℕ) (x y : Y) → i < j → P i x → P j y → comes_before (rank y) (rank x) ≡ false) → Rising rank (gather h k n)
  unfolding gather
  Rising-gather rank P h k zero rising keyed apart = tt
  Rising-gather rank P h k (suc n) rising keyed apart =
      Rising-append rank (h k) (gather h (k + 1) n) (rising k) (Rising-gather rank P h (k + 1) n rising keyed apart)
      (each-map (P k) (λ x. AllByRecursion (λ y. comes_before (rank y) (rank x) ≡ false) (gather h (k + 1) n))
      (λ x here. each-gather (λ y. comes_before (rank y) (rank x) ≡ false) h (k + 1) n
      (λ j low _. each-map (P j) (λ y. comes_before (rank y) (rank x) ≡ false) (λ y there. apart k j x y (omega arith) here there) (h j) (keyed j)))
      (h k) (keyed k))

  -- ---- in another order

  pub permutation-crossed : (a b c d : List Y) → IsPermutation ((a ++ b) ++ (c ++ d)) ((a ++ c) ++ (b ++ d))
  permutation-crossed a b c d =
      let middle : IsPermutation (b ++ (c ++ d)) (c ++ (b ++ d)) =
      subst (λ zs. IsPermutation (b ++ (c ++ d)) zs) (append_assoc c b d)
      (subst (λ zs. IsPermutation zs ((c ++ b) ++ d)) (append_assoc b c d) (IsPermutation-append_left d (b ++ c) (c ++ b) (IsPermutation-append_comm b c))) in
      subst (λ zs. IsPermutation ((a ++ b) ++ (c ++ d)) zs) (sym (append_assoc a c (b ++ d)))
      (subst (λ zs. IsPermutation zs (a ++ (c ++ (b ++ d)))) (sym (append_assoc a b (c ++ d))) (IsPermutation-append_right a (b ++ (c ++ d)) (c ++ (b ++ d)) middle))

  pub gather-permuted : (h h' : ℕ → List Y) (k n : ℕ) → ((j : ℕ) → IsPermutation (h j) (h' j)) → IsPermutation (gather h k n) (gather h' k n)
  unfolding gather
  gather-permuted h h' k zero each = IsPermutation-refl []
  gather-permuted h h' k (suc n) each = IsPermutation-append (h k) (h' k) (gather h (k + 1) n) (gather h' (k + 1) n) (each k) (gather-permuted h h' (k + 1) n each)

  pub gather-both : (h h' : ℕ → List Y) (k n : ℕ) → IsPermutation (gather h k n ++ gather h' k n) (gather (λ j. h j ++ h' j) k n)
  unfolding gather
  gather-both h h' k zero = IsPermutation-refl []
  gather-both h h' k (suc n) =
      IsPermutation-trans ((h k ++ gather h (k + 1) n) ++ (h' k ++ gather h' (k + 1) n)) ((h k ++ h' k) ++ (gather h (k + 1) n ++ gather h' (k + 1) n)) ((h k ++ h' k) ++ gather (λ j. h j ++ h' j) (k + 1) n)
      (permutation-crossed (h k) (gather h (k + 1) n) (h' k) (gather h' (k + 1) n))
      (IsPermutation-append_right (h k ++ h' k) (gather h (k + 1) n ++ gather h' (k + 1) n) (gather (λ j. h j ++ h' j) (k + 1) n) (gather-both h h' (k + 1) n))
