-- Sums over the views of all seats.
use Rattle.std.proofs.Common.{◌≡◌, ◌≢◌, ℕ, zero, suc, ◌+◌, ◌≤◌, List, [], ◌∷◌, ◌++◌, set, refl, sym, ap, arith}
use mathlib.Core.Option.{some, some-injective, some-ne-none}
use lib.ListN.{get_elem?}
use Rattle.boss_lock.specs.Places.{total}

module _ {A : Type 0} where
  pub total_set : (f : A → ℕ) (l : List A) (i : ℕ) (a w : A) → get_elem? l i ≡ some a → total f (set l i w) + f a ≡ total f l + f w
  total_set f [] i a w e = absurd (some-ne-none a (sym e))
  total_set f (x ∷ xs) zero a w e = let h : f x ≡ f a = ap f (some-injective x a e) in omega arith
  total_set f (x ∷ xs) (suc i) a w e = let h = total_set f xs i a w e in omega arith

  pub total_snoc : (f : A → ℕ) (l : List A) (w : A) → total f (l ++ w ∷ []) ≡ total f l + f w
  total_snoc f [] w = omega arith
  total_snoc f (x ∷ xs) w = let h = total_snoc f xs w in omega arith

  pub total_at : (f : A → ℕ) (l : List A) (i : ℕ) (a : A) → get_elem? l i ≡ some a → f a ≤ total f l
  total_at f [] i a e = absurd (some-ne-none a (sym e))
  total_at f (x ∷ xs) zero a e = let h : f x ≡ f a = ap f (some-injective x a e) in omega arith
  total_at f (x ∷ xs) (suc i) a e = let h = total_at f xs i a e in omega arith

  -- two terms of a sum
  pub total_two : (f : A → ℕ) (l : List A) (i j : ℕ) (a b : A) → i ≢ j → get_elem? l i ≡ some a → get_elem? l j ≡ some b → f a + f b ≤ total f l
  total_two f [] i j a b n e e' = absurd (some-ne-none a (sym e))
  total_two f (x ∷ xs) zero zero a b n e e' = absurd (n refl)
  total_two f (x ∷ xs) zero (suc j) a b n e e' = let h : f x ≡ f a = ap f (some-injective x a e) in let k = total_at f xs j b e' in omega arith
  total_two f (x ∷ xs) (suc i) zero a b n e e' = let h : f x ≡ f b = ap f (some-injective x b e') in let k = total_at f xs i a e in omega arith
  total_two f (x ∷ xs) (suc i) (suc j) a b n e e' = let h = total_two f xs i j a b (λ q. n (ap suc q)) e e' in omega arith

  pub total_le : (f g : A → ℕ) (l : List A) → ((i : ℕ) (a : A) → get_elem? l i ≡ some a → f a ≤ g a) → total f l ≤ total g l
  total_le f g [] h = omega arith
  total_le f g (x ∷ xs) h = let p = h 0 x refl in let q = total_le f g xs (λ i a e. h (suc i) a e) in omega arith

  -- where no term of f is above that of g, one place's lead is a lead of the sums
  pub total_le_but : (f g : A → ℕ) (l : List A) (i : ℕ) (a : A) → ((j : ℕ) (b : A) → get_elem? l j ≡ some b → f b ≤ g b) → get_elem? l i ≡ some a → total f l + g a ≤ total g l + f a
  total_le_but f g [] i a h e = absurd (some-ne-none a (sym e))
  total_le_but f g (x ∷ xs) zero a h e =
      let p : f x ≡ f a = ap f (some-injective x a e) in
      let q : g x ≡ g a = ap g (some-injective x a e) in
      let r = total_le f g xs (λ j b e. h (suc j) b e) in omega arith
  total_le_but f g (x ∷ xs) (suc i) a h e =
      let p = h 0 x refl in let q = total_le_but f g xs i a (λ j b e. h (suc j) b e) e in omega arith

  -- a sum of which each term is 0 where f's is
  pub total_none : (f g : A → ℕ) (l : List A) → ((j : ℕ) (b : A) → get_elem? l j ≡ some b → f b ≡ 0 → g b ≡ 0) → total f l ≡ 0 → total g l ≡ 0
  total_none f g [] h z = refl
  total_none f g (x ∷ xs) h z = let p = h 0 x refl (omega arith) in let q = total_none f g xs (λ j b e. h (suc j) b e) (omega arith) in omega arith

  -- where one term of f is the whole sum, so is that term of g
  pub total_only : (f g : A → ℕ) (l : List A) (i : ℕ) (a : A) → ((j : ℕ) (b : A) → get_elem? l j ≡ some b → f b ≡ 0 → g b ≡ 0) → get_elem? l i ≡ some a → total f l ≡ f a → total g l ≡ g a
  total_only f g [] i a h e all = absurd (some-ne-none a (sym e))
  total_only f g (x ∷ xs) zero a h e all =
      let p : f x ≡ f a = ap f (some-injective x a e) in
      let q : g x ≡ g a = ap g (some-injective x a e) in
      let r = total_none f g xs (λ j b e. h (suc j) b e) (omega arith) in omega arith
  total_only f g (x ∷ xs) (suc i) a h e all =
      let m = total_at f xs i a e in
      let p = h 0 x refl (omega arith) in
      let q = total_only f g xs i a (λ j b e. h (suc j) b e) e (omega arith) in omega arith
