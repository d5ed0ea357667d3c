-- Tests of lists whose items are changed, and lists in order under a change that keeps ranks.
use Rattle.std.proofs.Common.{◌≡◌, ℕ, List, [], ◌∷◌, map, Bool, true, ◌||◌, cond, refl, ap, sym, ◌∙◌, arith}
use Rattle.std.specs.List.{list_any}
use Rattle.std.proofs.lemmas.Bool.{cond_both}
use Rattle.boss_model.specs.Order.{comes_before, put, in_order}

pub any-alike : {X Y : Type 0} (p : X → Bool) (q : Y → Bool) (f : X → Y) → ((x : X) → q (f x) ≡ p x) → (xs : List X) → list_any q (map f xs) ≡ list_any p xs
any-alike p q f same [] = refl
any-alike p q f same (x ∷ xs) = λ i. same x i || any-alike p q f same xs i

pub any-weaker : {X Y : Type 0} (p : X → Bool) (q : Y → Bool) (f : X → Y) → ((x : X) → p x ≡ true → q (f x) ≡ true) → (xs : List X) → list_any p xs ≡ true → list_any q (map f xs) ≡ true
any-weaker p q f passes [] one = one
any-weaker p q f passes (x ∷ xs) one = grind (arith, passes x, any-weaker p q f passes xs)

module _ {X : Type 0} (rank : X → List ℕ) (f : X → X) (keeps : (x : X) → rank (f x) ≡ rank x) where
  put-map : (x : X) (ys : List X) → put rank (f x) (map f ys) ≡ map f (put rank x ys)
  put-map x [] = refl
  put-map x (y ∷ ys) =
      let same : comes_before (rank (f x)) (rank (f y)) ≡ comes_before (rank x) (rank y) = λ i. comes_before (keeps x i) (keeps y i) in
      ap (λ b. cond b (f x ∷ f y ∷ map f ys) (f y ∷ put rank (f x) (map f ys))) same
      ∙ cond_both (comes_before (rank x) (rank y)) (x ∷ y ∷ ys) (y ∷ put rank x ys)
      (λ zs. cond (comes_before (rank x) (rank y)) (f x ∷ f y ∷ map f ys) (f y ∷ put rank (f x) (map f ys)) ≡ map f zs)
      (λ first. rw first refl) (λ behind. rw behind (ap (λ zs. f y ∷ zs) (put-map x ys)))

  pub in_order-map : (xs : List X) → in_order rank (map f xs) ≡ map f (in_order rank xs)
  in_order-map [] = refl
  in_order-map (x ∷ xs) = ap (put rank (f x)) (in_order-map xs) ∙ put-map x (in_order rank xs)

  pub ranks-map : (xs : List X) → map rank xs ≡ map rank (map f xs)
  ranks-map [] = refl
  ranks-map (x ∷ xs) = λ i. sym (keeps x) i ∷ ranks-map xs i
