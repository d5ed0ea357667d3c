-- Lists that a loop makes of numbers, one after another.
use Rattle.std.proofs.Common.{◌≡◌, ℕ, zero, suc, ◌+◌, List, [], ◌∷◌, ◌++◌, refl, ap, sym, ◌∙◌, arith, append_assoc, append-nil}
use Rattle.std.specs.List.{flat_map, range_with_len}

next : {A : Type 0} (f : ℕ → List A) (a n : ℕ) → flat_map f (range_with_len a (suc n)) ≡ flat_map f (range_with_len a n) ++ f (n + a)
next f a zero = let first : a ≡ 0 + a = omega arith in append-nil (f a) ∙ ap f first
next f a (suc n) =
    let last : n + (a + 1) ≡ suc n + a = omega arith in
    ap (λ xs. f a ++ xs) (next f (a + 1) n ∙ ap (λ x. flat_map f (range_with_len (a + 1) n) ++ f x) last)
    ∙ sym (append_assoc (f a) (flat_map f (range_with_len (a + 1) n)) (f (suc n + a)))

-- what is made of one number more stands at the end
pub flat_map_next : {A : Type 0} (f : ℕ → List A) (a n : ℕ) → flat_map f (range_with_len a (n + 1)) ≡ flat_map f (range_with_len a n) ++ f (n + a)
flat_map_next f a n = let more : n + 1 ≡ suc n = omega arith in ap (λ k. flat_map f (range_with_len a k)) more ∙ next f a n

-- four texts put behind another, one after another
pub four : {A : Type 0} {after-first after-second after-third after-fourth : List A} (before first second third fourth : List A) →
    after-first ≡ before ++ first → after-second ≡ after-first ++ second → after-third ≡ after-second ++ third → after-fourth ≡ after-third ++ fourth →
    after-fourth ≡ before ++ (((first ++ second) ++ third) ++ fourth)
four before first second third fourth a b c d =
    d ∙ ap (λ xs. xs ++ fourth) (c ∙ ap (λ xs. xs ++ third) (b ∙ ap (λ xs. xs ++ second) a ∙ append_assoc before first second) ∙ append_assoc before (first ++ second) third)
    ∙ append_assoc before ((first ++ second) ++ third) fourth
